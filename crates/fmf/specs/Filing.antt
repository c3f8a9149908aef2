-- What stands in the certificate's file and on the output, and what room it needs.
use Rattle.std.specs.Prelude.{◌≡◌, ◌≢◌, ℕ, ◌-◌, ◌⊎◌, List, [], ◌++◌, length, Option}
use Rattle.fm_files.specs.Seen.{Extends, Seen, SameByName, Holds, ExtendsPart, NoFault, HasRoom, Rose}
use Rattle.fm_cert.specs.Spelling.{header}
use Rattle.fmf.specs.Words.{dash}

abbrev pub Written : Type 0
Written = List ℕ → Option (List ℕ)

-- the bytes of all names but two are as before
abbrev pub Others : List ℕ → Written → Written → Type 0
Others cert old new = (name : List ℕ) → name ≢ cert → name ≢ dash → new name ≡ old name

-- there is sure room for so many bytes of the certificate and of the output
abbrev pub HasBoth : List ℕ → Seen → List ℕ → List ℕ → Type 0
HasBoth cert seen file out = HasRoom (seen.room dash) (length out) × HasRoom (seen.room cert) (length file)

-- the certificate's file is this text, and the output grew by this text
pub record Stands (cert : List ℕ) (old new : Written) (file out : List ℕ) : Type 0 where
  pub certificate : Holds (old cert) (new cert) file
  pub output : Extends (old dash) (new dash) out
  pub others : Others cert old new

-- these texts stand and the next two are cut off: in the block, or the block is whole and the reply is cut off
pub record StandsPart (cert : List ℕ) (old new : Written) (file out block reply : List ℕ) : Type 0 where
  pub front : List ℕ
  pub back : List ℕ
  pub cut : ((block ≡ front ++ back) × Stands cert old new (file ++ front) out) ⊎ ((reply ≡ front ++ back) × Stands cert old new (file ++ block) (out ++ front))

-- these texts were written; with sure room for them no count rose
pub record Filed (cert : List ℕ) (old new : Seen) (file out : List ℕ) : Type 0 where
  pub bytes : Stands cert old.written new.written file out
  pub quiet : HasBoth cert old file out → NoFault old new

-- these texts were written and the next two cut off; there was no sure room for all
pub record Cut (cert : List ℕ) (old new : Seen) (file out block reply : List ℕ) : Type 0 where
  pub bytes : StandsPart cert old.written new.written file out block reply
  pub narrow : HasBoth cert old (file ++ block) (out ++ reply) → ⊥

-- the certificate's file wasn't made, or not with its whole header; there was no sure room for it
pub record Unopened (cert : List ℕ) (old new : Seen) : Type 0 where
  pub bytes : SameByName old.written new.written ⊎ StandsPart cert old.written new.written [] [] header []
  pub narrow : HasRoom (old.room cert) (length header) → ⊥

-- nothing was written, and no count rose
pub record Idle (old new : Seen) : Type 0 where
  pub written : SameByName old.written new.written
  pub quiet : NoFault old new

-- the output grew by this text, and nothing else was written; with sure room no count rose
pub record Replied (old new : Seen) (reply : List ℕ) : Type 0 where
  pub output : Extends (old.written dash) (new.written dash) reply
  pub others : (name : List ℕ) → name ≢ dash → new.written name ≡ old.written name
  pub quiet : HasRoom (old.room dash) (length reply) → NoFault old new

-- the same cut off; there was no sure room
pub record RepliedPart (old new : Seen) (reply : List ℕ) : Type 0 where
  pub output : ExtendsPart (old.written dash) (new.written dash) reply
  pub others : (name : List ℕ) → name ≢ dash → new.written name ≡ old.written name
  pub narrow : HasRoom (old.room dash) (length reply) → ⊥

-- a write fault of the output or of the certificate's file
pub record CountsRose (cert : List ℕ) (old new : Seen) : Type 0 where
  pub rose : Rose (old.write_faults cert) (new.write_faults cert) ⊎ Rose (old.write_faults dash) (new.write_faults dash)

-- a block was added to the certificate's file and a reply to the output
pub record Puts (cert : List ℕ) (old new : Written) (block reply : List ℕ) : Type 0 where
  pub file : Extends (old cert) (new cert) block
  pub out : Extends (old dash) (new dash) reply
  pub others : Others cert old new

-- a front of the block was added, and nothing to the output
pub record PutsInBlock (cert : List ℕ) (old new : Written) (block : List ℕ) : Type 0 where
  pub file : ExtendsPart (old cert) (new cert) block
  pub out : new dash ≡ old dash
  pub others : Others cert old new

-- the block was added, and a front of the reply
pub record PutsInReply (cert : List ℕ) (old new : Written) (block reply : List ℕ) : Type 0 where
  pub file : Extends (old cert) (new cert) block
  pub out : ExtendsPart (old dash) (new dash) reply
  pub others : Others cert old new

abbrev pub PutsPart : List ℕ → Written → Written → List ℕ → List ℕ → Type 0
PutsPart cert old new block reply = PutsInBlock cert old new block ⊎ PutsInReply cert old new block reply

-- room for so many more bytes of the output and of the certificate's file is used up
pub record UsesRoom (cert : List ℕ) (old new : Seen) (reply block : ℕ) : Type 0 where
  pub out : (n : ℕ) → HasRoom (old.room dash) n → HasRoom (new.room dash) (n - reply)
  pub file : (n : ℕ) → HasRoom (old.room cert) n → HasRoom (new.room cert) (n - block)
  pub counts : NoFault old new
