-- What a run of `solve` promises, as a reader asks it.
use Rattle.std.specs.Prelude.{◌≡◌, ◌≢◌, ℕ, ◌+◌, ◌⊎◌, List, [], ◌++◌, length, true, ⊤}
use Rattle.std.specs.Io.KnownBytes.{Consumes}
use Rattle.fm_files.specs.Seen.{Seen, SameButAt, Holds, NoFault, HasRoom}
use Rattle.fm_sexp.specs.Items.{ReadsAs, IsRefused}
use Rattle.fm_sexp.specs.declared.items.Sexp.{Sexp}
use Rattle.fm_cert.specs.Claims.{IsGoodCertificate}
use Rattle.fm_cert.specs.Spelling.{spelling_of_certificate}
use Rattle.fm_cert.specs.declared.block.Block.{Block}
use Rattle.fm_session.specs.declared.budget.Budget.{Budget}
use Rattle.fm_session.specs.Problems.{problems_of}
use Rattle.fm_session.specs.Replies.{AreAnswered}
use Rattle.fm_base.specs.declared.refusal.Reason.{Reason}
use Rattle.fm_base.specs.declared.refusal.Refusal.{Refusal}
use Rattle.fm_session.specs.Replies.{refusal_reply}
use Rattle.fmf.specs.Answers.{Script, Work, IsNext, certificate}
use Rattle.fmf.specs.Filing.{HasBoth}
use Rattle.fmf.specs.Solved.{at_start, longest}
use Rattle.fmf.specs.Words.{Request, dash}
use Rattle.fmf.specs.declared.status.Status.{Status}

-- the certificate's file is the text of blocks that are good for the script, and each claim holds of what is in force at
-- its `check-sat`: a least model, no model, or a budget that a run reached
pub record Certifies (r : Request) (old new : Seen) : Type 0 where
  pub text : List ℕ
  pub items : List Sexp
  pub blocks : List Block
  pub taken : Consumes (old.left r.script) (new.left r.script) text
  pub reads : ReadsAs text items
  pub file : Holds (old.written r.cert) (new.written r.cert) (spelling_of_certificate blocks)
  pub answered : AreAnswered r.budget 0 (problems_of text items) blocks
  pub good : IsGoodCertificate (problems_of text items) blocks

-- a refusal of the whole text leaves the certificate's file alone
abbrev pub Claims : Request → Seen → Seen → Status → Type 0
Claims r old new Status.Done = Certifies r old new
Claims r old new Status.Script = Certifies r old new ⊎ (new.written r.cert ≡ old.written r.cert)
Claims r old new Status.Memory = ⊤
Claims r old new Status.WriteFault = ⊤
Claims r old new Status.ReadFault = ⊤
Claims r old new Status.Usage = ⊤
Claims r old new Status.Rejected = ⊥

-- only the script is read, and only the output and the certificate's file are written
pub record LeavesOthers (r : Request) (old new : Seen) : Type 0 where
  pub left : SameButAt old.left new.left r.script
  pub written : (name : List ℕ) → name ≢ r.cert → name ≢ dash → new.written name ≡ old.written name

-- no write fault, and no count rose
abbrev pub Calm : Seen → Seen → Status → Type 0
Calm old new status = (status ≢ Status.WriteFault) × NoFault old new

-- the answers to the items were made so far: with sure room for their texts, and for the next that was made, all is calm
pub record CompleteItems (script : Script) (cert : List ℕ) (old new : Seen) (status : Status) : Type 0 where
  pub work : Work script
  pub block : List ℕ
  pub reply : List ℕ
  pub next : IsNext work block reply ⊎ ((block ≡ []) × (reply ≡ []))
  pub calm : HasBoth cert old (certificate work ++ block) (work.replies ++ reply) → Calm old new status

abbrev pub CompleteReply : Refusal → Seen → Seen → Status → Type 0
CompleteReply refusal old new status = HasRoom (old.room dash) (length (refusal_reply refusal)) → Calm old new status

abbrev pub CompleteText : Budget → List ℕ → List ℕ → Seen → Seen → Status → Type 0
CompleteText budget text cert old new status =
    ((items : List Sexp) × ReadsAs text items × CompleteItems (record { budget = budget; text = text; items = items }) cert old new status)
    ⊎ (((refusal : Refusal) × IsRefused text refusal × CompleteReply refusal old new status) ⊎ Calm old new status)

-- where reading is sure there is no read fault, and with sure room for the texts that were made no write fault, and no
-- count rises: the script was read whole, or is too long, or nothing was tried
pub record Completes (r : Request) (old new : Seen) (status : Status) : Type 0 where
  pub read : status ≢ Status.ReadFault
  pub rest : ((text : List ℕ) × Consumes (old.left r.script) (new.left r.script) text × CompleteText r.budget text r.cert old new status) ⊎ (((text : List ℕ) × Consumes (old.left r.script) (new.left r.script) text × (length text ≡ longest + 1) × CompleteReply (at_start Reason.TooLong) old new status) ⊎ Calm old new status)

-- completeness
abbrev pub IsComplete : Request → Seen → Seen → Status → Type 0
IsComplete r old new status = old.is_sure r.script ≡ true → Completes r old new status
