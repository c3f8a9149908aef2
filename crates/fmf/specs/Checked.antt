-- What a run of `check` leaves behind, by its status.
use Rattle.std.specs.Prelude.{◌≡◌, ◌≢◌, ℕ, ◌+◌, ◌≤◌, ◌⊎◌, List, length, true, codes, ⊤}
use Rattle.std.specs.Io.KnownBytes.{Consumes, IsAtEnd}
use Rattle.fm_base.specs.declared.refusal.Reason.{Reason}
use Rattle.fm_base.specs.declared.refusal.Refusal.{Refusal}
use Rattle.fm_sexp.specs.declared.items.Sexp.{Sexp}
use Rattle.fm_files.specs.Seen.{Extends, NoFault, OnlyReads, OnlyWrites, Rose, Seen}
use Rattle.fm_cert.specs.declared.block.Block.{Block}
use Rattle.fm_cert.specs.declared.block.Claim.{Claim}
use Rattle.fm_check.specs.Printed.{accepted_text, rejected_text, rule_text, verdict_text}
use Rattle.fm_check.specs.Scripts.{IsAccepted, IsRefusal, problems_of}
use Rattle.fm_check.specs.Verdicts.{ClaimsHold, HoldOf, IsVerdict, claims_of}
use Rattle.fm_check.specs.declared.verdict.Verdict.{Verdict}
use Rattle.fm_blocks.specs.Faults.{IsFirstFault, IsGoodText, fault_at}
use Rattle.fm_blocks.specs.declared.verdict.Rule.{Rule}
use Rattle.fmf.specs.Filing.{Idle, Replied, RepliedPart}
use Rattle.fmf.specs.Solved.{Refused, Took, at_start, longest}
use Rattle.fmf.specs.Words.{Inquiry, dash}
use Rattle.fmf.specs.declared.status.Status.{Status}

-- the longest certificate, in bytes
abbrev pub longest_cert : ℕ
longest_cert = 1073741824

-- the line that rejects a certificate that is too long
abbrev pub long_text : List ℕ
long_text = rejected_text 0 (codes "long")

abbrev pub status_of : Verdict → Status
status_of (Verdict.Accepted claims) = Status.Done
status_of (Verdict.Rejected line rule) = Status.Rejected

-- a write fault of the name
abbrev pub WritesRose : Seen → Seen → List ℕ → Type 0
WritesRose old new name = Rose (old.write_faults name) (new.write_faults name)

-- nothing was written for want of memory
abbrev pub IsWant : Seen → Seen → Status → Type 0
IsWant old new status = (status ≡ Status.Memory) × Idle old new

-- a text was written, and the status is this; or its writing failed
abbrev pub Tells : List ℕ → Status → Seen → Seen → Status → Type 0
Tells text good old new status = ((status ≡ good) × Replied old new text) ⊎ ((status ≡ Status.WriteFault) × RepliedPart old new text)

-- a verdict on a certificate's text, and its lines
pub record TellsVerdict (script : List ℕ) (items : List Sexp) (cert : List ℕ) (old new : Seen) (status : Status) : Type 0 where
  pub verdict : Verdict
  pub is : IsVerdict (problems_of script items) cert verdict
  pub holds : ClaimsHold (problems_of script items) verdict
  pub told : Tells (verdict_text (length (problems_of script items)) verdict) (status_of verdict) old new status

-- the certificate was read to its end, and the verdict told
pub record CertRead (name script : List ℕ) (items : List Sexp) (old new : Seen) (status : Status) : Type 0 where
  pub between : Seen
  pub cert : List ℕ
  pub took : Took name old between cert
  pub ended : IsAtEnd (between.left name)
  pub fits : length cert ≤ longest_cert
  pub told : TellsVerdict script items cert between new status ⊎ IsWant between new status
  pub writes : OnlyWrites between new

-- the certificate is too long, which its first bytes show
pub record CertTooLong (name : List ℕ) (old new : Seen) (status : Status) : Type 0 where
  pub between : Seen
  pub cert : List ℕ
  pub took : Took name old between cert
  pub long : length cert ≡ longest_cert + 1
  pub told : Tells long_text Status.Rejected between new status ⊎ IsWant between new status
  pub writes : OnlyWrites between new

-- reading a file failed, or memory was wanted for it
pub record Unread (name : List ℕ) (old new : Seen) (status : Status) : Type 0 where
  pub answer : ((status ≡ Status.ReadFault) × (old.is_sure name ≡ true → ⊥)) ⊎ (status ≡ Status.Memory)
  pub leaves : OnlyReads old new name
  pub quiet : old.is_sure name ≡ true → NoFault old new

abbrev pub CertIsChecked : List ℕ → List ℕ → List Sexp → Seen → Seen → Status → Type 0
CertIsChecked name script items old new status = CertRead name script items old new status ⊎ (CertTooLong name old new status ⊎ Unread name old new status)

-- a script that has a refusal is answered by its reply, and the certificate isn't read
pub record ScriptIsRefused (script : List ℕ) (old new : Seen) (status : Status) : Type 0 where
  pub refusal : Refusal
  pub is : IsRefusal script refusal
  pub refused : Refused refusal old new status
  pub writes : OnlyWrites old new

pub record ScriptIsAccepted (name script : List ℕ) (old new : Seen) (status : Status) : Type 0 where
  pub items : List Sexp
  pub accepted : IsAccepted script items
  pub checked : CertIsChecked name script items old new status

pub record ScriptWants (old new : Seen) (status : Status) : Type 0 where
  pub want : IsWant old new status
  pub writes : OnlyWrites old new

abbrev pub ScriptIsJudged : List ℕ → List ℕ → Seen → Seen → Status → Type 0
ScriptIsJudged name script old new status = ScriptIsAccepted name script old new status ⊎ (ScriptIsRefused script old new status ⊎ ScriptWants old new status)

-- first the script was read to its end and judged
pub record ScriptRead (q : Inquiry) (old new : Seen) (status : Status) : Type 0 where
  pub between : Seen
  pub script : List ℕ
  pub took : Took q.script old between script
  pub ended : IsAtEnd (between.left q.script)
  pub fits : length script ≤ longest
  pub judged : ScriptIsJudged q.cert script between new status

-- the script is too long, which its first bytes show
pub record ScriptTooLong (q : Inquiry) (old new : Seen) (status : Status) : Type 0 where
  pub between : Seen
  pub script : List ℕ
  pub took : Took q.script old between script
  pub long : length script ≡ longest + 1
  pub refused : Refused (at_start Reason.TooLong) between new status
  pub writes : OnlyWrites between new

abbrev pub Checked : Inquiry → Seen → Seen → Status → Type 0
Checked q old new status = ScriptRead q old new status ⊎ (ScriptTooLong q old new status ⊎ Unread q.script old new status)

-- What it promises, as a reader asks it.

-- both files were read, and the script has no refusal
pub record AreRead (q : Inquiry) (old new : Seen) (script : List ℕ) (items : List Sexp) (cert : List ℕ) : Type 0 where
  pub script_taken : Consumes (old.left q.script) (new.left q.script) script
  pub cert_taken : Consumes (old.left q.cert) (new.left q.cert) cert
  pub accepted : IsAccepted script items

-- the certificate is good for the script, each claim holds, and this is told
pub record Accepts (q : Inquiry) (old new : Seen) : Type 0 where
  pub script : List ℕ
  pub items : List Sexp
  pub cert : List ℕ
  pub blocks : List Block
  pub read : AreRead q old new script items cert
  pub fits : length cert ≤ longest_cert
  pub good : IsGoodText (problems_of script items) cert blocks
  pub hold : HoldOf (problems_of script items) (claims_of blocks)
  pub told : Extends (old.written dash) (new.written dash) (accepted_text (length (problems_of script items)) (claims_of blocks))

-- the certificate's first fault is told, or that it is too long
pub record Rejects (q : Inquiry) (old new : Seen) : Type 0 where
  pub script : List ℕ
  pub items : List Sexp
  pub cert : List ℕ
  pub read : AreRead q old new script items cert
  pub told : ((line : ℕ) × (rule : Rule) × IsFirstFault (problems_of script items) cert (fault_at line rule) × Extends (old.written dash) (new.written dash) (rejected_text line (rule_text rule)))
      ⊎ ((length cert ≡ longest_cert + 1) × Extends (old.written dash) (new.written dash) long_text)

abbrev pub Verifies : Inquiry → Seen → Seen → Status → Type 0
Verifies q old new Status.Done = Accepts q old new
Verifies q old new Status.Rejected = Rejects q old new
Verifies q old new Status.Script = ⊤
Verifies q old new Status.Memory = ⊤
Verifies q old new Status.WriteFault = ⊤
Verifies q old new Status.ReadFault = ⊤
Verifies q old new Status.Usage = ⊥

-- only the two files are read, and only the output is written
pub record LeavesAlone (q : Inquiry) (old new : Seen) : Type 0 where
  pub left : (name : List ℕ) → name ≢ q.script → name ≢ q.cert → new.left name ≡ old.left name
  pub written : (name : List ℕ) → name ≢ dash → new.written name ≡ old.written name

-- a fault is answered only where a count of a file that is read, or of the output, rose
pub record HasCheckCauses (q : Inquiry) (old new : Seen) (status : Status) : Type 0 where
  pub reading : status ≡ Status.ReadFault → Rose (old.read_faults q.script) (new.read_faults q.script) ⊎ Rose (old.read_faults q.cert) (new.read_faults q.cert)
  pub writing : status ≡ Status.WriteFault → WritesRose old new dash
