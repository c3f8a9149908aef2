-- What a run of `solve` leaves behind, by its status.
use Rattle.std.specs.Prelude.{◌≡◌, ℕ, ◌+◌, ◌≤◌, ◌⊎◌, List, ◌++◌, length, true}
use Rattle.std.specs.Io.KnownBytes.{Consumes, IsAtEnd}
use Rattle.fm_base.specs.declared.refusal.Reason.{Reason}
use Rattle.fm_base.specs.declared.refusal.Refusal.{Refusal}
use Rattle.fm_files.specs.Seen.{Seen, SameByName, OnlyReads, OnlyWrites, NoFault, Rose}
use Rattle.fm_sexp.specs.Items.{ReadsAs, IsRefused}
use Rattle.fm_sexp.specs.declared.items.Sexp.{Sexp}
use Rattle.fm_session.specs.declared.budget.Budget.{Budget}
use Rattle.fm_session.specs.Replies.{refusal_reply}
use Rattle.fmf.specs.Answers.{Script, Work, IsOver, IsRefusedNext, IsNext, certificate}
use Rattle.fmf.specs.Filing.{Filed, Cut, CountsRose, Idle, Unopened, Replied, RepliedPart}
use Rattle.fmf.specs.Words.{Request}
use Rattle.fmf.specs.declared.status.Status.{Status}

-- the longest script, in bytes
abbrev pub longest : ℕ
longest = 16777216

-- the place of a refusal that stands for the whole text
abbrev pub at_start : Reason → Refusal
at_start reason = record { reason = reason; at = record { line = 1; column = 1 } }

-- the items of a script were carried out: all of them, or up to a refused one, or up to a fault or want of memory
abbrev pub Answered : Script → List ℕ → Seen → Seen → Status → Type 0
Answered script cert old new Status.Done = (w : Work script) × IsOver w × Filed cert old new (certificate w) w.replies
Answered script cert old new Status.Script = (w : Work script) × (r : Refusal) × IsRefusedNext w r × Filed cert old new (certificate w) (w.replies ++ refusal_reply r)
Answered script cert old new Status.Memory = (w : Work script) × Filed cert old new (certificate w) w.replies
Answered script cert old new Status.WriteFault = Unopened cert old new ⊎ ((w : Work script) × (block : List ℕ) × (reply : List ℕ) × IsNext w block reply × Cut cert old new (certificate w) w.replies block reply)
Answered script cert old new Status.Usage = ⊥
Answered script cert old new Status.ReadFault = ⊥
Answered script cert old new Status.Rejected = ⊥

-- the whole text was refused
abbrev pub Refused : Refusal → Seen → Seen → Status → Type 0
Refused refusal old new Status.Script = Replied old new (refusal_reply refusal)
Refused refusal old new Status.WriteFault = RepliedPart old new (refusal_reply refusal)
Refused refusal old new Status.Memory = Idle old new
Refused refusal old new Status.Done = ⊥
Refused refusal old new Status.Usage = ⊥
Refused refusal old new Status.ReadFault = ⊥
Refused refusal old new Status.Rejected = ⊥

-- a text was answered: it reads as items, or is refused, or memory was wanted before anything
abbrev pub Wrote : Budget → List ℕ → List ℕ → Seen → Seen → Status → Type 0
Wrote budget text cert old new status =
    ((items : List Sexp) × ReadsAs text items × Answered (record { budget = budget; text = text; items = items }) cert old new status)
    ⊎ (((refusal : Refusal) × IsRefused text refusal × Refused refusal old new status)
    ⊎ ((status ≡ Status.Memory) × Idle old new))

-- the text was taken from the script, and nothing written; where its reading is sure no count rose
pub record Took (script : List ℕ) (old new : Seen) (text : List ℕ) : Type 0 where
  pub taken : Consumes (old.left script) (new.left script) text
  pub leaves : OnlyReads old new script
  pub quiet : old.is_sure script ≡ true → NoFault old new

-- first the script was read to its end, and then its text answered
pub record ReadWhole (r : Request) (old new : Seen) (status : Status) : Type 0 where
  pub between : Seen
  pub text : List ℕ
  pub took : Took r.script old between text
  pub ended : IsAtEnd (between.left r.script)
  pub fits : length text ≤ longest
  pub wrote : Wrote r.budget text r.cert between new status
  pub writes : OnlyWrites between new

-- the script is too long, which its first bytes show
pub record ReadTooMuch (r : Request) (old new : Seen) (status : Status) : Type 0 where
  pub between : Seen
  pub text : List ℕ
  pub took : Took r.script old between text
  pub long : length text ≡ longest + 1
  pub refused : Refused (at_start Reason.TooLong) between new status
  pub writes : OnlyWrites between new

-- reading failed, or memory was wanted for it
pub record ReadFailed (r : Request) (old new : Seen) (status : Status) : Type 0 where
  pub answer : ((status ≡ Status.ReadFault) × (old.is_sure r.script ≡ true → ⊥)) ⊎ (status ≡ Status.Memory)
  pub leaves : OnlyReads old new r.script
  pub quiet : old.is_sure r.script ≡ true → NoFault old new

abbrev pub Solved : Request → Seen → Seen → Status → Type 0
Solved r old new status = ReadWhole r old new status ⊎ (ReadTooMuch r old new status ⊎ ReadFailed r old new status)

-- a run that changed nothing
abbrev pub Unchanged : Seen → Seen → Type 0
Unchanged old new = SameByName old.left new.left × SameByName old.written new.written × NoFault old new

-- a fault is answered only where a count of a file that is read, or written, rose
pub record HasCauses (r : Request) (old new : Seen) (status : Status) : Type 0 where
  pub reading : status ≡ Status.ReadFault → Rose (old.read_faults r.script) (new.read_faults r.script)
  pub writing : status ≡ Status.WriteFault → CountsRose r.cert old new
