-- Items that were answered between two states of the files.
use Rattle.std.specs.Prelude.{ℕ, ◌-◌, ◌≤◌, List, [], length}
use Rattle.fm_files.specs.Seen.{HasRoom, NoFault, OnlyWrites, Seen}
use Rattle.fm_sexp.specs.declared.items.Sexp.{Sexp}
use Rattle.fm_cert.specs.Spelling.{spelling_of_certificate}
use Rattle.fm_cert.specs.declared.block.Block.{Block}
use Rattle.fm_session.specs.Kept.{Kept, past_of}
use Rattle.fm_session.specs.Replies.{Past, start}
use Rattle.fm_session.specs.Steps.{Goes}
use Rattle.fmf.specs.Answers.{Script}
use Rattle.fmf.specs.Filing.{Stands}
use Rattle.fmf.specs.Solved.{Answered}
use Rattle.fmf.specs.Words.{dash}
use Rattle.fmf.specs.declared.status.Status.{Status}

-- the items `done` were answered between the two states, up to the session's state t
pub record Reached (script : Script) (cert : List ℕ) (done : List Sexp) (t : Past) (old new : Seen) : Type 0 where
  pub blocks : List Block
  pub replies : List ℕ
  pub goes : Goes script.text (start script.budget) done blocks replies t
  pub bytes : Stands cert old.written new.written (spelling_of_certificate blocks) replies
  pub rooms : (out file : ℕ) → length replies ≤ out → length (spelling_of_certificate blocks) ≤ file → HasRoom (old.room dash) out → HasRoom (old.room cert) file → HasRoom (new.room dash) (out - length replies) × HasRoom (new.room cert) (file - length (spelling_of_certificate blocks)) × NoFault old new
  pub leaves : OnlyWrites old new

-- the script that a session begins
abbrev pub script_of : Kept → List ℕ → List Sexp → Script
script_of session text items = record { budget = session.budget; text = text; items = items }

-- where no item was answered yet, all are answered after it, as far as the status says
abbrev pub Answers : Kept → List ℕ → List Sexp → List ℕ → Seen → Seen → Status → Type 0
Answers session text items cert mid new status = (old : Seen) → Reached (script_of session text items) cert [] (past_of session) old mid → Answered (script_of session text items) cert old new status
