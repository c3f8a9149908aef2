-- The answers that were made to the items of a text, and what is due next.
use Rattle.std.specs.Prelude.{◌≡◌, ℕ, ◌⊎◌, true, false, List, [], ◌∷◌, ◌++◌, Err}
use Rattle.std.specs.List.{flat_map}
use Rattle.fm_base.specs.declared.refusal.Refusal.{Refusal}
use Rattle.fm_sexp.specs.declared.items.Sexp.{Sexp}
use Rattle.fm_cert.specs.Spelling.{spelling_of_block, spelling_of_certificate}
use Rattle.fm_cert.specs.declared.block.Block.{Block}
use Rattle.fm_session.specs.declared.budget.Budget.{Budget}
use Rattle.fm_session.specs.Replies.{Past, start, refusal_reply}
use Rattle.fm_session.specs.Steps.{Goes, IsStep, next_of}

-- a text that read as items, and the budget of each `check-sat`
pub record Script : Type 0 where
  pub budget : Budget
  pub text : List ℕ
  pub items : List Sexp

-- the first items were carried out, with these blocks and replies
pub record Work (script : Script) : Type 0 where
  pub done : List Sexp
  pub rest : List Sexp
  pub blocks : List Block
  pub replies : List ℕ
  pub last : Past
  pub split : script.items ≡ done ++ rest
  pub goes : Goes script.text (start script.budget) done blocks replies last

-- nothing is left, or `exit` came
abbrev pub IsOver : {script : Script} → Work script → Type 0
IsOver w = (w.rest ≡ []) ⊎ (w.last.ended ≡ true)

-- the next item is refused
pub record IsRefusedNext {script : Script} (work : Work script) (refusal : Refusal) : Type 0 where
  pub item : Sexp
  pub items : List Sexp
  pub next : work.rest ≡ item ∷ items
  pub goes_on : work.last.ended ≡ false
  pub refused : next_of script.text work.last item ≡ Err refusal

-- the next item is carried out with this block and this reply
pub record IsAnsweredNext {script : Script} (work : Work script) (block reply : List ℕ) : Type 0 where
  pub item : Sexp
  pub items : List Sexp
  pub blocks : List Block
  pub after : Past
  pub next : work.rest ≡ item ∷ items
  pub goes_on : work.last.ended ≡ false
  pub step : IsStep script.text work.last item blocks reply after
  pub spelled : block ≡ flat_map spelling_of_block blocks

-- what is due next: the answer to an item, or the reply to its refusal
abbrev pub IsNext : {script : Script} → Work script → List ℕ → List ℕ → Type 0
IsNext w block reply = IsAnsweredNext w block reply ⊎ ((block ≡ []) × ((refusal : Refusal) × IsRefusedNext w refusal × (reply ≡ refusal_reply refusal)))

-- the certificate so far
abbrev pub certificate : {script : Script} → Work script → List ℕ
certificate w = spelling_of_certificate w.blocks
