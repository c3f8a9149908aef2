-- What an event leaves: its row is met, and then the tests are chosen anew.
use Rattle.std.specs.Prelude.{◌≡◌, ℕ, List, length}
use Rattle.fm_base.specs.declared.ids.Lit.{Lit}
use Rattle.fm_bank.specs.declared.literal.Literal.{Literal}
use Rattle.fm_bank.specs.Interning.{lit_in}
use Rattle.fm_steps.specs.Picks.{Settles}
use Rattle.fm_steps.specs.Rows.{LearnRow}
use Rattle.fm_steps.specs.State.{State, decided, know, put, put_decision, with_literals}

abbrev pub Moves : (State → State → Type 0) → State → State → Type 0
Moves Row s t = (mid : State) × Row s mid × Settles mid t

-- the states behind Lemma, Imply and Decide, and before the tests are chosen
abbrev pub IsWithLemma : List Literal → State → State → Type 0
IsWithLemma ls s t = t ≡ with_literals ls s

abbrev pub IsImplied : List Literal → Literal → State → State → Type 0
IsImplied ls l s t = t ≡ put (lit_in s.held.atoms l) (length s.clauses) (with_literals ls s)

abbrev pub IsDecided : Literal → State → State → Type 0
IsDecided l s t = t ≡ decided (put_decision (lit_in (know l.atom s).held.atoms l) (know l.atom s))

-- the state behind Learn, with its steps of resolution
abbrev pub IsLearnt : ℕ → List (Lit × ℕ) → State → State → Type 0
IsLearnt n steps s t = (r : LearnRow s n t) × (r.steps ≡ steps)
