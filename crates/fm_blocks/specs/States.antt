-- What a checker's state has made, and for what.
use Rattle.std.specs.Prelude.{◌≡◌, ℕ, true, List, [], ◌∷◌, ◌++◌, slice_get, Some}
use Rattle.fm_bank.specs.declared.clause.Clause.{Clause as FirstOrderClause}
use Rattle.fm_bank.specs.Instances.{ground_literals, is_substitution}
use Rattle.fm_bank.specs.Interning.{Held}
use Rattle.fm_cert.specs.Lines.{Clause, Made, Problem}
use Rattle.fm_resolve.specs.Stores.{clauses_in}
use Rattle.fm_blocks.specs.declared.state.State.{State}

abbrev pub made_by : State → Made
made_by s = record { terms = s.bank.terms; clauses = clauses_in s.store }

-- one clause more
abbrev pub Adds : State → State → Clause → Type 0
Adds old new clause = clauses_in new.store ≡ clauses_in old.store ++ clause ∷ []

-- the state is over the symbols of the problem, and these are its clauses
pub record IsOver (p : Problem) (s : State) (clauses : List FirstOrderClause) : Type 0 where
  pub symbols : s.bank.sig ≡ p.symbols
  pub table : clauses ≡ p.clauses

-- these are the literals of the clause of this number with the terms in the place of its variables, all of whose terms are there
abbrev pub HasInstance : List FirstOrderClause → Held → ℕ → List ℕ → Clause → Type 0
HasInstance table bank c subst literals = (input : FirstOrderClause) × (slice_get table c ≡ Some input) × (is_substitution bank.sig bank.terms input.vars subst ≡ true) × (ground_literals bank.terms subst input.lits ≡ Some literals)
