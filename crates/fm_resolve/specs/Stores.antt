-- A store of clauses: their literals by number, and the names of the numbers.
use Rattle.std.specs.Prelude.{◌≡◌, ℕ, Bool, ◌&&◌, not, List, [], ◌∷◌, slice_get, Some}
use Rattle.std.specs.List.{list_all}
use Rattle.fm_base.specs.Interpretations.{is_nil}
use Rattle.fm_base.specs.declared.ids.Lit.{Lit}
use Rattle.fm_bank.specs.declared.literal.Literal.{Literal}
use Rattle.fm_cert.specs.Lines.{Clause, SameSet}
use Rattle.fm_resolve.specs.Marks.{IsClean, is_same}
use Rattle.fm_resolve.specs.Names.{AllNumbered, HasMarks, all_names}
use Rattle.fm_resolve.specs.declared.store.Store.{Store}

abbrev pub clauses_in : Store → List Clause
clauses_in s = all_names s.atoms.keys s.clauses.items

pub record IsReady (s : Store) : Type 0 where
  pub marks : HasMarks s.marks s.atoms.keys
  pub clean : IsClean s.marks
  pub numbered : AllNumbered s.atoms.keys s.clauses.items

-- the clause has the literal and no other
abbrev pub is_alone : Lit → List Lit → Bool
is_alone lit lits = not (is_nil lits) && list_all (λ k. is_same k lit) lits

-- one of the clauses is the empty one
abbrev pub HasEmpty : List Clause → Type 0
HasEmpty clauses = (i : ℕ) × (slice_get clauses i ≡ Some [])

-- one of the clauses has this literal alone
abbrev pub HasAlone : List Clause → Literal → Type 0
HasAlone clauses lit = (i : ℕ) × (clause : Clause) × (slice_get clauses i ≡ Some clause) × SameSet clause (lit ∷ [])
