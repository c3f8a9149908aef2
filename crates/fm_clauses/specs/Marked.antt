-- Sorts of which a ground term was found, as marks.
use Rattle.std.specs.Prelude.{◌≡◌, ℕ, ◌||◌, Bool, true, get_or, List}
use Rattle.fm_base.specs.declared.signature.Sig.{Sig}
use Rattle.fm_bank.specs.declared.clause.Clause.{Clause}
use Rattle.fm_bank.specs.declared.clause.Plit.{Plit}
use Rattle.fm_nnf.specs.Places.{Occurs}
use Rattle.fm_clauses.specs.Assertions.{atom_has_ground, clause_has_ground}
use Rattle.fm_clauses.specs.Narrow.{any_of}

-- a number past the marks counts as marked
abbrev pub marked : List Bool → Occurs
marked marks k = get_or marks k true

-- what has numbers, and those that were marked
abbrev pub Marks : Occurs → List Bool → List Bool → Type 0
Marks has old new = (k : ℕ) → marked new k ≡ (has k || marked old k)

-- the sorts of the ground terms of literals, and of clauses
abbrev pub literals_have : Sig → List Plit → Occurs
literals_have sig lits = any_of (λ (l : Plit) (s : ℕ). atom_has_ground sig s l.atom) lits

abbrev pub clauses_have : Sig → List Clause → Occurs
clauses_have sig clauses = any_of (λ (c : Clause) (s : ℕ). clause_has_ground sig s c) clauses
