-- That a ground term of a sort stands in clauses exactly where growth by their ground terms puts one in.
use Rattle.std.specs.Prelude.{◌≡◌, ℕ, Bool, true, List, [], ◌∷◌, Some}
use Rattle.std.specs.List.{list_any}
use Rattle.fm_base.specs.declared.signature.Sig.{Sig}
use Rattle.fm_base.specs.declared.signature.Ty.{Ty}
use Rattle.fm_bank.specs.GroundTerms.{ground_literals_grown}
use Rattle.fm_bank.specs.Terms.{Term, is_type, type_in}
use Rattle.fm_bank.specs.declared.clause.Clause.{Clause}
use Rattle.fm_clauses.specs.Assertions.{has_ground}
use Rattle.fm_clauses.specs.SortLaw.{are_sorted_clauses}

-- the terms after the ground terms of clauses
abbrev pub clauses_ground_grown : List Clause → List Term → List Term
clauses_ground_grown [] terms = terms
clauses_ground_grown (c ∷ cs) terms = clauses_ground_grown cs (ground_literals_grown c.lits terms)

abbrev pub is_term_of : Sig → ℕ → Term → Bool
is_term_of sig s t = is_type (type_in sig (Some t)) (Ty.Of (record { 0 = s }))

-- a term of the sort is there
abbrev pub has_term_of : Sig → ℕ → List Term → Bool
has_term_of sig s terms = list_any (is_term_of sig s) terms

abbrev pub GroundTermsAgree : Type 0
GroundTermsAgree = (sig : Sig) (clauses : List Clause) (s : ℕ) → are_sorted_clauses sig clauses ≡ true →
    has_ground sig clauses s ≡ has_term_of sig s (clauses_ground_grown clauses [])
