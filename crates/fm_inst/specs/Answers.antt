-- What the failing instance that is answered says.
use Rattle.std.specs.Prelude.{◌≡◌, ℕ, Bool, List, [], ◌∷◌, get_or, slice_get, Option, Some, None}
use Rattle.std.specs.List.{list_all}
use Rattle.std.specs.Option.{option_map}
use Rattle.fm_base.specs.Interpretations.{Reading, reading_of}
use Rattle.fm_base.specs.Resolution.{Has}
use Rattle.fm_base.specs.declared.ids.SortId.{SortId}
use Rattle.fm_base.specs.declared.ids.TermId.{TermId}
use Rattle.fm_bank.specs.Clauses.{Satisfies}
use Rattle.fm_bank.specs.Sorted.{is_sorted_clause}
use Rattle.fm_bank.specs.Terms.{numbers}
use Rattle.fm_bank.specs.declared.clause.Clause.{Clause}
use Rattle.fm_bank.specs.declared.clause.ClauseSet.{ClauseSet}
use Rattle.fm_rounds.specs.Failing.{AreTrueThere, IsFirstFailing, failing_instance, named_of, numbered, numbered_reps, vars_in}
use Rattle.fm_rounds.specs.declared.answers.Candidate.{Candidate}
use Rattle.fm_rounds.specs.declared.answers.Failing.{Failing}

-- the term that stands for an element
abbrev pub term_in : Option (List TermId) → ℕ → TermId
term_in None x = record { 0 = 0 }
term_in (Some reps) x = get_or reps x (record { 0 = 0 })

-- elements of these sorts by the terms that stand for them
abbrev pub terms_of : List (List TermId) → List SortId → List ℕ → List TermId
terms_of reps [] xs = []
terms_of reps (s ∷ ss) [] = []
terms_of reps (s ∷ ss) (x ∷ xs) = term_in (slice_get reps s.0) x ∷ terms_of reps ss xs

-- the place of the clause, and the terms by number
abbrev pub found_instance : Option Failing → Option (ℕ × List ℕ)
found_instance o = option_map (λ (f : Failing). (f.clause, numbers f.terms)) o

-- every clause holds; else the first one that doesn't, with the representatives of the least tuple at which it fails
abbrev pub AnswersLeast : Reading → List (List ℕ) → List Clause → Option (ℕ × List ℕ) → Type 0
AnswersLeast m reps clauses None = Satisfies m clauses
AnswersLeast m reps clauses (Some f) = (tuple : List ℕ) × IsFirstFailing m clauses f.0 tuple × (named_of reps (vars_in (slice_get clauses f.0)) tuple ≡ f.1)

-- it is none of these
abbrev pub IsNew : List (ℕ × List ℕ) → Option (ℕ × List ℕ) → Type 0
IsNew added None = Unit {0}
IsNew added (Some f) = Has added f → ⊥

-- The same of a clause set and a candidate.
abbrev pub are_sorted : ClauseSet → Bool
are_sorted set = list_all (is_sorted_clause set.sig) set.clauses

abbrev pub AreTrueIn : ClauseSet → Candidate → List (ℕ × List TermId) → Type 0
AreTrueIn set k added = AreTrueThere (reading_of k.interp) (numbered_reps k.reps) set.clauses (numbered added)

abbrev pub first_failing_in : ClauseSet → Candidate → Option (ℕ × List ℕ)
first_failing_in set k = failing_instance (reading_of k.interp) (numbered_reps k.reps) set.clauses

abbrev pub AnswersLeastIn : ClauseSet → Candidate → Option Failing → Type 0
AnswersLeastIn set k o = AnswersLeast (reading_of k.interp) (numbered_reps k.reps) set.clauses (found_instance o)
