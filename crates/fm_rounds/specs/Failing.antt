-- The first clause that is false in an interpretation, and the least tuple of elements at which it is.
use Rattle.std.specs.Prelude.{◌≡◌, take, ℕ, ◌+◌, true, false, not, List, [], ◌∷◌, map, slice_get, slice_index, Option, Some, None}
use Rattle.std.specs.Option.{option_map}
use Rattle.std.specs.List.{find}
use Rattle.fm_base.specs.Interpretations.{Reading}
use Rattle.fm_base.specs.declared.ids.SortId.{SortId}
use Rattle.fm_base.specs.declared.ids.TermId.{TermId}
use Rattle.fm_base.specs.Models.{IsElements}
use Rattle.fm_base.specs.Resolution.{Has}
use Rattle.fm_bank.specs.Clauses.{Satisfies, lits_true}
use Rattle.fm_bank.specs.Terms.{numbers}
use Rattle.fm_bank.specs.declared.clause.Clause.{Clause}
use Rattle.fm_rounds.specs.Tuples.{precedes, tuples}

abbrev pub sizes_of : Reading → List SortId → List ℕ
sizes_of m vars = map (λ (s : SortId). m.size s.0) vars

-- the least tuple at which no literal is true
abbrev pub failing_tuple : Reading → Clause → Option (List ℕ)
failing_tuple m clause = find (λ xs. not (lits_true m xs clause.lits)) (tuples (sizes_of m clause.vars))

abbrev pub or_later : ℕ → Option (List ℕ) → Option (ℕ × List ℕ) → Option (ℕ × List ℕ)
or_later k None later = later
or_later k (Some xs) later = Some (k, xs)

-- the first clause, from the place k on, that has one
abbrev pub first_failing_from : Reading → ℕ → List Clause → Option (ℕ × List ℕ)
first_failing_from m k [] = None
first_failing_from m k (c ∷ cs) = or_later k (failing_tuple m c) (first_failing_from m (k + 1) cs)

-- the first clause that fails, by its place, and its least tuple
abbrev pub first_failing : Reading → List Clause → Option (ℕ × List ℕ)
first_failing m clauses = first_failing_from m 0 clauses

-- what the first failing clause and its tuple are
pub record IsFirstFailing (m : Reading) (clauses : List Clause) (place : ℕ) (tuple : List ℕ) : Type 0 where
  pub clause : Clause
  pub stands : slice_get clauses place ≡ Some clause
  pub elements : IsElements m clause.vars tuple
  pub fails : lits_true m tuple clause.lits ≡ false
  pub least : (other : List ℕ) → IsElements m clause.vars other → precedes other tuple ≡ true → lits_true m other clause.lits ≡ true
  pub first : Satisfies m (take place clauses)

-- nothing fails exactly where each clause holds
abbrev pub FailsFirst : Reading → List Clause → Option (ℕ × List ℕ) → Type 0
FailsFirst m clauses None = Satisfies m clauses
FailsFirst m clauses (Some f) = IsFirstFailing m clauses f.0 f.1

-- the representative of an element
abbrev pub rep_in : Option (List ℕ) → ℕ → ℕ
rep_in None x = 0
rep_in (Some reps) x = slice_index reps x

-- elements of these sorts by their representatives
abbrev pub named_of : List (List ℕ) → List SortId → List ℕ → List ℕ
named_of reps [] xs = []
named_of reps (s ∷ ss) [] = []
named_of reps (s ∷ ss) (x ∷ xs) = rep_in (slice_get reps s.0) x ∷ named_of reps ss xs

abbrev pub vars_in : Option Clause → List SortId
vars_in None = []
vars_in (Some clause) = clause.vars

-- a place and a tuple as an instance: the place, and the terms for the variables
abbrev pub instance_of : List (List ℕ) → List Clause → (ℕ × List ℕ) → ℕ × List ℕ
instance_of reps clauses f = (f.0, named_of reps (vars_in (slice_get clauses f.0)) f.1)

-- the first failing instance
abbrev pub failing_instance : Reading → List (List ℕ) → List Clause → Option (ℕ × List ℕ)
failing_instance m reps clauses = option_map (instance_of reps clauses) (first_failing m clauses)

-- each added instance over representatives is true, each representative read as its element
abbrev pub AreTrueThere : Reading → List (List ℕ) → List Clause → List (ℕ × List ℕ) → Type 0
AreTrueThere m reps clauses added =
    (i : ℕ × List ℕ) (clause : Clause) (xs : List ℕ) → Has added i → slice_get clauses i.0 ≡ Some clause
    → IsElements m clause.vars xs → named_of reps clause.vars xs ≡ i.1 → lits_true m xs clause.lits ≡ true

-- representatives, and instances, whose terms are identifiers, by numbers
abbrev pub numbered_reps : List (List TermId) → List (List ℕ)
numbered_reps reps = map numbers reps

abbrev pub numbered : List (ℕ × List TermId) → List (ℕ × List ℕ)
numbered added = map (λ (i : ℕ × List TermId). (i.0, numbers i.1)) added
