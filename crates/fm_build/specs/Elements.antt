-- Representatives by sort and elements of terms, by plain lists: a class and a type for each term, and whether it is joined
-- with yes.
use Rattle.std.specs.Prelude.{◌≡◌, ℕ, ◌<◌, ◌==◌, Bool, false, cond, List, get_or, length, map, slice_get, Option, Some, None}
use Rattle.std.specs.List.{filter, position_or_len, range_with_len}
use Rattle.fm_base.specs.declared.ids.SortId.{SortId}
use Rattle.fm_base.specs.declared.ids.TermId.{TermId}
use Rattle.fm_base.specs.declared.signature.Ty.{Ty}
use Rattle.fm_bank.specs.Closure.{object, yes}
use Rattle.fm_bank.specs.Terms.{is_type, type_of}
use Rattle.fm_rounds.specs.Rounds.{Content}
use Rattle.fm_build.specs.Marks.{class_at}

abbrev pub is_of_sort : List Ty → SortId → ℕ → Bool
is_of_sort types sort n = is_type (slice_get types n) (Ty.Of sort)

abbrev pub reps_by : List Ty → List ℕ → ℕ → List ℕ
reps_by types reps s = filter (is_of_sort types (record { 0 = s })) reps

abbrev pub all_reps_by : List Ty → List ℕ → ℕ → List (List ℕ)
all_reps_by types reps sorts = map (reps_by types reps) (range_with_len 0 sorts)

-- the place of a class among representatives
abbrev pub place_in : List ℕ → ℕ → Option (List TermId) → ℕ
place_in class n None = 0
place_in class n (Some reps) = position_or_len (λ (r : TermId). class_at class r.0 == class_at class n) reps

abbrev pub element_at : List ℕ → List Bool → List (List TermId) → ℕ → Option Ty → ℕ
element_at class holds reps n None = 0
element_at class holds reps n (Some Ty.Bool) = cond (get_or holds n false) 1 0
element_at class holds reps n (Some (Ty.Of s)) = place_in class n (slice_get reps s.0)

abbrev pub element_by : List ℕ → List Ty → List Bool → List (List TermId) → ℕ → ℕ
element_by class types holds reps n = element_at class holds reps n (slice_get types n)

abbrev pub elements_by : List ℕ → List Ty → List Bool → List (List TermId) → List ℕ
elements_by class types holds reps = map (element_by class types holds reps) (range_with_len 0 (length class))

-- a type for each term of a content, and whether it is joined with yes
pub record Types (types : List Ty) (holds : List Bool) (c : Content) : Type 0 where
  pub types_are : (n : ℕ) → type_of c.sig c.terms n ≡ slice_get types n
  pub holds_are : (n : ℕ) → n < length c.terms → c.same (object n) yes ≡ get_or holds n false
