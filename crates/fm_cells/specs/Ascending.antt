-- Terms in ascending order of their numbers.
use Rattle.std.specs.Prelude.{◌≡◌, ◌<◌, ◌≤◌, ℕ, ◌==◌, Bool, false, List, length, Option, Some, None}
use Rattle.std.specs.List.{list_any, slice_index_or}
use Rattle.fm_base.specs.declared.ids.TermId.{TermId}

abbrev pub IsAscending : List TermId → Type 0
IsAscending xs = (i j : ℕ) (d : TermId) → i < j → j < length xs → (slice_index_or xs i d).0 < (slice_index_or xs j d).0

-- the term of this number is one of them
abbrev pub is_in : List TermId → ℕ → Bool
is_in xs n = list_any (λ (t : TermId). n == t.0) xs

-- of the others it says what it said
abbrev pub KeepsOthers : ℕ → List TermId → List TermId → Type 0
KeepsOthers t old new = (n : ℕ) → (n ≡ t → ⊥) → is_in new n ≡ is_in old n

-- a term of this number stands here, or belongs here
pub record IsPlace (xs : List TermId) (n place : ℕ) : Type 0 where
  pub within : place ≤ length xs
  pub below : (k : ℕ) (d : TermId) → k < place → (slice_index_or xs k d).0 < n
  pub above : (k : ℕ) (d : TermId) → place ≤ k → k < length xs → n ≤ (slice_index_or xs k d).0

-- where the term of this number stands, or that it doesn't
abbrev pub IsFound : List TermId → ℕ → Option ℕ → Type 0
IsFound xs n None = is_in xs n ≡ false
IsFound xs n (Some k) = (k < length xs) × ((d : TermId) → (slice_index_or xs k d).0 ≡ n)
