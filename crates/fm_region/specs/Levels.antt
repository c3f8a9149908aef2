-- Contents that were, newest last, and where each open level begins among them.
use Rattle.std.specs.Prelude.{ℕ, ◌-◌, ◌<◌, ◌≤◌, List, [], length, map, take}
use Rattle.std.specs.List.{slice_index_or}

abbrev pub last_of : {X : Type 0} → List (List X) → List X
last_of made = slice_index_or made (length made - 1) []

-- the content at each open level
abbrev pub levels_of : {X : Type 0} → List (List X) → List ℕ → List (List X)
levels_of made opened = map (λ n. last_of (take n made)) opened

-- no level begins before an earlier one, or past the end
pub record AreOpened (count : ℕ) (opened : List ℕ) : Type 0 where
  pub ascend : (i j : ℕ) → i ≤ j → j < length opened → slice_index_or opened i 0 ≤ slice_index_or opened j 0
  pub within : (i : ℕ) → i < length opened → slice_index_or opened i 0 ≤ count

-- where the newest level begins
abbrev pub newest : List ℕ → ℕ
newest opened = slice_index_or opened (length opened - 1) 0
