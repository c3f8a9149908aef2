-- The literals of a clause by how many variables they need, as lists that are linked by places.
use Rattle.std.specs.Prelude.{◌≡◌, ℕ, ◌+◌, ◌==◌, ◌<◌, ◌≤◌, List, [], ◌∷◌, drop, get_or, length}
use Rattle.std.specs.List.{position_or_len}

-- the first place, from k on, that has the depth d; where there is none, the number of places
abbrev pub place_of : ℕ → ℕ → List ℕ → ℕ
place_of d k depths = k + position_or_len (λ e. e == d) (drop k depths)

abbrev pub AreAtMost : List ℕ → ℕ → Type 0
AreAtMost [] n = Unit {0}
AreAtMost (d ∷ ds) n = (d ≤ n) × AreAtMost ds n

abbrev pub AreFirsts : List ℕ → ℕ → ℕ → List ℕ → Type 0
AreFirsts depths count from first = (d : ℕ) → d ≤ count → get_or first d 0 ≡ place_of d from depths

abbrev pub AreNexts : List ℕ → ℕ → List ℕ → Type 0
AreNexts depths from next = (k : ℕ) → from ≤ k → k < length depths → get_or next k 0 ≡ place_of (get_or depths k 0) (k + 1) depths

-- for each depth its first place, and for each place the next one of its depth, of the places from a number on
pub record AreLinked (depths : List ℕ) (count from : ℕ) (first next : List ℕ) : Type 0 where
  pub levels : length first ≡ count + 1
  pub places : length next ≡ length depths
  pub firsts : AreFirsts depths count from first
  pub nexts : AreNexts depths from next
