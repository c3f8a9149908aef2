-- The variables of a clause as an ascending list of their numbers.
use Rattle.std.specs.Prelude.{◌≡◌, ℕ, zero, suc, ◌==◌, ◌||◌, ◌≤◌, cond, nat_lt, List, [], ◌∷◌, slice_get, Option, Some, None}
use Rattle.std.specs.List.{list_any}
use Rattle.fm_nnf.specs.Places.{Occurs}

-- the numbers that stand in the list
abbrev pub listed : List ℕ → Occurs
listed ls k = list_any (λ (l : ℕ). l == k) ls

-- what has variables, and those that were listed
abbrev pub Lists : Occurs → List ℕ → List ℕ → Type 0
Lists has old new = (k : ℕ) → listed new k ≡ (listed old k || has k)

-- how many of an ascending list are below v
abbrev pub below : List ℕ → ℕ → ℕ
below [] v = zero
below (l ∷ ls) v = cond (nat_lt l v) (suc (below ls v)) zero

abbrev pub with_some : {X : Type 0} → Option X → List X → List X
with_some None xs = xs
with_some (Some x) xs = x ∷ xs

-- what stands at the places of a list, where it has them
abbrev pub reads : {X : Type 0} → List X → List ℕ → List X
reads xs [] = []
reads xs (l ∷ ls) = with_some (slice_get xs l) (reads xs ls)

-- each number is above those before it, and none is below the bound
abbrev pub Ascends : ℕ → List ℕ → Type 0
Ascends low [] = Unit {0}
Ascends low (l ∷ ls) = (low ≤ l) × Ascends (suc l) ls
