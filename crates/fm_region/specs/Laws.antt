-- Laws of regions.
use Rattle.std.specs.Prelude.{◌≡◌, ◌==◌, ◌+◌, ◌<◌, ℕ, Bool, List, length, true}
use Rattle.std.specs.List.{All, IsDistinct, list_any}
use Rattle.fm_bank.specs.Regions.{IsClique, LiesInOne, grown_regions, is_closed_at, is_large, regions_at}

-- of all tests of what is apart, all lists of classes and all numbers
abbrev pub Always : ((ℕ → ℕ → Bool) → List ℕ → ℕ → Type 0) → Type 0
Always P = (apart : ℕ → ℕ → Bool) (classes : List ℕ) (k : ℕ) → P apart classes k

-- of lists that have no class twice
abbrev pub OfDistinct : ((ℕ → ℕ → Bool) → List ℕ → ℕ → Type 0) → Type 0
OfDistinct P = Always (λ apart classes k. IsDistinct (λ c d. c == d) classes → P apart classes k)

abbrev pub AreClosed : (ℕ → ℕ → Bool) → List ℕ → ℕ → List (List ℕ) → Type 0
AreClosed apart classes k regions = All (λ r. is_closed_at apart classes k r ≡ true) regions

-- any k + 1 classes that are pairwise apart lie in one of the regions
abbrev pub HoldCliques : (ℕ → ℕ → Bool) → List ℕ → ℕ → List (List ℕ) → Type 0
HoldCliques apart classes k regions = (clique : List ℕ) → IsClique apart classes clique → length clique ≡ k + 1 → LiesInOne regions clique

abbrev pub RegionsAreClosed : Type 0
RegionsAreClosed = Always (λ apart classes k. AreClosed apart classes k (regions_at apart classes k))

abbrev pub RegionsHoldCliques : Type 0
RegionsHoldCliques = Always (λ apart classes k. HoldCliques apart classes k (regions_at apart classes k))

abbrev pub GrownAreClosed : Type 0
GrownAreClosed = OfDistinct (λ apart classes k. AreClosed apart classes k (grown_regions apart classes k))

abbrev pub GrownHoldCliques : Type 0
GrownHoldCliques = OfDistinct (λ apart classes k. HoldCliques apart classes k (grown_regions apart classes k))

-- where there are more than k classes, one has more than k
abbrev pub GrownHaveLarge : Type 0
GrownHaveLarge = OfDistinct (λ apart classes k. k < length classes → list_any (λ r. is_large k r) (grown_regions apart classes k) ≡ true)
