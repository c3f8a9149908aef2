-- Worked rows, by computing.
use Rattle.std.proofs.Common.{◌≡◌, ℕ, Bool, None, Some, false, not, ◌&&◌, ◌||◌, [], ◌∷◌, List, Option, refl}
use Rattle.std.specs.Prelude.{◌==◌}
use Rattle.fm_region.specs.Answers.{first_pair, test_of}
use Rattle.fm_bank.specs.Regions.{closed_within, grown_regions, grown_within, regions_at}

-- of three classes the first two are apart
abbrev two_apart : ℕ → ℕ → Bool
two_apart x y = (x == 0 && y == 1) || (x == 1 && y == 0)

abbrev three : List ℕ
three = 0 ∷ 1 ∷ 2 ∷ []

abbrev five : List ℕ
five = 0 ∷ 1 ∷ 2 ∷ 3 ∷ 4 ∷ []

abbrev all_apart : ℕ → ℕ → Bool
all_apart a b = not (a == b)

abbrev none_apart : ℕ → ℕ → Bool
none_apart a b = false

abbrev four_apart : ℕ → ℕ → Bool
four_apart a b = (a == 0 && b == 3) || ((a == 3 && b == 0) || ((a == 1 && b == 3) || ((a == 3 && b == 1) || ((a == 0 && b == 2) || (a == 2 && b == 0)))))

-- the test at k, and the first two of it that aren't apart
abbrev tested : (ℕ → ℕ → Bool) → List ℕ → ℕ → List ℕ × Option (ℕ × ℕ)
tested apart classes k = (test_of k (grown_regions apart classes k), first_pair apart (test_of k (grown_regions apart classes k)))

at_one : regions_at two_apart three 1 ≡ (0 ∷ 1 ∷ []) ∷ (2 ∷ []) ∷ []
unfolding closed_within
at_one = refl

clique_at_one : tested two_apart three 1 ≡ (0 ∷ 1 ∷ [], None)
unfolding closed_within grown_within
clique_at_one = refl

at_two : regions_at two_apart three 2 ≡ (0 ∷ []) ∷ (1 ∷ []) ∷ (2 ∷ []) ∷ []
unfolding closed_within
at_two = refl

grown_at_two : grown_regions two_apart three 2 ≡ three ∷ []
unfolding closed_within grown_within
grown_at_two = refl

split_at_two : tested two_apart three 2 ≡ (three, Some (0, 2))
unfolding closed_within grown_within
split_at_two = refl

-- from the start, and not from the regions before a pair was apart
from_the_start : regions_at four_apart (0 ∷ 1 ∷ 2 ∷ 3 ∷ []) 2 ≡ (0 ∷ 2 ∷ 3 ∷ []) ∷ (1 ∷ []) ∷ []
unfolding closed_within
from_the_start = refl

five_at_four : tested all_apart five 4 ≡ (five, None)
unfolding closed_within grown_within
five_at_four = refl

split_of_two : tested none_apart (0 ∷ 1 ∷ []) 1 ≡ (0 ∷ 1 ∷ [], Some (0, 1))
unfolding closed_within grown_within
split_of_two = refl
