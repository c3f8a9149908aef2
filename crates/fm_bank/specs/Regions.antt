-- Regions: a partition of the classes of a sort, such that a clique of k + 1 classes has to lie in one of them (after the
-- regions of finite model finding by Reynolds and others; the rule is this project's own).
use Rattle.std.specs.Prelude.{◌≡◌, ℕ, zero, suc, ◌+◌, ◌-◌, ◌==◌, ◌≢◌, Bool, true, not, ◌&&◌, ◌||◌, nat_le, nat_lt, if◌then◌else◌, length, map, min, max, position, slice_set, List, [], ◌∷◌, Option, Some, None}
use Rattle.std.specs.List.{Contains, IsDistinct, count_by, filter, find, list_all, list_any, range_with_len, remove, slice_index_or}

abbrev pub is_in : List ℕ → ℕ → Bool
is_in classes c = list_any (λ d. c == d) classes

-- from how many classes outside the region a class is apart
abbrev pub apart_outside : (ℕ → ℕ → Bool) → List ℕ → List ℕ → ℕ → ℕ
apart_outside apart classes region c = count_by (λ d. not (is_in region d) && apart c d) classes

-- how many classes of the region are apart from at least so many outside
abbrev pub count_apart : (ℕ → ℕ → Bool) → List ℕ → List ℕ → ℕ → ℕ
count_apart apart classes region many = count_by (λ c. nat_le many (apart_outside apart classes region c)) region

-- for no a from 1 to k are there a classes in the region that each are apart from at least k + 1 - a classes outside
abbrev pub is_closed_at : (ℕ → ℕ → Bool) → List ℕ → ℕ → List ℕ → Bool
is_closed_at apart classes k region = list_all (λ a. nat_lt (count_apart apart classes region (k + 1 - a)) a) (range_with_len 1 k)

-- two regions made one, its classes in the order of all classes
abbrev pub joined : List ℕ → List ℕ → List ℕ → List ℕ
joined classes r s = filter (λ c. is_in r c || is_in s c) classes

-- a class of one region is apart from a class of the other
abbrev pub touches : (ℕ → ℕ → Bool) → List ℕ → List ℕ → Bool
touches apart r s = list_any (λ c. list_any (λ d. apart c d) s) r

abbrev pub region_at : List (List ℕ) → ℕ → List ℕ
region_at regions i = slice_index_or regions i []

-- the regions once those at two places are one: it stands at the place of the earlier
abbrev pub after_join : List ℕ → List (List ℕ) → ℕ → ℕ → List (List ℕ)
after_join classes regions i j = remove (slice_set regions (min i j) (joined classes (region_at regions i) (region_at regions j))) (max i j)

-- the first region that isn't closed
abbrev pub first_open : (ℕ → ℕ → Bool) → List ℕ → ℕ → List (List ℕ) → Option ℕ
first_open apart classes k regions = position (λ r. not (is_closed_at apart classes k r)) regions

-- the first region other than the one at i with a class apart from one of its classes
abbrev pub first_touching : (ℕ → ℕ → Bool) → List (List ℕ) → ℕ → Option ℕ
first_touching apart regions i = find (λ j. not (j == i) && touches apart (region_at regions i) (region_at regions j)) (range_with_len 0 (length regions))

abbrev pub after_meeting : List ℕ → (List (List ℕ) → List (List ℕ)) → List (List ℕ) → ℕ → Option ℕ → List (List ℕ)
after_meeting classes onward regions i None = regions
after_meeting classes onward regions i (Some j) = onward (after_join classes regions i j)

abbrev pub after_opening : (ℕ → ℕ → Bool) → List ℕ → (List (List ℕ) → List (List ℕ)) → List (List ℕ) → Option ℕ → List (List ℕ)
after_opening apart classes onward regions None = regions
after_opening apart classes onward regions (Some i) = after_meeting classes onward regions i (first_touching apart regions i)

-- while some region isn't closed at k, the first such region is joined with the first other region that has a class apart
-- from one of its classes; so many times at most
unfoldable pub closed_within : (ℕ → ℕ → Bool) → List ℕ → ℕ → ℕ → List (List ℕ) → List (List ℕ)
closed_within apart classes k zero regions = regions
closed_within apart classes k (suc n) regions = after_opening apart classes (closed_within apart classes k n) regions (first_open apart classes k regions)

-- each join leaves one region less
abbrev pub closed : (ℕ → ℕ → Bool) → List ℕ → ℕ → List (List ℕ) → List (List ℕ)
closed apart classes k regions = closed_within apart classes k (length regions) regions

-- the regions at k: from each class by itself
abbrev pub regions_at : (ℕ → ℕ → Bool) → List ℕ → ℕ → List (List ℕ)
regions_at apart classes k = closed apart classes k (map (λ c. c ∷ []) classes)

abbrev pub is_large : ℕ → List ℕ → Bool
is_large k region = nat_lt k (length region)

-- the sort has more than k classes, and no region has
abbrev pub must_grow : List ℕ → ℕ → List (List ℕ) → Bool
must_grow classes k regions = nat_lt k (length classes) && not (list_any (λ r. is_large k r) regions)

-- while this is so, the first region is joined with the second, and the rule of closing is applied again
unfoldable pub grown_within : (ℕ → ℕ → Bool) → List ℕ → ℕ → ℕ → List (List ℕ) → List (List ℕ)
grown_within apart classes k zero regions = regions
grown_within apart classes k (suc n) regions = if must_grow classes k regions then grown_within apart classes k n (closed apart classes k (after_join classes regions 0 1)) else regions

abbrev pub grown : (ℕ → ℕ → Bool) → List ℕ → ℕ → List (List ℕ) → List (List ℕ)
grown apart classes k regions = grown_within apart classes k (length regions) regions

-- the grown regions at k
abbrev pub grown_regions : (ℕ → ℕ → Bool) → List ℕ → ℕ → List (List ℕ)
grown_regions apart classes k = grown apart classes k (regions_at apart classes k)

-- the first region of more than k classes
abbrev pub first_large : ℕ → List (List ℕ) → List ℕ
first_large k [] = []
first_large k (r ∷ rs) = if is_large k r then r else first_large k rs

-- each class is in one of the regions
abbrev pub Cover : List (List ℕ) → List ℕ → Type 0
Cover regions classes = (c : ℕ) → is_in classes c ≡ true → (region : List ℕ) × Contains regions region × (is_in region c ≡ true)

-- classes that are pairwise apart
pub record IsClique (apart : ℕ → ℕ → Bool) (classes : List ℕ) (clique : List ℕ) : Type 0 where
  pub distinct : IsDistinct (λ c d. c == d) clique
  pub within : (c : ℕ) → is_in clique c ≡ true → is_in classes c ≡ true
  pub apart_all : (c d : ℕ) → is_in clique c ≡ true → is_in clique d ≡ true → c ≢ d → apart c d ≡ true

-- one of the regions has all classes of the clique
abbrev pub LiesInOne : List (List ℕ) → List ℕ → Type 0
LiesInOne regions clique = (region : List ℕ) × Contains regions region × ((c : ℕ) → is_in clique c ≡ true → is_in region c ≡ true)
