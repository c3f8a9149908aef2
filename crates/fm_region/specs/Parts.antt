-- Regions of classes by place, with counts that make joining cheap.
use Rattle.std.specs.Prelude.{◌≡◌, ◌+◌, ◌-◌, ◌<◌, ◌^◌, ℕ, Bool, true, List, [], ◌∷◌, length, map, max, min, slice_set, ◌||◌, false, if◌then◌else◌}
use Rattle.std.specs.List.{AllByRecursion, count_by, range_with_len, remove, slice_index_or}
use Rattle.fm_bank.specs.Regions.{is_closed_at, is_in, region_at, touches}
use Rattle.fm_region.specs.declared.parts.Part.{Part}

abbrev pub no_part : Part
no_part = record { classes = []; inside = [] }

abbrev pub part_at : List Part → ℕ → Part
part_at parts i = slice_index_or parts i no_part

abbrev pub classes_of : Part → List ℕ
classes_of p = p.classes

abbrev pub regions_of : List Part → List (List ℕ)
regions_of parts = map classes_of parts

-- in ascending order
abbrev pub Up : List ℕ → Type 0
Up [] = Unit {0}
Up (x ∷ xs) = AllByRecursion (λ y. x < y) xs × Up xs

-- a region of classes in ascending order
pub record IsPart (classes r : List ℕ) : Type 0 where
  pub within : (c : ℕ) → is_in r c ≡ true → is_in classes c ≡ true
  pub up : Up r

-- a count by place
abbrev pub count_at : List ℕ → ℕ → ℕ
count_at counts c = slice_index_or counts c 0

-- from how many classes of a list a class is apart
abbrev pub apart_from : (ℕ → ℕ → Bool) → List ℕ → ℕ → ℕ
apart_from apart region c = count_by (λ d. apart c d) region

-- by place the number of classes of the region from which a class is apart
abbrev pub IsCounted : (ℕ → ℕ → Bool) → List ℕ → Part → Type 0
IsCounted apart classes p = (c : ℕ) → is_in classes c ≡ true → count_at p.inside c ≡ apart_from apart p.classes c

-- the same of all classes
abbrev pub AreDegrees : (ℕ → ℕ → Bool) → List ℕ → List ℕ → Type 0
AreDegrees apart classes degrees = (c : ℕ) → is_in classes c ≡ true → count_at degrees c ≡ apart_from apart classes c

-- the classes are those of all places, and of two either is apart from the other
pub record IsTable (apart : ℕ → ℕ → Bool) (classes : List ℕ) : Type 0 where
  pub places : classes ≡ range_with_len 0 (length classes)
  pub symmetric : (c d : ℕ) → is_in classes c ≡ true → is_in classes d ≡ true → apart c d ≡ apart d c
  pub few : length classes < 2 ^ 64

-- regions of these classes, no class in two of them, with their counts
pub record AreKept (apart : ℕ → ℕ → Bool) (classes : List ℕ) (parts : List Part) : Type 0 where
  pub counted : (i : ℕ) → IsCounted apart classes (part_at parts i)
  pub each : (i : ℕ) → IsPart classes (region_at (regions_of parts) i)
  pub disjoint : (i j c : ℕ) → is_in (region_at (regions_of parts) i) c ≡ true → is_in (region_at (regions_of parts) j) c ≡ true → i ≡ j

-- the sum of two counts, as far as it can be written
abbrev pub sum_at : List ℕ → List ℕ → ℕ → ℕ
sum_at a b c = min (count_at a c + count_at b c) (2 ^ 64 - 1)

-- once a part stands in place of two
abbrev pub put_joined : List Part → ℕ → ℕ → Part → List Part
put_joined parts i j both = remove (slice_set parts (min i j) both) (max i j)

-- a class by itself
abbrev pub alone_part : (ℕ → ℕ → Bool) → List ℕ → ℕ → Part
alone_part apart classes c = record { classes = c ∷ []; inside = map (λ d. if apart d c then 1 else 0) classes }

-- those before this one are closed
abbrev pub AreClosedBefore : (ℕ → ℕ → Bool) → List ℕ → ℕ → List Part → ℕ → Type 0
AreClosedBefore apart classes k parts from = (m : ℕ) → m < from → is_closed_at apart classes k (region_at (regions_of parts) m) ≡ true

-- one touches another
abbrev pub touch_at : (ℕ → ℕ → Bool) → List Part → ℕ → ℕ → Bool
touch_at apart parts i j = touches apart (region_at (regions_of parts) i) (region_at (regions_of parts) j)

-- the classes of a region are marked too
abbrev pub AreMarked : List Bool → List Bool → List ℕ → Type 0
AreMarked old new region = (d : ℕ) → d < length old → slice_index_or new d false ≡ (slice_index_or old d false || is_in region d)
