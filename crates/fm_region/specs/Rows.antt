-- Classes by place: the classes of a sort numbered from 0 in order of age, and a table of which are apart.
use Rattle.std.specs.Prelude.{◌≡◌, ◌↔◌, ◌<◌, ◌==◌, ◌&&◌, ◌||◌, ℕ, Bool, true, false, List, [], ◌∷◌, length, Option, None, Some}
use Rattle.std.specs.List.{list_any, slice_index_or}
use Rattle.fm_bank.specs.Closure.{object}
use Rattle.fm_cong.specs.Held.{AreEqual, AreUnequal, Held}

-- whether two classes are apart, by a table with a row for each class
abbrev pub apart_in : List (List Bool) → ℕ → ℕ → Bool
apart_in rows c d = slice_index_or (slice_index_or rows c []) d false

-- the number of the term at a place
abbrev pub number_at : List ℕ → ℕ → ℕ
number_at terms c = slice_index_or terms c 0

-- no two of these terms are equal
abbrev pub AreSeparate : Held → List ℕ → Type 0
AreSeparate g terms =
    (c d : ℕ) → c < length terms → d < length terms → AreEqual g (object (number_at terms c)) (object (number_at terms d)) → c ≡ d

-- the place of the term that is equal to this one, or there is none
abbrev pub IsPlaceOf : Held → List ℕ → ℕ → Option ℕ → Type 0
IsPlaceOf g terms t None = (c : ℕ) → c < length terms → AreEqual g (object (number_at terms c)) (object t) → ⊥
IsPlaceOf g terms t (Some c) = (c < length terms) × AreEqual g (object (number_at terms c)) (object t)

-- as many rows as this, each of this length
pub record IsGrid (count : ℕ) (rows : List (List Bool)) : Type 0 where
  pub size : length rows ≡ count
  pub each : (c : ℕ) → c < count → length (slice_index_or rows c []) ≡ count

-- one entry is set, and the others stay
abbrev pub Marks : ℕ → List (List Bool) → List (List Bool) → ℕ → ℕ → Type 0
Marks count old new c d = (x y : ℕ) → x < count → y < count → apart_in new x y ≡ (apart_in old x y || (x == c && y == d))

-- two places are those of a pair, in either order
abbrev pub are_both : ℕ × ℕ → ℕ → ℕ → Bool
are_both p x y = (x == p.0 && y == p.1) || (x == p.1 && y == p.0)

-- the two entries of a pair are set, and the others stay
abbrev pub MarksBoth : ℕ → List (List Bool) → List (List Bool) → ℕ → ℕ → Type 0
MarksBoth count old new c d = (x y : ℕ) → x < count → y < count → apart_in new x y ≡ (apart_in old x y || are_both (c, d) x y)

-- a pair stands between two places
abbrev pub between : List (ℕ × ℕ) → ℕ → ℕ → Bool
between pairs x y = list_any (λ (p : ℕ × ℕ). are_both p x y) pairs

-- a pair of places, where both are
abbrev pub both_places : Option ℕ → Option ℕ → List (ℕ × ℕ)
both_places None b = []
both_places (Some c) None = []
both_places (Some c) (Some d) = (c, d) ∷ []

abbrev pub IsPairBelow : ℕ → ℕ × ℕ → Type 0
IsPairBelow count p = (p.0 < count) × (p.1 < count)

-- a pair stands between the places of two terms exactly where these are unequal
abbrev pub ArePlaced : Held → List ℕ → List (ℕ × ℕ) → Type 0
ArePlaced g terms pairs =
    (c d : ℕ) → c < length terms → d < length terms → (between pairs c d ≡ true) ↔ AreUnequal g (number_at terms c) (number_at terms d)

-- the entries that are set are those of the pairs
abbrev pub AreRowsBy : ℕ → List (ℕ × ℕ) → List (List Bool) → Type 0
AreRowsBy count pairs rows = (x y : ℕ) → x < count → y < count → apart_in rows x y ≡ between pairs x y

-- a row in which nothing is set
pub record IsEmptyRow (count : ℕ) (row : List Bool) : Type 0 where
  pub size : length row ≡ count
  pub empty : (d : ℕ) → d < length row → slice_index_or row d false ≡ false

pub record AreEmptyRows (count : ℕ) (rows : List (List Bool)) : Type 0 where
  pub size : length rows ≡ count
  pub each : (c : ℕ) → c < length rows → IsEmptyRow count (slice_index_or rows c [])
