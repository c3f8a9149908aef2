-- What registering a term adds: nodes, places of its arguments, and that it is registered.
use Rattle.std.specs.Prelude.{◌≡◌, ◌<◌, ℕ, Bool, false, List}
use Rattle.std.specs.List.{All, Contains, slice_index_or}
use Rattle.fm_bank.specs.Closure.{Shape, object}
use Rattle.fm_cong.specs.Held.{is_registered}
use Rattle.fm_cong.specs.Tables.{uses_at}

-- whether the term of this number has its flag set
abbrev pub is_flagged : List Bool → ℕ → Bool
is_flagged flags n = slice_index_or flags n false

-- the flags are set of the registered terms
abbrev pub AreFlags : List Shape → List Bool → Type 0
AreFlags shapes flags = (n : ℕ) → is_flagged flags n ≡ is_registered shapes n

-- they say the same
abbrev pub SayTheSame : List Bool → List Bool → Type 0
SayTheSame old new = (n : ℕ) → is_flagged new n ≡ is_flagged old n

-- there may be more places, and those before stay
abbrev pub HasMoreUses : List (List ℕ) → List (List ℕ) → Type 0
HasMoreUses old new = (x i : ℕ) → Contains (uses_at old x) i → Contains (uses_at new x) i

abbrev pub HasPlaceAt : List (List ℕ) → ℕ → ℕ → Type 0
HasPlaceAt uses node place = Contains (uses_at uses node) place

-- each argument has the place of the term
abbrev pub HasPlace : List (List ℕ) → List ℕ → ℕ → Type 0
HasPlace uses args place = All (λ a. HasPlaceAt uses (object a) place) args

abbrev pub AreBelow : ℕ → List ℕ → Type 0
AreBelow count args = All (λ a. object a < count) args
