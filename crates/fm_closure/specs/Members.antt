-- Classes with their members beside them, and what is left of two classes that are joined.
use Rattle.std.specs.Prelude.{◌≡◌, ℕ, ◌<◌, ◌⊎◌, ◌==◌, ◌+◌, if◌then◌else◌, List, [], ◌∷◌, length, map, Some, slice_get, slice_index_or}
use Rattle.std.specs.List.{Contains, list_any}
use Rattle.fm_closure.specs.Classes.{relabelled}

-- a place stands among the members of a class, or the class has its number
abbrev pub IsListed : List (List ℕ) → ℕ → ℕ → Type 0
IsListed members c place = (c < length members) × ((place ≡ c) ⊎ Contains (slice_index_or members c []) place)

-- so each place does with its class
abbrev pub AreListed : List ℕ → List (List ℕ) → Type 0
AreListed classes members = (place c : ℕ) → slice_get classes place ≡ Some c → IsListed members c place

-- no place is of a class
abbrev pub IsEmptied : List ℕ → ℕ → Type 0
IsEmptied classes c = (place : ℕ) → slice_get classes place ≡ Some c → ⊥

-- two classes are one, under the number of one of them
abbrev pub AreUnited : ℕ → ℕ → List ℕ → List ℕ → Type 0
AreUnited c d old new = (new ≡ map (relabelled c d) old) ⊎ (new ≡ map (relabelled d c) old)

-- how many classes there are
abbrev pub kinds : List ℕ → ℕ
kinds [] = 0
kinds (c ∷ classes) = if list_any (λ d. c == d) classes then kinds classes else 1 + kinds classes
