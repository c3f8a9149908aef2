-- Names with values, as a map from names to values holds them, and names alone, as a set does.
use Rattle.std.specs.Prelude.{ℕ, ◌+◌, Bool, ◌||◌, false, cond, List, [], ◌∷◌, map, Option, Some, None, is_some}
use Rattle.std.specs.Borrow.{Bor}
use Rattle.std.specs.List.{IsDistinct}
use Rattle.std.specs.Str.{bytes_eq}

abbrev pub or_else : {A : Type 0} → Option A → Option A → Option A
or_else (Some a) other = Some a
or_else None other = other

abbrev pub texts : List (Bor (List ℕ)) → List (List ℕ)
texts names = map (λ n. n.now) names

abbrev pub named_values : {V : Type 0} → List (Bor (List ℕ) × V) → List (List ℕ × V)
named_values {V} entries = map (λ (e : Bor (List ℕ) × V). (e.0.now, e.1)) entries

-- no name stands twice
abbrev pub AreDistinct : List (List ℕ) → Type 0
AreDistinct names = IsDistinct bytes_eq names

abbrev pub AreApart : {V : Type 0} → List (List ℕ × V) → Type 0
AreApart {V} entries = AreDistinct (map (λ (e : List ℕ × V). e.0) entries)

-- the value of a name
abbrev pub looked_up : {V : Type 0} → List ℕ → List (List ℕ × V) → Option V
looked_up name [] = None
looked_up name (e ∷ es) = cond (bytes_eq e.0 name) (Some e.1) (looked_up name es)

abbrev pub has : {V : Type 0} → List ℕ → List (List ℕ × V) → Bool
has name entries = is_some (looked_up name entries)

abbrev pub is_among_names : List ℕ → List (List ℕ) → Bool
is_among_names name [] = false
is_among_names name (n ∷ ns) = bytes_eq n name || is_among_names name ns

-- the last place of a name, where the first is this number
abbrev pub newest_among : ℕ → List ℕ → List (List ℕ) → Option ℕ
newest_among i name [] = None
newest_among i name (n ∷ ns) = or_else (newest_among (i + 1) name ns) (cond (bytes_eq n name) (Some i) None)
