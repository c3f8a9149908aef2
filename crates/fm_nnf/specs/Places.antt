-- What stands at the places that pass a test, and the new number of each such place.
use Rattle.std.specs.Prelude.{ℕ, zero, suc, Bool, cond, List, [], ◌∷◌}

abbrev pub Occurs : Type 0
Occurs = ℕ → Bool

abbrev pub later : Occurs → Occurs
later p k = p (suc k)

-- what stands at the places that pass
abbrev pub kept : {X : Type 0} → Occurs → List X → List X
kept p [] = []
kept p (x ∷ xs) = cond (p zero) (x ∷ kept (later p) xs) (kept (later p) xs)

-- how many places before v pass
unfoldable pub place : Occurs → ℕ → ℕ
place p zero = zero
place p (suc v) = cond (p zero) (suc (place (later p) v)) (place (later p) v)
