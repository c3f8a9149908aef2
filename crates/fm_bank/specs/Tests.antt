-- Two tests that decide what follows equal and what is apart, as functions into truth values: so what is defined over them
-- can compute.
use Rattle.std.specs.Prelude.{◌≡◌, ◌↔◌, ℕ, Bool, true, List}
use Rattle.fm_bank.specs.Closure.{AreApart, Follows, Shape}

-- whether two objects are equal, and whether two terms are apart
pub record Tests : Type 0 where
  pub same : ℕ → ℕ → Bool
  pub apart : ℕ → ℕ → Bool

-- they decide this for equal and unequal pairs over these terms
pub record AreTests (shapes : List Shape) (equal unequal : List (ℕ × ℕ)) (t : Tests) : Type 0 where
  pub same_is : (x y : ℕ) → (t.same x y ≡ true) ↔ Follows shapes equal x y
  pub apart_is : (a b : ℕ) → (t.apart a b ≡ true) ↔ AreApart shapes equal unequal a b
