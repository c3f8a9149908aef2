-- The first place that passes, or the length.
use Rattle.std.proofs.Common.{◌≡◌, ℕ, suc, ◌+◌, ◌≤◌, Bool, true, false, not, cond, List, [], ◌∷◌, length, Some, None, refl, sym, arith, nat_lt}
use Rattle.std.specs.List.{position, position_or_len}
use Rattle.std.proofs.lemmas.Bool.{ltb-false}

step_within : (n m : ℕ) (b : Bool) → n ≤ m → cond (not b) (1 + n) 0 ≤ suc m
step_within n m true h = omega arith
step_within n m false h = omega (arith, h)

pub first_within : {X : Type 0} (p : X → Bool) (xs : List X) → position_or_len p xs ≤ length xs
first_within p [] = omega arith
first_within p (x ∷ xs) = step_within (position_or_len p xs) (length xs) (p x) (first_within p xs)

some_of : {X : Type 0} (p : X → Bool) (xs : List X) (i : ℕ) (b : Bool) → cond b (Some (position_or_len p xs)) None ≡ Some i → i ≡ position_or_len p xs
some_of p xs i true e = cc (sym e)
some_of p xs i false e = cc

pub first_some : {X : Type 0} (p : X → Bool) (xs : List X) (i : ℕ) → position p xs ≡ Some i → i ≡ position_or_len p xs
first_some p xs i e = some_of p xs i (nat_lt (position_or_len p xs) (length xs)) e

none_of : {X : Type 0} (p : X → Bool) (xs : List X) (b : Bool) → nat_lt (position_or_len p xs) (length xs) ≡ b → cond b (Some (position_or_len p xs)) None ≡ None → length xs ≡ position_or_len p xs
none_of p xs true h e = cc
none_of p xs false h e = omega (arith, ltb-false (position_or_len p xs) (length xs) h, first_within p xs)

pub first_none : {X : Type 0} (p : X → Bool) (xs : List X) → position p xs ≡ None → length xs ≡ position_or_len p xs
first_none p xs e = none_of p xs (nat_lt (position_or_len p xs) (length xs)) refl e
