-- The depth of a term is that of its deepest part.
use Rattle.std.proofs.Common.{◌≡◌, ℕ, zero, suc, ◌<◌, ◌≤◌, List, [], ◌∷◌, length, map, get_or, sym, subst, arith}
use Rattle.fm_inst.specs.Depths.{largest}

item_at : {X : Type 0} (f : X → ℕ) (xs : List X) (i : ℕ) (d : X) → i < length xs → f (get_or xs i d) ≤ largest (map f xs)
item_at f [] i d lt = absurd (omega arith)
item_at f (x ∷ xs) zero d lt = omega arith
item_at f (x ∷ xs) (suc i) d lt = omega (arith, item_at f xs i d (omega arith))

pub item_within : {X : Type 0} (f : X → ℕ) (xs : List X) (i : ℕ) (x : X) → i < length xs → x ≡ get_or xs i x → f x ≤ largest (map f xs)
item_within f xs i x lt is = subst (λ y. f y ≤ largest (map f xs)) (sym is) (item_at f xs i x lt)
