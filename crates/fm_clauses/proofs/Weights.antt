-- An item of a list weighs no more than all of it.
use Rattle.std.proofs.Common.{◌≡◌, ℕ, zero, suc, ◌+◌, ◌<◌, ◌≤◌, List, [], ◌∷◌, length, map, get_or, sym, subst, arith}
use Rattle.fm_nnf.specs.NormalSize.{total}

pub weight_item : {X : Type 0} (f : X → ℕ) (xs : List X) (i : ℕ) (d : X) → i < length xs → f (get_or xs i d) ≤ total (map f xs)
weight_item f [] i d lt = absurd (omega arith)
weight_item f (x ∷ xs) zero d lt = let h : f x ≤ f x + total (map f xs) = omega arith in h
weight_item f (x ∷ xs) (suc i) d lt =
    let h : f (get_or xs i d) ≤ total (map f xs) = weight_item f xs i d (omega arith) in
    let k : f (get_or xs i d) ≤ f x + total (map f xs) = omega arith in
    k

pub item-weight : {X : Type 0} (f : X → ℕ) (xs : List X) (i : ℕ) (x : X) → i < length xs → x ≡ get_or xs i x → f x ≤ total (map f xs)
item-weight f xs i x lt e = subst (λ y. f y ≤ total (map f xs)) (sym e) (weight_item f xs i x lt)
