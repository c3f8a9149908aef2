-- The room of several parts, and what each of them may take of it.
use Rattle.std.proofs.Common.{◌≡◌, ℕ, zero, suc, ◌<◌, ◌≤◌, List, [], ◌∷◌, length, map, get_or, ap, sym, subst, ◌∙◌, arith}
use Rattle.std.specs.Prelude.{max}
use Rattle.std.specs.List.{All}
use Rattle.fm_truth.specs.Room.{Room, IsWithin, room, nothing, larger, largest}

pub larger_nothing_left : (r : Room) → larger nothing r ≡ r
larger_nothing_left r =
    let v : max 0 r.vars ≡ r.vars = omega arith in
    let a : max 0 r.args ≡ r.args = omega arith in
    ap (λ n. room n (max 0 r.args)) v ∙ ap (λ n. room r.vars n) a

pub larger_nothing_right : (r : Room) → larger r nothing ≡ r
larger_nothing_right r =
    let v : max r.vars 0 ≡ r.vars = omega arith in
    let a : max r.args 0 ≡ r.args = omega arith in
    ap (λ n. room n (max r.args 0)) v ∙ ap (λ n. room r.vars n) a

pub larger_assoc : (a b c : Room) → larger (larger a b) c ≡ larger a (larger b c)
larger_assoc a b c =
    let v : max (max a.vars b.vars) c.vars ≡ max a.vars (max b.vars c.vars) = omega arith in
    let e : max (max a.args b.args) c.args ≡ max a.args (max b.args c.args) = omega arith in
    cc

-- a step of a loop: `sofar` is the room of what came before, `here` that of the item
pub larger_more : (sofar here next : Room) (rs : List Room) → next ≡ larger sofar here → larger next (largest rs) ≡ larger sofar (largest (here ∷ rs))
larger_more sofar here next rs e = ap (λ r. larger r (largest rs)) e ∙ larger_assoc sofar here (largest rs)

pub largest_item-vars : {X : Type 0} (f : X → Room) (xs : List X) (i : ℕ) (d : X) → i < length xs → (f (get_or xs i d)).vars ≤ (largest (map f xs)).vars
largest_item-vars f [] i d lt = absurd (omega arith)
largest_item-vars f (x ∷ xs) zero d lt = omega arith
largest_item-vars f (x ∷ xs) (suc i) d lt = omega (arith, largest_item-vars f xs i d (omega arith))

pub largest_item-args : {X : Type 0} (f : X → Room) (xs : List X) (i : ℕ) (d : X) → i < length xs → (f (get_or xs i d)).args ≤ (largest (map f xs)).args
largest_item-args f [] i d lt = absurd (omega arith)
largest_item-args f (x ∷ xs) zero d lt = omega arith
largest_item-args f (x ∷ xs) (suc i) d lt = omega (arith, largest_item-args f xs i d (omega arith))

-- the same of the item that a loop reads
pub item-vars : {X : Type 0} (f : X → Room) (xs : List X) (i : ℕ) (x : X) → i < length xs → x ≡ get_or xs i x → (f x).vars ≤ (largest (map f xs)).vars
item-vars f xs i x lt e = subst (λ y. (f y).vars ≤ (largest (map f xs)).vars) (sym e) (largest_item-vars f xs i x lt)

pub item-args : {X : Type 0} (f : X → Room) (xs : List X) (i : ℕ) (x : X) → i < length xs → x ≡ get_or xs i x → (f x).args ≤ (largest (map f xs)).args
item-args f xs i x lt e = subst (λ y. (f y).args ≤ (largest (map f xs)).args) (sym e) (largest_item-args f xs i x lt)

pub all_within : {X : Type 0} (f : X → Room) (xs : List X) (r : Room) → r ≡ largest (map f xs) → All (λ x. IsWithin (f x) r) xs
all_within f xs r e k d lt = subst (λ q. IsWithin (f (get_or xs k d)) q) (sym e) (largest_item-vars f xs k d lt, largest_item-args f xs k d lt)
