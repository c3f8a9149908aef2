-- The numbers of a block among the values of the variables in scope, and a step of them from the right: all behind the
-- first `i` of them are zeros again, since none of them could grow.
use Rattle.std.proofs.Common.{◌≡◌, ℕ, zero, suc, ◌+◌, ◌<◌, ◌≤◌, true, List, [], ◌∷◌, ◌++◌, length, take, drop, set, get_or, ap, refl, sym, subst, ◌∙◌, arith, append_assoc, length-drop, rules}
use Rattle.std.specs.Prelude.{nat_lt, cond, Some, None}
use Rattle.std.proofs.Math.Seq.{take-add}
use Rattle.std.proofs.lemmas.Bool.{cond-true, cond-false}
use Rattle.std.proofs.lemmas.List.{drop-take, drop_at, drop_more, set_at, take_more, take-take, length-take-le, get_or-take, get_or-drop, get_or_append_left, append-nil, drop_all}
use Rattle.fm_base.specs.Interpretations.{Reading}
use Rattle.fm_base.specs.declared.ids.SortId.{SortId}
use Rattle.fm_truth.specs.Tuples.{zeros, have_elements, moved, first_of, next_of, tuple_of}

tuple_in_scope : (ss : List SortId) (d : ℕ) (vars front zs : List ℕ) → take (d + length ss) vars ≡ front ++ zs → length front ≡ d → tuple_of ss d vars ≡ zs
tuple_in_scope ss d vars front zs e len = sym (drop-take d (length ss) vars) ∙ ap (λ l. drop d l) e ∙ drop_at front zs d len

take_set : (n : ℕ) (xs : List ℕ) (k y : ℕ) → take n (set xs k y) ≡ set (take n xs) k y
take_set zero xs k y = refl
take_set (suc n) [] k y = refl
take_set (suc n) (x ∷ xs) zero y = refl
take_set (suc n) (x ∷ xs) (suc k) y = ap (λ l. x ∷ l) (take_set n xs k y)

-- the last number in front of `zs` is written
scope_set : (n k y : ℕ) (vars old zs : List ℕ) → take n vars ≡ take (k + 1) old ++ zs → k < length old → take n (set vars k y) ≡ take k old ++ y ∷ zs
scope_set n k y vars old zs e lt =
    let x : ℕ = get_or old k 0 in
    let front : take (k + 1) old ++ zs ≡ take k old ++ x ∷ zs = ap (λ l. l ++ zs) (take_more old k 0 lt) ∙ append_assoc (take k old) (x ∷ []) zs in
    take_set n vars k y ∙ ap (λ l. set l k y) (e ∙ front) ∙ set_at (take k old) x zs y k (length-take-le k old (omega (arith, lt)))

-- the first `i` numbers of the block are the old ones, and zeros follow
abbrev pub Begun : List SortId → ℕ → ℕ → List ℕ → List ℕ → Type 0
Begun ss d i old vars = take (d + length ss) vars ≡ take (d + i) old ++ zeros (drop i ss)

written : (ss : List SortId) (d i y : ℕ) (old vars : List ℕ) → i < length ss → d + length ss ≤ length old → Begun ss d (i + 1) old vars → take (d + length ss) (set vars (d + i) y) ≡ take (d + i) old ++ y ∷ zeros (drop (i + 1) ss)
written ss d i y old vars lt room begun =
    let e : d + (i + 1) ≡ d + i + 1 = omega arith in
    scope_set (d + length ss) (d + i) y vars old (zeros (drop (i + 1) ss)) (subst (λ k. take (d + length ss) vars ≡ take k old ++ zeros (drop (i + 1) ss)) e begun) (omega (arith, lt, room))

pub begun_more : (ss : List SortId) (d i : ℕ) (none : SortId) (old vars : List ℕ) → i < length ss → d + length ss ≤ length old → Begun ss d (i + 1) old vars → Begun ss d i old (set vars (d + i) 0)
begun_more ss d i none old vars lt room begun =
    written ss d i 0 old vars lt room begun ∙ ap (λ l. take (d + i) old ++ zeros l) (sym (drop_more ss i none lt))

grown : (ss : List SortId) (d i y : ℕ) (old vars : List ℕ) → i < length ss → d + length ss ≤ length old → Begun ss d (i + 1) old vars → tuple_of ss d (set vars (d + i) y) ≡ take i (tuple_of ss d old) ++ y ∷ zeros (drop (i + 1) ss)
grown ss d i y old vars lt room begun =
    let zs : List ℕ = y ∷ zeros (drop (i + 1) ss) in
    let front : take (d + i) old ≡ take d old ++ take i (tuple_of ss d old) = take-add d i old ∙ ap (λ l. take d old ++ l) (sym (take-take i (length ss) (drop d old) (omega (arith, lt)))) in
    let whole : take (d + length ss) (set vars (d + i) y) ≡ take d old ++ (take i (tuple_of ss d old) ++ zs) = written ss d i y old vars lt room begun ∙ ap (λ l. l ++ zs) front ∙ append_assoc (take d old) (take i (tuple_of ss d old)) zs in
    tuple_in_scope ss d (set vars (d + i) y) (take d old) (take i (tuple_of ss d old) ++ zs) whole (length-take-le d old (omega (arith, room)))

-- the number at which a step stands is still the old one
number : (ss : List SortId) (d i : ℕ) (old vars : List ℕ) → i < length ss → d + length ss ≤ length old → Begun ss d (i + 1) old vars → get_or vars (d + i) 0 ≡ get_or (tuple_of ss d old) i 0
number ss d i old vars lt room begun =
    let n : ℕ = length ss in
    let k : ℕ = d + i in
    let front : List ℕ = take (d + (i + 1)) old in
    let len : length front ≡ d + (i + 1) = length-take-le (d + (i + 1)) old (omega (arith, lt, room)) in
    let here : get_or vars k 0 ≡ get_or (take (d + n) vars) k 0 = sym (get_or-take (d + n) vars k 0 (omega (arith, lt))) in
    let before : get_or (front ++ zeros (drop (i + 1) ss)) k 0 ≡ get_or front k 0 = get_or_append_left front (zeros (drop (i + 1) ss)) 0 k (omega (arith, len)) in
    let was : get_or front k 0 ≡ get_or old k 0 = get_or-take (d + (i + 1)) old k 0 (omega arith) in
    let there : get_or (tuple_of ss d old) i 0 ≡ get_or old k 0 = get_or-take n (drop d old) i 0 lt ∙ get_or-drop d old i 0 in
    here ∙ ap (λ l. get_or l k 0) begun ∙ before ∙ was ∙ sym there

tuple_length : (ss : List SortId) (d : ℕ) (old : List ℕ) → d + length ss ≤ length old → length (tuple_of ss d old) ≡ length ss
tuple_length ss d old room = length-take-le (length ss) (drop d old) (omega (arith, room, length-drop d old))

-- one number further to the left
next_here : (m : Reading) (ss : List SortId) (xs : List ℕ) (i : ℕ) (none : SortId) (x : ℕ) → i < length ss → i < length xs → x ≡ get_or xs i 0 → next_of m (drop (i + 1) ss) (drop (i + 1) xs) ≡ None → next_of m (drop i ss) (drop i xs) ≡ cond (nat_lt (x + 1) (m.size (get_or ss i none).0)) (Some ((x + 1) ∷ zeros (drop (i + 1) ss))) None
next_here m ss xs i none x lt within at ends =
    let s : SortId = get_or ss i none in
    let numbers : drop i xs ≡ x ∷ drop (i + 1) xs = drop_more xs i 0 within ∙ ap (λ v. v ∷ drop (i + 1) xs) (sym at) in
    ap (λ l. next_of m l (drop i xs)) (drop_more ss i none lt) ∙ ap (λ l. next_of m (s ∷ drop (i + 1) ss) l) numbers ∙ ap (λ o. moved (m.size s.0) (drop (i + 1) ss) x o) ends

next_from : (m : Reading) (ss : List SortId) (xs : List ℕ) (i : ℕ) (ys : List ℕ) → length xs ≡ length ss → next_of m (drop i ss) (drop i xs) ≡ Some ys → next_of m ss xs ≡ Some (take i xs ++ ys)
next_from m ss xs zero ys len e = e
next_from m [] xs (suc i) ys len e = cc
next_from m (s ∷ ss) [] (suc i) ys len e = cc
next_from m (s ∷ ss) (x ∷ xs) (suc i) ys len e = ap (λ o. moved (m.size s.0) ss x o) (next_from m ss xs i ys (omega (arith, len)) e)

-- the number can't grow
pub next_ends : (m : Reading) (ss : List SortId) (d i : ℕ) (none : SortId) (old vars : List ℕ) → i < length ss → d + length ss ≤ length old → Begun ss d (i + 1) old vars → m.size (get_or ss i none).0 ≤ get_or vars (d + i) 0 + 1 → next_of m (drop (i + 1) ss) (drop (i + 1) (tuple_of ss d old)) ≡ None → next_of m (drop i ss) (drop i (tuple_of ss d old)) ≡ None
next_ends m ss d i none old vars lt room begun le ends =
    let x : ℕ = get_or vars (d + i) 0 in
    next_here m ss (tuple_of ss d old) i none x lt (omega (arith, lt, tuple_length ss d old room)) (number ss d i old vars lt room begun) ends ∙ cond-false (nat_lt (x + 1) (m.size (get_or ss i none).0)) (Some ((x + 1) ∷ zeros (drop (i + 1) ss))) None (search (rules, le))

-- it grows
pub next_grows : (m : Reading) (ss : List SortId) (d i : ℕ) (none : SortId) (old vars : List ℕ) → i < length ss → d + length ss ≤ length old → Begun ss d (i + 1) old vars → get_or vars (d + i) 0 + 1 < m.size (get_or ss i none).0 → next_of m (drop (i + 1) ss) (drop (i + 1) (tuple_of ss d old)) ≡ None → Some (tuple_of ss d (set vars (d + i) (get_or vars (d + i) 0 + 1))) ≡ next_of m ss (tuple_of ss d old)
next_grows m ss d i none old vars lt room begun grows ends =
    let x : ℕ = get_or vars (d + i) 0 in
    let xs : List ℕ = tuple_of ss d old in
    let ys : List ℕ = (x + 1) ∷ zeros (drop (i + 1) ss) in
    let step : next_of m (drop i ss) (drop i xs) ≡ Some ys = next_here m ss xs i none x lt (omega (arith, lt, tuple_length ss d old room)) (number ss d i old vars lt room begun) ends ∙ cond-true (nat_lt (x + 1) (m.size (get_or ss i none).0)) (Some ys) None (search (rules, grows)) in
    ap (λ l. Some l) (grown ss d i (x + 1) old vars lt room begun) ∙ sym (next_from m ss xs i ys (tuple_length ss d old room) step)

-- zeros for each variable of the block
pub first_written : (m : Reading) (ss : List SortId) (d i : ℕ) (old vars : List ℕ) → length ss ≤ i → i ≤ length ss → d + length ss ≤ length old → have_elements m (drop i ss) ≡ have_elements m ss → take (d + i) vars ++ zeros (drop i ss) ≡ take d old ++ zeros ss → Some (tuple_of ss d vars) ≡ first_of m ss
first_written m ss d i old vars ge le room elements e =
    let none : drop i ss ≡ [] = drop_all i ss ge in
    let some : have_elements m ss ≡ true = sym elements ∙ ap (λ l. have_elements m l) none in
    let all : take (d + i) vars ≡ take d old ++ zeros ss = sym (append-nil (take (d + i) vars)) ∙ ap (λ l. take (d + i) vars ++ zeros l) (sym none) ∙ e in
    let scope : take (d + length ss) vars ≡ take d old ++ zeros ss = subst (λ n. take (d + n) vars ≡ take d old ++ zeros ss) (omega (arith, ge, le)) all in
    let is : tuple_of ss d vars ≡ zeros ss = tuple_in_scope ss d vars (take d old) (zeros ss) scope (length-take-le d old (omega (arith, room))) in
    ap (λ l. Some l) is ∙ sym (cond-true (have_elements m ss) (Some (zeros ss)) None some)
