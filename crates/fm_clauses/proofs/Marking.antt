-- Marks of the sorts that have ground terms, and the constants of the others.
use Rattle.std.proofs.Common.{◌≡◌, ℕ, zero, suc, ◌+◌, ◌<◌, ◌≤◌, ◌-◌, Bool, true, false, ◌&&◌, ◌||◌, cond, List, [], ◌∷◌, ◌++◌, length, drop, take, get_or, replicate, ap, refl, sym, subst, ◌∙◌, arith, add-one, append_assoc}
use Rattle.std.proofs.lemmas.List.{append-nil, drop_all}
use Rattle.fm_base.specs.declared.signature.Rank.{Rank}
use Rattle.fm_base.specs.declared.signature.Sig.{Sig}
use Rattle.fm_base.specs.declared.formula.Pterm.{Pterm}
use Rattle.fm_nnf.specs.Places.{Occurs}
use Rattle.fm_clauses.specs.Assertions.{all_ground, all_grounds, constant_of, fresh_constants, grounds, some_of_sort}
use Rattle.fm_clauses.specs.Marked.{Marks, marked}
use Rattle.fm_clauses.specs.Narrow.{any_of}
use Rattle.fm_clauses.proofs.Walks.{drop_read}

or_swap : (p q m : Bool) → (q || (p || m)) ≡ ((p || q) || m)
or_swap true true m = refl
or_swap true false m = refl
or_swap false true m = refl
or_swap false false m = refl

or_after : (p q m : Bool) → (q || (p || m)) ≡ ((q || p) || m)
or_after p true m = refl
or_after p false m = refl

pub marks_both : (p q : Occurs) (a b c : List Bool) → Marks p a b → Marks q b c → Marks (λ k. p k || q k) a c
marks_both p q a b c one two k = two k ∙ ap (λ (x : Bool). q k || x) (one k) ∙ or_swap (p k) (q k) (marked a k)

-- the later of two said first
pub marks_after : (p q : Occurs) (a b c : List Bool) → Marks p a b → Marks q b c → Marks (λ k. q k || p k) a c
marks_after p q a b c one two k = two k ∙ ap (λ (x : Bool). q k || x) (one k) ∙ or_after (p k) (q k) (marked a k)

pub marks_more : {X : Type 0} (has : X → Occurs) (xs : List X) (i : ℕ) (x : X) → i < length xs → x ≡ get_or xs i x → (a b c : List Bool) → Marks (has x) a b → Marks (any_of has (drop (i + 1) xs)) b c → Marks (any_of has (drop i xs)) a c
marks_more has xs i x lt e a b c one two = subst (λ ys. Marks (any_of has ys) a c) (sym (drop_read xs i x lt e)) (marks_both (has x) (any_of has (drop (i + 1) xs)) a b c one two)

pub marks_end : {X : Type 0} (has : X → Occurs) (xs : List X) (i : ℕ) → length xs ≤ i → (a : List Bool) → Marks (any_of has (drop i xs)) a a
marks_end has xs i le a = subst (λ ys. Marks (any_of has ys) a a) (sym (drop_all i xs le)) (λ k. refl)

pub sorts_more : (sig : Sig) (ts : List Pterm) (i : ℕ) (x : Pterm) → i < length ts → x ≡ get_or ts i x → (a b c : List Bool) → Marks ((grounds sig x).of_sort) a b → Marks (some_of_sort (all_grounds sig (drop (i + 1) ts))) b c → Marks (some_of_sort (all_grounds sig (drop i ts))) a c
sorts_more sig ts i x lt e a b c one two = subst (λ (ys : List Pterm). Marks (some_of_sort (all_grounds sig ys)) a c) (sym (drop_read ts i x lt e)) (marks_both ((grounds sig x).of_sort) (some_of_sort (all_grounds sig (drop (i + 1) ts))) a b c one two)

pub sorts_end : (sig : Sig) (ts : List Pterm) (i : ℕ) → length ts ≤ i → (a : List Bool) → Marks (some_of_sort (all_grounds sig (drop i ts))) a a
sorts_end sig ts i le a = subst (λ (ys : List Pterm). Marks (some_of_sort (all_grounds sig ys)) a a) (sym (drop_all i ts le)) (λ k. refl)

and_assoc : (a b c : Bool) → ((a && b) && c) ≡ (a && (b && c))
and_assoc true b c = refl
and_assoc false b c = refl

and_true : (a : Bool) → (a && true) ≡ a
and_true true = refl
and_true false = refl

pub ground_more : (sig : Sig) (ts : List Pterm) (i : ℕ) (x : Pterm) → i < length ts → x ≡ get_or ts i x → (all ground next whole : Bool) → ground ≡ (grounds sig x).ground → next ≡ (all && ground) → (all && all_ground (all_grounds sig (drop i ts))) ≡ whole → (next && all_ground (all_grounds sig (drop (i + 1) ts))) ≡ whole
ground_more sig ts i x lt e all ground next whole is step old =
    let rest = all_ground (all_grounds sig (drop (i + 1) ts)) in
    ap (λ (b : Bool). b && rest) (step ∙ ap (λ (b : Bool). all && b) is) ∙ and_assoc all (grounds sig x).ground rest ∙ ap (λ (ys : List Pterm). all && all_ground (all_grounds sig ys)) (sym (drop_read ts i x lt e)) ∙ old

pub ground_end : (sig : Sig) (ts : List Pterm) (i : ℕ) → length ts ≤ i → (all whole : Bool) → (all && all_ground (all_grounds sig (drop i ts))) ≡ whole → all ≡ whole
ground_end sig ts i le all whole old = sym (ap (λ (ys : List Pterm). all && all_ground (all_grounds sig ys)) (drop_all i ts le) ∙ and_true all) ∙ old

pub fresh_step : (n : ℕ) (has : Occurs) (r0 r1 r2 : List Rank) → r1 ≡ r0 ++ fresh_constants n has → r2 ≡ r1 ++ cond (has n) [] (constant_of n ∷ []) → r2 ≡ r0 ++ fresh_constants (n + 1) has
unfolding fresh_constants
fresh_step n has r0 r1 r2 one two =
    let more : List Rank = cond (has n) [] (constant_of n ∷ []) in
    let grown : fresh_constants n has ++ more ≡ fresh_constants (n + 1) has = ap (λ (k : ℕ). fresh_constants k has) (sym (add-one n)) in
    two ∙ ap (λ (rs : List Rank). rs ++ more) one ∙ append_assoc r0 (fresh_constants n has) more ∙ ap (λ (rs : List Rank). r0 ++ rs) grown

pub fresh_none : (has : Occurs) (r : List Rank) → r ≡ r ++ fresh_constants 0 has
unfolding fresh_constants
fresh_none has r = sym (append-nil r)

fresh_same : (n : ℕ) (p q : Occurs) → ((k : ℕ) → k < n → p k ≡ q k) → fresh_constants n p ≡ fresh_constants n q
unfolding fresh_constants
fresh_same zero p q same = refl
fresh_same (suc n) p q same =
    let rest = fresh_same n p q (λ k lt. same k (omega arith)) in
    let last = same n (omega arith) in
    λ i. rest i ++ cond (last i) [] (constant_of n ∷ [])

unmarked : (n k : ℕ) → k < n → get_or (replicate n false) k true ≡ false
unmarked zero k lt = absurd (omega arith)
unmarked (suc n) zero lt = refl
unmarked (suc n) (suc k) lt = unmarked n k (omega arith)

or_none : (a : Bool) → (a || false) ≡ a
or_none true = refl
or_none false = refl

pub fresh_marked : (n : ℕ) (has : Occurs) (m0 m1 : List Bool) (r : List Rank) (made : List Rank) → m0 ≡ replicate n false → Marks has m0 m1 → made ≡ r ++ fresh_constants n (marked m1) → made ≡ r ++ fresh_constants n has
fresh_marked n has m0 m1 r made e marks is =
    is ∙ ap (λ (rs : List Rank). r ++ rs) (fresh_same n (marked m1) has (λ k lt. marks k ∙ ap (λ (b : Bool). has k || b) (ap (λ (ms : List Bool). marked ms k) e ∙ unmarked n k lt) ∙ or_none (has k)))

pub none_marked : (n l : ℕ) (xs made : List Bool) → xs ≡ [] → l ≡ 0 → made ≡ take n xs ++ replicate (n - l) false → made ≡ replicate n false
none_marked n l xs made e z is = is ∙ (λ i. take n (e i) ++ replicate (n - z i) false) ∙ front n ∙ ap (λ (k : ℕ). replicate k false) (let h : n - 0 ≡ n = omega arith in h)
  where
    front : (k : ℕ) → take k [] ++ replicate (n - 0) false ≡ replicate (n - 0) false
    front zero = refl
    front (suc k) = refl
