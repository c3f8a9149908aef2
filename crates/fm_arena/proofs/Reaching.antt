-- Parts that are read several times.
use Rattle.std.specs.Prelude.{replicate}
use Rattle.std.proofs.Common.{◌≡◌, ℕ, zero, suc, ◌+◌, ◌*◌, ◌-◌, ◌<◌, ◌≤◌, List, [], ◌∷◌, ◌++◌, length, set, get_or, map, ap, refl, sym, ◌∙◌, arith}
use Rattle.std.proofs.Math.Nat.{mul-add, mul_assoc, le-mul_of_pos_right, sub-zero}
use Rattle.std.proofs.lemmas.List.{length_push}
use Rattle.std.proofs.Math.Dec.{eqb, eqb-suc-zero}
use Rattle.std.specs.Prelude.{max, cond, Bool, false}
use Rattle.fm_arena.specs.Measures.{one, over, pair_measure, all_pairs, total, deepest}
use Rattle.fm_arena.specs.Pairs.{each_pair, flat_pairs}
use Rattle.fm_arena.specs.Weights.{Weights, Weighed, beside, no_measure, reach, param_weight, params_weight, weight_at}
use Rattle.fm_arena.specs.Passes.{reached, marks_weight}
use Rattle.fm_arena.specs.declared.forms.Param.{Param}
use Rattle.fm_arena.specs.declared.forms.Reads.{Reads}
use Rattle.fm_arena.specs.declared.sizes.Measure.{Measure}
use Rattle.fm_arena.proofs.Adding.{measure_same, beside_assoc}
use Rattle.fm_arena.proofs.Measuring.{total_append}

abbrev measured : ℕ → ℕ → Measure
measured s d = record { size = s; depth = d }

abbrev reads : ℕ → ℕ → Reads
reads c a = record { count = c; above = a }

pub beside_none : (m : Measure) → beside m no_measure ≡ m
beside_none m = measure_same (m.size + 0) m.size (max m.depth 0) m.depth (omega arith) (omega arith)

pub none_beside : (m : Measure) → beside no_measure m ≡ m
none_beside m = measure_same (0 + m.size) m.size (max 0 m.depth) m.depth (omega arith) (omega arith)

pub beside_swap : (a b c : Measure) → beside (beside a b) c ≡ beside (beside a c) b
beside_swap a b c = measure_same ((a.size + b.size) + c.size) ((a.size + c.size) + b.size) (max (max a.depth b.depth) c.depth) (max (max a.depth c.depth) b.depth) (omega arith) (omega arith)

-- a part that is read at all
pos_false : (n : ℕ) → 0 < n → eqb n 0 ≡ false
pos_false zero lt = absurd (omega (arith, lt))
pos_false (suc n) lt = eqb-suc-zero n

reach_pos : (c a : ℕ) (m : Measure) → 0 < c → reach (reads c a) m ≡ measured (c * m.size) (a + m.depth)
reach_pos c a m lt = ap (λ (b : Bool). cond b no_measure (measured (c * m.size) (a + m.depth))) (pos_false c lt)

pub reach_suc : (c a : ℕ) (m : Measure) → reach (reads (suc c) a) m ≡ measured (suc c * m.size) (a + m.depth)
reach_suc c a m = reach_pos (suc c) a m (omega arith)

-- parts beside one another
pub reach_beside : (c a : ℕ) (m n : Measure) → reach (reads (suc c) a) (beside m n) ≡ beside (reach (reads (suc c) a) m) (reach (reads (suc c) a) n)
reach_beside c a m n =
    reach_suc c a (beside m n)
    ∙ measure_same (suc c * (m.size + n.size)) (suc c * m.size + suc c * n.size) (a + max m.depth n.depth) (max (a + m.depth) (a + n.depth)) (mul-add (suc c) m.size n.size) (omega arith)
    ∙ ap (beside (measured (suc c * m.size) (a + m.depth))) (sym (reach_suc c a n))
    ∙ ap (λ (x : Measure). beside x (reach (reads (suc c) a) n)) (sym (reach_suc c a m))

-- a part of a part, beside what is at least as deep as the outer one
pub reach_through : (c a k b : ℕ) (s m : Measure) → a ≤ s.depth → beside s (reach (reads (suc c) a) (reach (reads k b) m)) ≡ beside s (reach (reads (suc c * k) (a + b)) m)
reach_through c a zero b s m le =
    let none : 0 ≡ suc c * 0 = omega arith in
    ap (beside s) (reach_suc c a no_measure)
    ∙ measure_same (s.size + suc c * 0) (s.size + 0) (max s.depth (a + 0)) (max s.depth 0) (omega arith) (omega (arith, le))
    ∙ ap (λ (n : ℕ). beside s (reach (reads n (a + b)) m)) none
reach_through c a (suc k) b s m le =
    let some : 0 < suc k = omega arith in
    let more : suc c ≤ suc c * suc k = le-mul_of_pos_right (suc c) some in
    ap (λ (x : Measure). beside s (reach (reads (suc c) a) x)) (reach_suc k b m)
    ∙ ap (beside s) (reach_suc c a (measured (suc k * m.size) (b + m.depth)))
    ∙ measure_same (s.size + suc c * (suc k * m.size)) (s.size + (suc c * suc k) * m.size) (max s.depth (a + (b + m.depth))) (max s.depth ((a + b) + m.depth)) (ap (λ (n : ℕ). s.size + n) (sym (mul_assoc (suc c) (suc k) m.size))) (omega arith)
    ∙ ap (beside s) (sym (reach_pos (suc c * suc k) (a + b) m (omega (arith, more))))

-- how deep parts under so many nodes reach
abbrev under : ℕ → List Measure → ℕ
under k [] = 0
under k (m ∷ ms) = max (k + m.depth) (under k ms)

reached_is : (c a : ℕ) (ms : List Measure) → reached (reads (suc c) a) ms ≡ measured (suc c * total ms) (under a ms)
reached_is c a [] = measure_same 0 (suc c * 0) 0 0 (omega arith) refl
reached_is c a (m ∷ ms) =
    ap (beside (reach (reads (suc c) a) m)) (reached_is c a ms)
    ∙ ap (λ (x : Measure). beside x (measured (suc c * total ms) (under a ms))) (reach_suc c a m)
    ∙ measure_same (suc c * m.size + suc c * total ms) (suc c * (m.size + total ms)) (max (a + m.depth) (under a ms)) (max (a + m.depth) (under a ms)) (sym (mul-add (suc c) m.size (total ms))) refl

under_over : (a : ℕ) (ms : List Measure) → a + (1 + deepest ms) ≡ max (a + 1) (under (a + 1) ms)
under_over a [] = omega arith
under_over a (m ∷ ms) = let h = under_over a ms in omega (arith, h)

pub reach_over : (c a : ℕ) (ms : List Measure) → reach (reads (suc c) a) (over ms) ≡ beside (reach (reads (suc c) a) one) (reached (reads (suc c) (a + 1)) ms)
reach_over c a ms =
    reach_suc c a (over ms)
    ∙ measure_same (suc c * (1 + total ms)) (suc c * 1 + suc c * total ms) (a + (1 + deepest ms)) (max (a + 1) (under (a + 1) ms)) (mul-add (suc c) 1 (total ms)) (under_over a ms)
    ∙ ap (λ (x : Measure). beside x (measured (suc c * total ms) (under (a + 1) ms))) (sym (reach_suc c a one))
    ∙ ap (beside (reach (reads (suc c) a) one)) (sym (reached_is c (a + 1) ms))

-- all pairs, laid out one behind the other: two nodes over each
each_total : (m : Measure) (ms : List Measure) → total (map (pair_measure m) ms) ≡ length (each_pair m ms) + total (each_pair m ms)
each_total m [] = refl
each_total m (n ∷ ms) = let h = each_total m ms in omega (arith, h)

length_append : (xs ys : List Measure) → length (xs ++ ys) ≡ length xs + length ys
length_append [] ys = omega arith
length_append (x ∷ xs) ys = let h = length_append xs ys in omega (arith, h)

pairs_total : (ms : List Measure) → total (all_pairs ms) ≡ length (flat_pairs ms) + total (flat_pairs ms)
pairs_total [] = refl
pairs_total (m ∷ ms) =
    let a = total_append (map (pair_measure m) ms) (all_pairs ms) in
    let b = total_append (each_pair m ms) (flat_pairs ms) in
    let l = length_append (each_pair m ms) (flat_pairs ms) in
    let e = each_total m ms in
    let h = pairs_total ms in
    omega (arith, a, b, l, e, h)

under_each : (a : ℕ) (m : Measure) (ms rest : List Measure) (fl : List Measure) → a + (1 + deepest rest) ≡ max (a + 1) (under (a + 3) fl) → a + (1 + deepest (map (pair_measure m) ms ++ rest)) ≡ max (a + 1) (under (a + 3) (each_pair m ms ++ fl))
under_each a m [] rest fl h = h
under_each a m (n ∷ ms) rest fl h = let k = under_each a m ms rest fl h in omega (arith, k)

under_pairs : (a : ℕ) (ms : List Measure) → a + (1 + deepest (all_pairs ms)) ≡ max (a + 1) (under (a + 3) (flat_pairs ms))
under_pairs a [] = omega arith
under_pairs a (m ∷ ms) = under_each a m ms (all_pairs ms) (flat_pairs ms) (under_pairs a ms)

pub reach_pairs : (c a : ℕ) (ms : List Measure) → reach (reads (suc c) a) (over (all_pairs ms)) ≡ beside (reach (reads (suc c) a) (measured (1 + length (flat_pairs ms)) 1)) (reached (reads (suc c) (a + 3)) (flat_pairs ms))
reach_pairs c a ms =
    let n = length (flat_pairs ms) in
    let t = total (flat_pairs ms) in
    reach_suc c a (over (all_pairs ms))
    ∙ measure_same (suc c * (1 + total (all_pairs ms))) (suc c * (1 + n) + suc c * t) (a + (1 + deepest (all_pairs ms))) (max (a + 1) (under (a + 3) (flat_pairs ms)))
    (ap (λ (k : ℕ). suc c * k) (size ms) ∙ mul-add (suc c) (1 + n) t) (under_pairs a ms)
    ∙ ap (λ (x : Measure). beside x (measured (suc c * t) (under (a + 3) (flat_pairs ms)))) (sym (reach_suc c a (measured (1 + n) 1)))
    ∙ ap (beside (reach (reads (suc c) a) (measured (1 + n) 1))) (sym (reached_is c (a + 3) (flat_pairs ms))) where
      size : (ms : List Measure) → 1 + total (all_pairs ms) ≡ (1 + length (flat_pairs ms)) + total (flat_pairs ms)
      size ms = let h = pairs_total ms in omega (arith, h)

-- one more read of an element
pub marks_set : (fs : List Weighed) (n : ℕ) (rs : List Reads) (i : ℕ) (r s t : Reads) (w : Weights) → i < length rs → s ≡ get_or rs i s → ((m : Measure) → reach t m ≡ beside (reach s m) (reach r m))
    → marks_weight fs n (set rs i t) w ≡ beside (marks_weight fs n rs w) (reach r (weight_at fs (n - 1 - i) w))
marks_set fs n [] i r s t w lt e h = absurd (omega (arith, lt))
marks_set fs n (x ∷ rs) zero r s t w lt e h =
    let m = weight_at fs (n - 1) w in
    ap (λ (a : Measure). beside a (marks_weight fs (n - 1) rs w)) (h m ∙ ap (λ (y : Reads). beside (reach y m) (reach r m)) e)
    ∙ beside_swap (reach x m) (reach r m) (marks_weight fs (n - 1) rs w)
    ∙ ap (λ (k : ℕ). beside (beside (reach x m) (marks_weight fs (n - 1) rs w)) (reach r (weight_at fs k w))) (sym (sub-zero (n - 1)))
marks_set fs n (x ∷ rs) (suc i) r s t w lt e h =
    let m = weight_at fs (n - 1) w in
    let k : n - 1 - 1 - i ≡ n - 1 - suc i = omega arith in
    ap (beside (reach x m)) (marks_set fs (n - 1) rs i r s t w (omega (arith, lt)) e h)
    ∙ sym (beside_assoc (reach x m) (marks_weight fs (n - 1) rs w) (reach r (weight_at fs (n - 1 - 1 - i) w)))
    ∙ ap (λ (j : ℕ). beside (beside (reach x m) (marks_weight fs (n - 1) rs w)) (reach r (weight_at fs j w))) k

pub marks_push : (fs : List Weighed) (n : ℕ) (rs : List Reads) (a : ℕ) (w : Weights) → marks_weight fs n (rs ++ reads 0 a ∷ []) w ≡ marks_weight fs n rs w
marks_push fs n [] a w = refl
marks_push fs n (x ∷ rs) a w = ap (beside (reach x (weight_at fs (n - 1) w))) (marks_push fs (n - 1) rs a w)

pub params_set : (ps : List Param) (i place : ℕ) (p q : Param) (x : Measure) (w : Weights) → i < length ps → p ≡ get_or ps i p → param_weight q (place + i) w ≡ beside (param_weight p (place + i) w) x
    → params_weight (set ps i q) place w ≡ beside (params_weight ps place w) x
params_set [] i place p q x w lt e h = absurd (omega (arith, lt))
params_set (y ∷ ps) zero place p q x w lt e h =
    let k : place ≡ place + 0 = omega arith in
    ap (λ (a : Measure). beside a (params_weight ps (suc place) w))
    (ap (λ (j : ℕ). param_weight q j w) k ∙ h ∙ ap (λ (j : ℕ). beside (param_weight p j w) x) (sym k) ∙ ap (λ (z : Param). beside (param_weight z place w) x) e)
    ∙ beside_swap (param_weight y place w) x (params_weight ps (suc place) w)
params_set (y ∷ ps) (suc i) place p q x w lt e h =
    let k : place + suc i ≡ suc place + i = omega arith in
    ap (beside (param_weight y place w))
    (params_set ps i (suc place) p q x w (omega (arith, lt)) e (ap (λ (j : ℕ). param_weight q j w) (sym k) ∙ h ∙ ap (λ (j : ℕ). beside (param_weight p j w) x) k))
    ∙ sym (beside_assoc (param_weight y place w) (params_weight ps (suc place) w) x)

-- parameters that aren't read
pub params_none : (n place : ℕ) (w : Weights) → params_weight (replicate n (record { truths = reads 0 0; things = reads 0 0 })) place w ≡ no_measure
params_none zero place w = refl
params_none (suc n) place w = none_beside (params_weight (replicate n (record { truths = reads 0 0; things = reads 0 0 })) (suc place) w) ∙ params_none n (suc place) w

pub new_pass : (fs : List Weighed) (n : ℕ) (ps : List Param) (rs : List Reads) (k : ℕ) (w : Weights) → ps ≡ replicate k (record { truths = reads 0 0; things = reads 0 0 }) → rs ≡ [] → beside no_measure (beside (params_weight ps 0 w) (marks_weight fs n rs w)) ≡ no_measure
new_pass fs n ps rs k w e f =
    ap (λ (l : List Param). beside no_measure (beside (params_weight l 0 w) (marks_weight fs n rs w))) e
    ∙ ap (λ (l : List Reads). beside no_measure (beside (params_weight (replicate k (record { truths = reads 0 0; things = reads 0 0 })) 0 w) (marks_weight fs n l w))) f
    ∙ ap (λ (m : Measure). beside no_measure (beside m no_measure)) (params_none k 0 w)

pub marks_pushed : (fs : List Weighed) (n : ℕ) (rs new : List Reads) (a : ℕ) (w : Weights) → new ≡ rs ++ reads 0 a ∷ [] → marks_weight fs n new w ≡ marks_weight fs n rs w
marks_pushed fs n rs new a w e = ap (λ (l : List Reads). marks_weight fs n l w) e ∙ marks_push fs n rs a w

pub pushed_few : (rs new : List Reads) (a back n : ℕ) → new ≡ rs ++ reads 0 a ∷ [] → length rs ≤ back → back < n → length new ≤ n
pushed_few rs new a back n e le lt = let k : length new ≡ length rs + 1 = ap length e ∙ length_push rs (reads 0 a) in omega (arith, le, lt, k)
