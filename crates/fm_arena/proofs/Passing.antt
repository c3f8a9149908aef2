-- What a pass over a definition's body finds.
use Rattle.std.proofs.Common.{◌≡◌, ℕ, zero, suc, ◌+◌, ◌*◌, ◌-◌, ◌<◌, ◌≤◌, Bool, true, false, List, [], ◌∷◌, ◌++◌, length, drop, set, get_or, map, ap, refl, sym, subst, ◌∙◌, arith, append-nil}
use Rattle.std.specs.Prelude.{max, nat_lt, cond, slice_get, Option, Some, None, Result, Ok, Err, OnOk}
use Rattle.std.proofs.Math.Path.{fun_ext}
use Rattle.std.proofs.Math.Bool.{beq}
use Rattle.std.proofs.lemmas.Option.{slice_get_past}
use Rattle.std.proofs.lemmas.Bool.{ltb-false, ltb-true}
use Rattle.fm_base.specs.Truth.{is_bool}
use Rattle.fm_base.specs.declared.signature.Ty.{Ty}
use Rattle.fm_arena.specs.Trees.{apart_kind}
use Rattle.fm_arena.specs.Measures.{one, over, weigh, all_pairs}
use Rattle.fm_arena.specs.Pairs.{flat_pairs}
use Rattle.fm_arena.specs.Meanings.{Term, term_of, terms_after}
use Rattle.fm_arena.specs.Kept.{entry_type}
use Rattle.fm_arena.specs.Weights.{Weights, Weighed, Weighing, AreWeighedAfter, Follows, HasForm, IsForm, IsUse, arguments, argument_of, beside, form_weight, inside_weights, no_measure, param_weight, params_weight, reach, read_as, truth_in, weight_at, weighed, weighed_after, weighed_of, weighing_in, weighing_of}
use Rattle.fm_arena.specs.Passes.{AreOnesPast, Gains, through, deeper, reached, made_gain, marks_weight, name_gain, own_gain, pairs_gain, param_gain, part_gain, parts_gain, pass_weight, params_gain, read_gain, form_gain, block_gain, node_gain, standing}
use Rattle.fm_arena.specs.declared.forms.Form.{Form}
use Rattle.fm_arena.specs.declared.forms.Param.{Param}
use Rattle.fm_arena.specs.declared.forms.Reads.{Reads}
use Rattle.fm_arena.specs.declared.node.Entry.{Entry}
use Rattle.fm_arena.specs.declared.node.Node.{Node}
use Rattle.fm_arena.specs.declared.node.Op.{Op}
use Rattle.fm_arena.specs.declared.passes.Pass.{Pass}
use Rattle.fm_arena.specs.declared.sizes.Measure.{Measure}
use Rattle.fm_arena.proofs.Adding.{measure_same, beside_assoc}
use Rattle.std.proofs.lemmas.List.{drop_more, length-map, length-set}
use Rattle.fm_arena.proofs.Using.{enough}
use Rattle.fm_arena.proofs.Pairing.{flat_map}
use Rattle.fm_arena.proofs.Reading.{at_length}
use Rattle.fm_arena.proofs.Reaching.{beside_none, none_beside, beside_swap, reach_beside, reach_suc, reach_through, reach_over, reach_pairs, marks_set, params_set}

-- what is weighed, one entry after the other
pub weighed_append : (fs : List Weighed) (xs ys : List Entry) → weighed_after fs (xs ++ ys) ≡ weighed_after (weighed_after fs xs) ys
weighed_append fs [] ys = refl
weighed_append fs (x ∷ xs) ys = weighed_append (fs ++ weighed fs x ∷ []) xs ys

weighed_push : (es : List Entry) (e : Entry) → weighed_of (es ++ e ∷ []) ≡ weighed_of es ++ weighed (weighed_of es) e ∷ []
weighed_push es e = weighed_append [] es (e ∷ [])

length_push : {A : Type 0} (xs : List A) (x : A) → length (xs ++ x ∷ []) ≡ suc (length xs)
length_push [] x = refl
length_push (y ∷ xs) x = ap suc (length_push xs x)

length_after : (fs : List Weighed) (es : List Entry) → length (weighed_after fs es) ≡ length fs + length es
length_after fs [] = omega arith
length_after fs (e ∷ es) =
    let h = length_after (fs ++ weighed fs e ∷ []) es in
    let k = length_push fs (weighed fs e) in
    omega (arith, h, k)

pub length_weighed : (es : List Entry) → length (weighed_of es) ≡ length es
length_weighed es = let h = length_after [] es in omega (arith, h)

get_front : {A : Type 0} (xs ys : List A) (n : ℕ) → n < length xs → slice_get (xs ++ ys) n ≡ slice_get xs n
get_front [] ys n lt = absurd (omega (arith, lt))
get_front (x ∷ xs) ys zero lt = refl
get_front (x ∷ xs) ys (suc n) lt = get_front xs ys n (omega (arith, lt))

weight_front : (es : List Entry) (e : Entry) (i : ℕ) (w : Weights) → i < length es → weight_at (weighed_of (es ++ e ∷ [])) i w ≡ weight_at (weighed_of es) i w
weight_front es e i w lt =
    let l = length_weighed es in
    ap (λ (fs : List Weighed). weight_at fs i w) (weighed_push es e) ∙ ap (λ (o : Option Weighed). weighing_in o w) (get_front (weighed_of es) (weighed (weighed_of es) e ∷ []) i (omega (arith, lt, l)))

weight_last : (es : List Entry) (e : Entry) (w : Weights) → weight_at (weighed_of (es ++ e ∷ [])) (length es) w ≡ weighing_of (weighed_of es) e.node w
weight_last es e w =
    ap (λ (fs : List Weighed). weight_at fs (length es) w) (weighed_push es e)
    ∙ ap (λ (n : ℕ). weight_at (weighed_of es ++ weighed (weighed_of es) e ∷ []) n w) (sym (length_weighed es))
    ∙ ap (λ (o : Option Weighed). weighing_in o w) (at_length (weighed_of es) [] (weighed (weighed_of es) e))

weight_past : (fs : List Weighed) (i : ℕ) (w : Weights) → length fs ≤ i → weight_at fs i w ≡ one
weight_past [] i w le = refl
weight_past (f ∷ fs) zero w le = absurd (omega (arith, le))
weight_past (f ∷ fs) (suc i) w le = weight_past fs i w (omega (arith, le))

pub part_past : (es : List Entry) (i : ℕ) (w : Weights) → length es ≤ i → weight_at (weighed_of es) i w ≡ one
part_past es i w le = let l = length_weighed es in weight_past (weighed_of es) i w (omega (arith, l, le))

marks_front : (es : List Entry) (e : Entry) (rs : List Reads) (n : ℕ) (w : Weights) → length rs ≤ n → n ≤ length es → marks_weight (weighed_of (es ++ e ∷ [])) n rs w ≡ marks_weight (weighed_of es) n rs w
marks_front es e [] n w le b = refl
marks_front es e (r ∷ rs) n w le b =
    ap (λ (m : Measure). beside (reach r m) (marks_weight (weighed_of (es ++ e ∷ [])) (n - 1) rs w)) (weight_front es e (n - 1) w (omega (arith, le, b)))
    ∙ ap (beside (reach r (weight_at (weighed_of es) (n - 1) w))) (marks_front es e rs (n - 1) w (omega (arith, le)) (omega (arith, b)))

-- more of what is the body's own, of a parameter, of an earlier term
beside_own : (own next x rest : Measure) → next ≡ beside own x → beside next rest ≡ beside (beside own rest) x
beside_own own next x rest e = ap (λ (m : Measure). beside m rest) e ∙ beside_swap own x rest

beside_middle : (own p q x rest : Measure) → q ≡ beside p x → beside own (beside q rest) ≡ beside (beside own (beside p rest)) x
beside_middle own p q x rest e = ap (beside own) (beside_own p q x rest e) ∙ sym (beside_assoc own (beside p rest) x)

beside_last : (own p m n x : Measure) → n ≡ beside m x → beside own (beside p n) ≡ beside (beside own (beside p m)) x
beside_last own p m n x e = ap (λ (y : Measure). beside own (beside p y)) e ∙ ap (beside own) (sym (beside_assoc p m x)) ∙ sym (beside_assoc own (beside p m) x)

pub own_gains : (fs : List Weighed) (n : ℕ) (old new : Pass) (r : Reads) (m : Measure) (gain : Weighing) → new.params.items ≡ old.params.items → new.marks.items ≡ old.marks.items → new.own ≡ beside old.own (reach r m)
    → ((w : Weights) → AreOnesPast (length old.params.items) w → gain w ≡ reach r m) → Gains fs n old new gain
own_gains fs n old new r m gain p k e g = record {
  weight = λ w past.
      ap (λ (ps : List Param). beside new.own (beside (params_weight ps 0 w) (marks_weight fs n new.marks.items w))) p
      ∙ ap (λ (rs : List Reads). beside new.own (beside (params_weight old.params.items 0 w) (marks_weight fs n rs w))) k
      ∙ beside_own old.own new.own (reach r m) (beside (params_weight old.params.items 0 w) (marks_weight fs n old.marks.items w)) e
      ∙ ap (beside (pass_weight fs n old w)) (sym (g w past));
  params = ap length p;
  few = λ le. subst (λ (rs : List Reads). length rs ≤ n) (sym k) le;
}

pub mark_gains : (fs : List Weighed) (n i : ℕ) (old new : Pass) (wide : List Reads) (r s t : Reads) (part : ℕ) → new.params.items ≡ old.params.items → new.own ≡ old.own → new.marks.items ≡ set wide i t
    → ((w : Weights) → marks_weight fs n wide w ≡ marks_weight fs n old.marks.items w) → (length old.marks.items ≤ n → length wide ≤ n) → i < length wide → s ≡ get_or wide i s
    → ((m : Measure) → reach t m ≡ beside (reach s m) (reach r m)) → n - 1 - i ≡ part → Gains fs n old new (λ w. reach r (weight_at fs part w))
mark_gains fs n i old new wide r s t part p o k same few lt e h at = record {
  weight = λ w past.
      ap (λ (m : Measure). beside m (beside (params_weight new.params.items 0 w) (marks_weight fs n new.marks.items w))) o
      ∙ ap (λ (ps : List Param). beside old.own (beside (params_weight ps 0 w) (marks_weight fs n new.marks.items w))) p
      ∙ beside_last old.own (params_weight old.params.items 0 w) (marks_weight fs n old.marks.items w) (marks_weight fs n new.marks.items w) (reach r (weight_at fs part w))
      (ap (λ (rs : List Reads). marks_weight fs n rs w) k ∙ marks_set fs n wide i r s t w lt e h ∙ ap (λ (m : Measure). beside m (reach r (weight_at fs (n - 1 - i) w))) (same w)
      ∙ ap (λ (j : ℕ). beside (marks_weight fs n old.marks.items w) (reach r (weight_at fs j w))) at);
  params = ap length p;
  few = λ le. subst (λ (l : ℕ). l ≤ n) (sym (ap length k ∙ length-set wide i t)) (few le);
}

pub param_gains : (fs : List Weighed) (n i : ℕ) (old new : Pass) (q p : Param) (gain : Weighing) → new.params.items ≡ set old.params.items i q → new.own ≡ old.own → new.marks.items ≡ old.marks.items
    → i < length old.params.items → p ≡ get_or old.params.items i p → ((w : Weights) → param_weight q i w ≡ beside (param_weight p i w) (gain w)) → Gains fs n old new gain
param_gains fs n i old new q p gain k o m lt e h = record {
  weight = λ w past.
      let z : 0 + i ≡ i = omega arith in
      ap (λ (x : Measure). beside x (beside (params_weight new.params.items 0 w) (marks_weight fs n new.marks.items w))) o
      ∙ ap (λ (rs : List Reads). beside old.own (beside (params_weight new.params.items 0 w) (marks_weight fs n rs w))) m
      ∙ beside_middle old.own (params_weight old.params.items 0 w) (params_weight new.params.items 0 w) (gain w) (marks_weight fs n old.marks.items w)
      (ap (λ (ps : List Param). params_weight ps 0 w) k ∙ params_set old.params.items i 0 p q (gain w) w lt e (ap (λ (j : ℕ). param_weight q j w) z ∙ h w ∙ ap (λ (j : ℕ). beside (param_weight p j w) (gain w)) (sym z)));
  params = ap length k ∙ length-set old.params.items i q;
  few = λ le. subst (λ (rs : List Reads). length rs ≤ n) (sym m) le;
}

-- steps one after the other
pub gains_again : (fs : List Weighed) (n : ℕ) (a b c : Pass) (f g h : Weighing) → Gains fs n a b f → Gains fs n b c g → ((w : Weights) → AreOnesPast (length a.params.items) w → beside (f w) (g w) ≡ h w) → Gains fs n a c h
gains_again fs n a b c f g h x y e = record {
  weight = λ w past.
      y.weight w (subst (λ (k : ℕ). AreOnesPast k w) (sym x.params) past)
      ∙ ap (λ (m : Measure). beside m (g w)) (x.weight w past)
      ∙ beside_assoc (pass_weight fs n a w) (f w) (g w)
      ∙ ap (beside (pass_weight fs n a w)) (e w past);
  params = y.params ∙ x.params;
  few = λ le. y.few (x.few le);
}

pub gains_none : (fs : List Weighed) (n : ℕ) (p : Pass) → Gains fs n p p (λ w. no_measure)
gains_none fs n p = record { weight = λ w past. sym (beside_none (pass_weight fs n p w)); params = refl; few = λ le. le }

pub gains_as : (fs : List Weighed) (n : ℕ) (a b : Pass) (f g : Weighing) → Gains fs n a b f → ((w : Weights) → AreOnesPast (length a.params.items) w → f w ≡ g w) → Gains fs n a b g
gains_as fs n a b f g x e = record {
  weight = λ w past. x.weight w past ∙ ap (beside (pass_weight fs n a w)) (e w past);
  params = x.params;
  few = x.few;
}

-- reads by their count
abbrev reads : ℕ → ℕ → Reads
reads c a = record { count = c; above = a }

read_of : (c a : ℕ) → 0 < c → (k : ℕ) × (reads c a ≡ reads (suc k) a)
read_of zero a lt = absurd (omega (arith, lt))
read_of (suc k) a lt = (k, refl)

-- what an operator makes
plain_weight : (op : Op) (ms : List Measure) → apart_kind op ≡ None → weigh op ms ≡ over ms
plain_weight (Op.Distinct b) ms e = cc
plain_weight (Op.Truth b) ms e = refl
plain_weight (Op.Pred p) ms e = refl
plain_weight (Op.App f) ms e = refl
plain_weight Op.Not ms e = refl
plain_weight Op.And ms e = refl
plain_weight Op.Or ms e = refl
plain_weight Op.Equal ms e = refl
plain_weight Op.Iff ms e = refl
plain_weight Op.Ite ms e = refl
plain_weight Op.Choice ms e = refl

apart_weight : (op : Op) (truth : Bool) (ms : List Measure) → apart_kind op ≡ Some truth → weigh op ms ≡ over (all_pairs ms)
apart_weight (Op.Distinct b) truth ms e = refl
apart_weight (Op.Truth b) truth ms e = cc
apart_weight (Op.Pred p) truth ms e = cc
apart_weight (Op.App f) truth ms e = cc
apart_weight Op.Not truth ms e = cc
apart_weight Op.And truth ms e = cc
apart_weight Op.Or truth ms e = cc
apart_weight Op.Equal truth ms e = cc
apart_weight Op.Iff truth ms e = cc
apart_weight Op.Ite truth ms e = cc
apart_weight Op.Choice truth ms e = cc

reach_over_at : (r : Reads) (ms : List Measure) → 0 < r.count → beside (reach r one) (reached (deeper 1 r) ms) ≡ reach r (over ms)
reach_over_at r ms lt =
    let k = read_of r.count r.above lt in
    ap (λ (s : Reads). beside (reach s one) (reached (deeper 1 s) ms)) k.1 ∙ sym (reach_over k.0 r.above ms) ∙ ap (λ (s : Reads). reach s (over ms)) (sym k.1)

pub made_gains : (fs : List Weighed) (op : Op) (r s : Reads) (is : List ℕ) (w : Weights) → 0 < r.count → s ≡ deeper 1 r → None ≡ apart_kind op
    → beside (reach r one) (reached s (map (λ (i : ℕ). weight_at fs i w) is)) ≡ reach r (weigh op (map (λ (i : ℕ). weight_at fs i w) is))
made_gains fs op r s is w lt e k =
    let ms = map (λ (i : ℕ). weight_at fs i w) is in
    ap (λ (t : Reads). beside (reach r one) (reached t ms)) e ∙ reach_over_at r ms lt ∙ ap (reach r) (sym (plain_weight op ms (sym k)))

reach_pairs_at : (r : Reads) (ms : List Measure) → 0 < r.count → (let m : Measure = record { size = 1 + length (flat_pairs ms); depth = 1 } in beside (reach r m) (reached (deeper 3 r) (flat_pairs ms)) ≡ reach r (over (all_pairs ms)))
reach_pairs_at r ms lt =
    let k = read_of r.count r.above lt in
    let m : Measure = record { size = 1 + length (flat_pairs ms); depth = 1 } in
    ap (λ (s : Reads). beside (reach s m) (reached (deeper 3 s) (flat_pairs ms))) k.1 ∙ sym (reach_pairs k.0 r.above ms) ∙ ap (λ (s : Reads). reach s (over (all_pairs ms))) (sym k.1)

-- the kinds of what is weighed are those of the entries
abbrev flat : Entry → Weighed
flat e = record { truth = is_bool e.ty; weighing = λ w. one }

truth_same : (fs ys : List Weighed) (x y : Weighed) (i : ℕ) → x.truth ≡ y.truth → truth_in (slice_get ((fs ++ x ∷ []) ++ ys) i) ≡ truth_in (slice_get (fs ++ y ∷ ys) i)
truth_same [] ys x y zero e = e
truth_same [] ys x y (suc i) e = refl
truth_same (f ∷ fs) ys x y zero e = refl
truth_same (f ∷ fs) ys x y (suc i) e = truth_same fs ys x y i e

truth_after : (fs : List Weighed) (es : List Entry) (i : ℕ) → truth_in (slice_get (weighed_after fs es) i) ≡ truth_in (slice_get (fs ++ map flat es) i)
truth_after fs [] i = ap (λ (l : List Weighed). truth_in (slice_get l i)) (sym (append-nil fs))
truth_after fs (e ∷ es) i = truth_after (fs ++ weighed fs e ∷ []) es i ∙ truth_same fs (map flat es) (weighed fs e) (flat e) i refl

flat_truth : (es : List Entry) (i : ℕ) → truth_in (slice_get (map flat es) i) ≡ is_bool (entry_type (slice_get es i))
flat_truth [] i = refl
flat_truth (e ∷ es) zero = refl
flat_truth (e ∷ es) (suc i) = flat_truth es i

truth_entry : (es : List Entry) (i : ℕ) → truth_in (slice_get (weighed_of es) i) ≡ is_bool (entry_type (slice_get es i))
truth_entry es i = truth_after [] es i ∙ flat_truth es i

read_same : (k truth : Bool) (m : Measure) → beq k truth ≡ true → read_as k truth m ≡ m
read_same true true m e = refl
read_same false false m e = refl
read_same true false m e = cc
read_same false true m e = cc

read_other : (k truth : Bool) (m : Measure) → beq k truth ≡ false → read_as k truth m ≡ one
read_other true false m e = refl
read_other false true m e = refl
read_other true true m e = cc
read_other false false m e = cc

-- a form that is itself read several times
form_reach : (fs : List Weighed) (c a : ℕ) (named : Bool) (is : List ℕ) (ps : List Param) (place : ℕ) (s : Measure) (w : Weights) → a ≤ s.depth
    → beside s (params_gain fs (reads (suc c) a) named is ps place w) ≡ beside s (reach (reads (suc c) a) (params_weight ps place (standing fs named is w)))
form_reach fs c a named is [] place s w le = measure_same (s.size + 0) (s.size + suc c * 0) (max s.depth 0) (max s.depth (a + 0)) (omega arith) (omega (arith, le)) ∙ ap (beside s) (sym (reach_suc c a no_measure))
form_reach fs c a named is (p ∷ ps) place s w le =
    let r = reads (suc c) a in
    let v = standing fs named is w in
    let t = reach (through r p.truths) (v place true) in
    let u = reach (through r p.things) (v place false) in
    let rest = params_weight ps (suc place) v in
    let d : a ≤ max s.depth t.depth = omega (arith, le) in
    let f : a ≤ max s.depth (max t.depth u.depth) = omega (arith, le) in
    sym (beside_assoc s (beside t u) (params_gain fs r named is ps (suc place) w))
    ∙ form_reach fs c a named is ps (suc place) (beside s (beside t u)) w f
    ∙ ap (λ (m : Measure). beside m (reach r rest))
    (sym (beside_assoc s t u)
    ∙ sym (reach_through c a p.things.count p.things.above (beside s t) (v place false) d)
    ∙ ap (λ (m : Measure). beside m (reach r (reach p.things (v place false)))) (sym (reach_through c a p.truths.count p.truths.above s (v place true) le))
    ∙ beside_assoc s (reach r (reach p.truths (v place true))) (reach r (reach p.things (v place false)))
    ∙ ap (beside s) (sym (reach_beside c a (reach p.truths (v place true)) (reach p.things (v place false)))))
    ∙ beside_assoc s (reach r (param_weight p place v)) (reach r rest)
    ∙ ap (beside s) (sym (reach_beside c a (param_weight p place v) rest))

pub form_gains : (fs : List Weighed) (r : Reads) (named : Bool) (is : List ℕ) (form : Form) (w : Weights) → 0 < r.count
    → beside (reach r form.own) (params_gain fs r named is form.params 0 w) ≡ reach r (form_weight form (standing fs named is w))
form_gains fs r named is form w lt =
    let k = read_of r.count r.above lt in
    let v = standing fs named is w in
    let s = reads (suc k.0) r.above in
    let deep : r.above ≤ r.above + form.own.depth = omega arith in
    let le : r.above ≤ (reach s form.own).depth = subst (λ (m : Measure). r.above ≤ m.depth) (sym (reach_suc k.0 r.above form.own)) deep in
    ap (λ (t : Reads). beside (reach t form.own) (params_gain fs t named is form.params 0 w)) k.1
    ∙ form_reach fs k.0 r.above named is form.params 0 (reach s form.own) w le
    ∙ sym (reach_beside k.0 r.above form.own (params_weight form.params 0 v))
    ∙ ap (λ (t : Reads). reach t (form_weight form v)) (sym k.1)

pub name_past : {E : Type 0} (fs : List Weighed) (n : ℕ) (old new : Pass) (r : Reads) (place : ℕ) (truth : Bool) (result : Result (Unit {0}) E) → length old.params.items ≤ place
    → OnOk result (Gains fs n old new (own_gain r one)) → OnOk result (Gains fs n old new (name_gain r place truth))
name_past fs n old new r place truth (Ok u) le h = gains_as fs n old new (own_gain r one) (name_gain r place truth) h (λ w past. ap (reach r) (sym (past place truth le)))
name_past fs n old new r place truth (Err x) le h = h

pub part_past_gains : {E : Type 0} (es : List Entry) (n : ℕ) (old new : Pass) (r : Reads) (part : ℕ) (result : Result (Unit {0}) E) → length es ≤ part
    → OnOk result (Gains (weighed_of es) n old new (own_gain r one)) → OnOk result (Gains (weighed_of es) n old new (part_gain (weighed_of es) r part))
part_past_gains es n old new r part (Ok u) le h = gains_as (weighed_of es) n old new (own_gain r one) (part_gain (weighed_of es) r part) h (λ w past. ap (reach r) (sym (part_past es part w le)))
part_past_gains es n old new r part (Err x) le h = h

-- loops
pub parts_step : (fs : List Weighed) (n : ℕ) (now next p : Pass) (r : Reads) (parts : List ℕ) (i part : ℕ) → i < length parts → part ≡ get_or parts i 0 → Gains fs n now next (part_gain fs r part)
    → Gains fs n next p (parts_gain fs r (drop (i + 1) parts)) → Gains fs n now p (parts_gain fs r (drop i parts))
parts_step fs n now next p r parts i part lt is g h =
    let step : drop i parts ≡ part ∷ drop (i + 1) parts = subst (λ (y : ℕ). drop i parts ≡ y ∷ drop (i + 1) parts) (sym is) (drop_more parts i 0 lt) in
    gains_again fs n now next p (part_gain fs r part) (parts_gain fs r (drop (i + 1) parts)) (parts_gain fs r (drop i parts)) g h (λ w past. ap (λ (l : List ℕ). parts_gain fs r l w) (sym step))

pub params_step : (fs : List Weighed) (n : ℕ) (now next c : Pass) (r : Reads) (named : Bool) (is : List ℕ) (ps : List Param) (i : ℕ) (p : Param) → i < length ps → p ≡ get_or ps i p → Gains fs n now next (param_gain fs r named is i p)
    → Gains fs n next c (params_gain fs r named is (drop (i + 1) ps) (i + 1)) → Gains fs n now c (params_gain fs r named is (drop i ps) i)
params_step fs n now next c r named is ps i p lt e g h =
    let step : drop i ps ≡ p ∷ drop (i + 1) ps = subst (λ (y : Param). drop i ps ≡ y ∷ drop (i + 1) ps) (sym e) (drop_more ps i p lt) in
    let up : suc i ≡ i + 1 = omega arith in
    gains_again fs n now next c (param_gain fs r named is i p) (params_gain fs r named is (drop (i + 1) ps) (i + 1)) (params_gain fs r named is (drop i ps) i) g h
    (λ w past. ap (λ (k : ℕ). beside (param_gain fs r named is i p w) (params_gain fs r named is (drop (i + 1) ps) k w)) (sym up) ∙ ap (λ (l : List Param). params_gain fs r named is l i w) (sym step))

pub made_result : {E : Type 0} (fs : List Weighed) (n : ℕ) (a b c : Pass) (r s : Reads) (op : Op) (is : List ℕ) (result : Result (Unit {0}) E) → Gains fs n a b (own_gain r one) → OnOk result (Gains fs n b c (parts_gain fs s is))
    → 0 < r.count → s ≡ deeper 1 r → None ≡ apart_kind op → OnOk result (Gains fs n a c (made_gain fs r op is))
made_result fs n a b c r s op is (Ok u) g h lt e k = gains_again fs n a b c (own_gain r one) (parts_gain fs s is) (made_gain fs r op is) g h (λ w past. made_gains fs op r s is w lt e k)
made_result fs n a b c r s op is (Err x) g h lt e k = h

drop_past : {A : Type 0} (xs : List A) (i : ℕ) → length xs ≤ i → drop i xs ≡ []
drop_past [] zero le = refl
drop_past [] (suc i) le = refl
drop_past (x ∷ xs) zero le = absurd (omega (arith, le))
drop_past (x ∷ xs) (suc i) le = drop_past xs i (omega (arith, le))

pub parts_end : (fs : List Weighed) (n : ℕ) (now : Pass) (r : Reads) (parts : List ℕ) (i : ℕ) → length parts ≤ i → Gains fs n now now (parts_gain fs r (drop i parts))
parts_end fs n now r parts i le = gains_as fs n now now (λ w. no_measure) (parts_gain fs r (drop i parts)) (gains_none fs n now) (λ w past. ap (λ (l : List ℕ). parts_gain fs r l w) (sym (drop_past parts i le)))

pub params_end : (fs : List Weighed) (n : ℕ) (now : Pass) (r : Reads) (named : Bool) (is : List ℕ) (ps : List Param) (i : ℕ) → length ps ≤ i → Gains fs n now now (params_gain fs r named is (drop i ps) i)
params_end fs n now r named is ps i le = gains_as fs n now now (λ w. no_measure) (params_gain fs r named is (drop i ps) i) (gains_none fs n now) (λ w past. ap (λ (l : List Param). params_gain fs r named is l i w) (sym (drop_past ps i le)))

pub params_start : (fs : List Weighed) (n : ℕ) (old now c : Pass) (r : Reads) (named : Bool) (is : List ℕ) (form : Form) (ps : List Param) → ps ≡ form.params → 0 < r.count → Gains fs n old now (own_gain r form.own)
    → Gains fs n now c (params_gain fs r named is ps 0) → Gains fs n old c (form_gain fs r named is form)
params_start fs n old now c r named is form ps e lt g h =
    gains_again fs n old now c (own_gain r form.own) (params_gain fs r named is ps 0) (form_gain fs r named is form) g h
    (λ w past. ap (λ (l : List Param). beside (reach r form.own) (params_gain fs r named is l 0 w)) e ∙ form_gains fs r named is form w lt)

-- pairs, laid out
pairs_gains : (fs : List Weighed) (r s : Reads) (is slice : List ℕ) (size : ℕ) (w : Weights) → 0 < r.count → s ≡ deeper 3 r → slice ≡ flat_pairs is → size ≡ length slice + 1
    → (let m : Measure = record { size = size; depth = 1 } in beside (reach r m) (reached s (map (λ (i : ℕ). weight_at fs i w) slice)) ≡ reach r (over (all_pairs (map (λ (i : ℕ). weight_at fs i w) is))))
pairs_gains fs r s is slice size w lt e p k =
    let f : ℕ → Measure = λ (i : ℕ). weight_at fs i w in
    let laid : map f slice ≡ flat_pairs (map f is) = ap (map f) p ∙ sym (flat_map f is) in
    let l : length slice ≡ length (flat_pairs (map f is)) = sym (length-map slice f) ∙ ap length laid in
    let same : size ≡ 1 + length (flat_pairs (map f is)) = omega (arith, k, l) in
    ap (λ (z : ℕ). let m : Measure = record { size = z; depth = 1 } in beside (reach r m) (reached s (map f slice))) same
    ∙ ap (λ (t : Reads). let m : Measure = record { size = 1 + length (flat_pairs (map f is)); depth = 1 } in beside (reach r m) (reached t (map f slice))) e
    ∙ ap (λ (ms : List Measure). let m : Measure = record { size = 1 + length (flat_pairs (map f is)); depth = 1 } in beside (reach r m) (reached (deeper 3 r) ms)) laid
    ∙ reach_pairs_at r (map f is) lt

pub pairs_result : {E : Type 0} (fs : List Weighed) (n : ℕ) (a b c : Pass) (r s : Reads) (m : Measure) (is slice : List ℕ) (result : Result (Unit {0}) E) → Gains fs n a b (own_gain r m) → OnOk result (Gains fs n b c (parts_gain fs s slice))
    → 0 < r.count → s ≡ deeper 3 r → slice ≡ flat_pairs is → m.size ≡ length slice + 1 → m.depth ≡ 1 → OnOk result (Gains fs n a c (pairs_gain fs r is))
pairs_result fs n a b c r s m is slice (Ok u) g h lt e p k d =
    gains_again fs n a b c (own_gain r m) (parts_gain fs s slice) (pairs_gain fs r is) g h
    (λ w past. ap (λ (x : ℕ). let y : Measure = record { size = m.size; depth = x } in beside (reach r y) (parts_gain fs s slice w)) d ∙ pairs_gains fs r s is slice m.size w lt e p k)
pairs_result fs n a b c r s m is slice (Err x) g h lt e p k d = h

-- what stands for a parameter
stand_named : (fs : List Weighed) (named : Bool) (is : List ℕ) (w : Weights) (place : ℕ) (truth : Bool) → named ≡ true → w place truth ≡ standing fs named is w place truth
stand_named fs true is w place truth e = refl
stand_named fs false is w place truth e = cc

stand_argument : (fs : List Weighed) (named : Bool) (is : List ℕ) (w : Weights) (place : ℕ) (truth : Bool) → named ≡ false → argument_of fs w (slice_get is place) truth ≡ standing fs named is w place truth
stand_argument fs false is w place truth e = refl
stand_argument fs true is w place truth e = cc

get_some : (is : List ℕ) (place : ℕ) → place < length is → slice_get is place ≡ Some (get_or is place 0)
get_some [] place lt = absurd (omega (arith, lt))
get_some (i ∷ is) zero lt = refl
get_some (i ∷ is) (suc place) lt = get_some is place (omega (arith, lt))

pub read_named : {E : Type 0} (fs : List Weighed) (n : ℕ) (old new : Pass) (r : Reads) (named : Bool) (is : List ℕ) (place : ℕ) (truth : Bool) (result : Result (Unit {0}) E) → named ≡ true
    → OnOk result (Gains fs n old new (name_gain r place truth)) → OnOk result (Gains fs n old new (read_gain fs r named is place truth))
read_named fs n old new r named is place truth (Ok u) e h = gains_as fs n old new (name_gain r place truth) (read_gain fs r named is place truth) h (λ w past. ap (reach r) (stand_named fs named is w place truth e))
read_named fs n old new r named is place truth (Err x) e h = h

pub read_none : {E : Type 0} (fs : List Weighed) (n : ℕ) (old new : Pass) (r : Reads) (named : Bool) (is : List ℕ) (place : ℕ) (truth : Bool) (result : Result (Unit {0}) E) → named ≡ false → length is ≤ place
    → OnOk result (Gains fs n old new (own_gain r one)) → OnOk result (Gains fs n old new (read_gain fs r named is place truth))
read_none fs n old new r named is place truth (Ok u) e le h =
    gains_as fs n old new (own_gain r one) (read_gain fs r named is place truth) h
    (λ w past. ap (reach r) (ap (λ (o : Option ℕ). argument_of fs w o truth) (sym (slice_get_past is place le)) ∙ stand_argument fs named is w place truth e))
read_none fs n old new r named is place truth (Err x) e le h = h

argument_is : (es : List Entry) (is : List ℕ) (place arg : ℕ) (truth : Bool) (w : Weights) → place < length is → arg ≡ get_or is place 0
    → argument_of (weighed_of es) w (slice_get is place) truth ≡ read_as (is_bool (entry_type (slice_get es arg))) truth (weight_at (weighed_of es) arg w)
argument_is es is place arg truth w lt a =
    ap (λ (o : Option ℕ). argument_of (weighed_of es) w o truth) (get_some is place lt ∙ ap (λ (i : ℕ). Some i) (sym a))
    ∙ ap (λ (k : Bool). read_as k truth (weight_at (weighed_of es) arg w)) (truth_entry es arg)

pub read_part : {E : Type 0} (es : List Entry) (n : ℕ) (old new : Pass) (r : Reads) (named : Bool) (is : List ℕ) (place arg : ℕ) (truth k : Bool) (ty : Ty) (result : Result (Unit {0}) E) → named ≡ false → place < length is → arg ≡ get_or is place 0
    → ty ≡ entry_type (slice_get es arg) → k ≡ is_bool ty → beq k truth ≡ true → OnOk result (Gains (weighed_of es) n old new (part_gain (weighed_of es) r arg)) → OnOk result (Gains (weighed_of es) n old new (read_gain (weighed_of es) r named is place truth))
read_part es n old new r named is place arg truth k ty (Ok u) e lt a t b q h =
    gains_as (weighed_of es) n old new (part_gain (weighed_of es) r arg) (read_gain (weighed_of es) r named is place truth) h
    (λ w past. ap (reach r)
    (sym (read_same (is_bool (entry_type (slice_get es arg))) truth (weight_at (weighed_of es) arg w) (ap (λ (x : Bool). beq x truth) (sym (b ∙ ap is_bool t)) ∙ q))
    ∙ sym (argument_is es is place arg truth w lt a) ∙ stand_argument (weighed_of es) named is w place truth e))
read_part es n old new r named is place arg truth k ty (Err x) e lt a t b q h = h

pub read_wrong : {E : Type 0} (es : List Entry) (n : ℕ) (old new : Pass) (r : Reads) (named : Bool) (is : List ℕ) (place arg : ℕ) (truth k : Bool) (ty : Ty) (result : Result (Unit {0}) E) → named ≡ false → place < length is → arg ≡ get_or is place 0
    → ty ≡ entry_type (slice_get es arg) → k ≡ is_bool ty → beq k truth ≡ false → OnOk result (Gains (weighed_of es) n old new (own_gain r one)) → OnOk result (Gains (weighed_of es) n old new (read_gain (weighed_of es) r named is place truth))
read_wrong es n old new r named is place arg truth k ty (Ok u) e lt a t b q h =
    gains_as (weighed_of es) n old new (own_gain r one) (read_gain (weighed_of es) r named is place truth) h
    (λ w past. ap (reach r)
    (sym (read_other (is_bool (entry_type (slice_get es arg))) truth (weight_at (weighed_of es) arg w) (ap (λ (x : Bool). beq x truth) (sym (b ∙ ap is_bool t)) ∙ q))
    ∙ sym (argument_is es is place arg truth w lt a) ∙ stand_argument (weighed_of es) named is w place truth e))
read_wrong es n old new r named is place arg truth k ty (Err x) e lt a t b q h = h

-- from the last term down
after_split : (ts : List Term) (fs : List Weighed) (es : List Entry) (e : Entry) → AreWeighedAfter ts fs (es ++ e ∷ []) → AreWeighedAfter ts fs es × Follows (terms_after ts es) (weighed_after fs es) e
after_split ts fs [] e h = (tt, h.0)
after_split ts fs (x ∷ es) e h =
    let k = after_split (ts ++ term_of ts x ∷ []) (fs ++ weighed fs x ∷ []) es e h.1 in
    ((h.0, k.0), k.1)

pub front_kept : (left es : List Entry) (e : Entry) → left ≡ es ++ e ∷ [] → AreWeighedAfter [] [] left → AreWeighedAfter [] [] es
front_kept left es e k h = (after_split [] [] es e (subst (λ (l : List Entry). AreWeighedAfter [] [] l) k h)).0

pub last_formed : (left es : List Entry) (e : Entry) → left ≡ es ++ e ∷ [] → AreWeighedAfter [] [] left → HasForm (weighed_of es) e.node
last_formed left es e k h = (after_split [] [] es e (subst (λ (l : List Entry). AreWeighedAfter [] [] l) k h)).1.formed

beside_taken : (a b c d : Measure) → beside a (beside b (beside c d)) ≡ beside (beside a (beside b d)) c
beside_taken a b c d = measure_same (a.size + (b.size + (c.size + d.size))) ((a.size + (b.size + d.size)) + c.size) (max a.depth (max b.depth (max c.depth d.depth))) (max (max a.depth (max b.depth d.depth)) c.depth) (omega arith) (omega arith)

marks_taken : (es : List Entry) (e : Entry) (r : Reads) (rs : List Reads) (n : ℕ) (w : Weights) → n ≡ length es → length rs ≤ n → beside (reach r (weight_at (weighed_of (es ++ e ∷ [])) n w)) (marks_weight (weighed_of (es ++ e ∷ [])) n rs w)
    ≡ beside (reach r (weighing_of (weighed_of es) e.node w)) (marks_weight (weighed_of es) (length es) rs w)
marks_taken es e r rs n w k le =
    ap (λ (m : ℕ). beside (reach r (weight_at (weighed_of (es ++ e ∷ [])) m w)) (marks_weight (weighed_of (es ++ e ∷ [])) n rs w)) k
    ∙ ap (λ (x : Measure). beside (reach r x) (marks_weight (weighed_of (es ++ e ∷ [])) n rs w)) (weight_last es e w)
    ∙ ap (beside (reach r (weighing_of (weighed_of es) e.node w))) (marks_front es e rs n w le (omega (arith, k)) ∙ ap (λ (m : ℕ). marks_weight (weighed_of es) m rs w) k)

pub popped : (left es : List Entry) (e : Entry) (old new : Pass) (r : Reads) (w : Weights) → left ≡ es ++ e ∷ [] → new.own ≡ old.own → new.params.items ≡ old.params.items → old.marks.items ≡ r ∷ new.marks.items → length old.marks.items ≤ length left
    → pass_weight (weighed_of left) (length left) old w ≡ beside (pass_weight (weighed_of es) (length es) new w) (reach r (weighing_of (weighed_of es) e.node w))
popped left es e old new r w k o p m few =
    let P = params_weight old.params.items 0 w in
    let rs = new.marks.items in
    let size : length left ≡ suc (length es) = ap length k ∙ length_push es e in
    let count : length old.marks.items ≡ suc (length rs) = ap length m in
    let less : length left - 1 ≡ length es = omega (arith, size) in
    let le : length rs ≤ length left - 1 = omega (arith, few, count) in
    ap (λ (l : List Reads). beside old.own (beside P (marks_weight (weighed_of left) (length left) l w))) m
    ∙ ap (λ (l : List Entry). beside old.own (beside P (beside (reach r (weight_at (weighed_of l) (length left - 1) w)) (marks_weight (weighed_of l) (length left - 1) rs w)))) k
    ∙ ap (λ (x : Measure). beside old.own (beside P x)) (marks_taken es e r rs (length left - 1) w less le)
    ∙ beside_taken old.own P (reach r (weighing_of (weighed_of es) e.node w)) (marks_weight (weighed_of es) (length es) rs w)
    ∙ ap (λ (x : Measure). beside (beside x (beside P (marks_weight (weighed_of es) (length es) rs w))) (reach r (weighing_of (weighed_of es) e.node w))) (sym o)
    ∙ ap (λ (ps : List Param). beside (beside new.own (beside (params_weight ps 0 w) (marks_weight (weighed_of es) (length es) rs w))) (reach r (weighing_of (weighed_of es) e.node w))) (sym p)

-- the first mark
reach_one : (m : Measure) → reach (reads 1 0) m ≡ m
reach_one m = reach_suc 0 0 m ∙ measure_same (suc 0 * m.size) m.size (0 + m.depth) m.depth (omega arith) (omega arith)

pub pass_start : (fs : List Weighed) (n : ℕ) (a b : Pass) (number : ℕ) (w : Weights) → pass_weight fs n a w ≡ no_measure → Gains fs n a b (part_gain fs (reads 1 0) number) → AreOnesPast (length a.params.items) w → pass_weight fs n b w ≡ weight_at fs number w
pass_start fs n a b number w none g past = g.weight w past ∙ ap (λ (m : Measure). beside m (reach (reads 1 0) (weight_at fs number w))) none ∙ none_beside (reach (reads 1 0) (weight_at fs number w)) ∙ reach_one (weight_at fs number w)

-- names within a block
ones_chosen : (n place : ℕ) (b : Bool) (m : Measure) → nat_lt place n ≡ b → n ≤ place → cond b m one ≡ one
ones_chosen n place true m e le = let lt = ltb-true place n e in absurd (omega (arith, lt, le))
ones_chosen n place false m e le = refl

pub inside_past : (n : ℕ) (w : Weights) → AreOnesPast n (inside_weights n w)
inside_past n w = λ place truth le. ones_chosen n place (nat_lt place n) (w place truth) refl le

name_chosen : (n place : ℕ) (b : Bool) (m : Measure) → nat_lt place n ≡ b → place < n → cond b m one ≡ m
name_chosen n place true m e lt = refl
name_chosen n place false m e lt = let le = ltb-false place n e in absurd (omega (arith, lt, le))

params_inside : (ps : List Param) (place n : ℕ) (w : Weights) → place + length ps ≤ n → params_weight ps place (inside_weights n w) ≡ params_weight ps place w
params_inside [] place n w le = refl
params_inside (p ∷ ps) place n w le =
    let lt : place < n = omega (arith, le) in
    ap (λ (m : Measure). beside (beside (reach p.truths m) (reach p.things (inside_weights n w place false))) (params_weight ps (suc place) (inside_weights n w))) (name_chosen n place (nat_lt place n) (w place true) refl lt)
    ∙ ap (λ (m : Measure). beside (beside (reach p.truths (w place true)) (reach p.things m)) (params_weight ps (suc place) (inside_weights n w))) (name_chosen n place (nat_lt place n) (w place false) refl lt)
    ∙ ap (beside (param_weight p place w)) (params_inside ps (suc place) n w (omega (arith, le)))

same_past : (n base place : ℕ) (truth b : Bool) (w : Weights) → nat_lt place base ≡ b → AreOnesPast n w → n ≤ base → cond b (w place truth) one ≡ w place truth
same_past n base place truth true w e past le = refl
same_past n base place truth false w e past le = let k = ltb-false place base e in sym (past place truth (omega (arith, k, le)))

inside_same : (n base : ℕ) (w : Weights) → AreOnesPast n w → n ≤ base → inside_weights base w ≡ w
inside_same n base w past le = fun_ext (λ (place : ℕ). fun_ext (λ (truth : Bool). same_past n base place truth (nat_lt place base) w refl past le))

-- at the end
pub form_found : (fs whole : List Weighed) (n number : ℕ) (p : Pass) (form : Form) → form.own ≡ p.own → form.params ≡ p.params.items → p.marks.items ≡ [] → ((w : Weights) → AreOnesPast (length form.params) w → pass_weight fs n p w ≡ weight_at whole number w) → IsForm whole number form
form_found fs whole n number p form o e m k = λ w.
    let v = inside_weights (length form.params) w in
    let le : 0 + length form.params ≤ length form.params = omega arith in
    sym (k v (inside_past (length form.params) w))
    ∙ ap (λ (l : List Reads). beside p.own (beside (params_weight p.params.items 0 v) (marks_weight fs n l v))) m
    ∙ ap (beside p.own) (beside_none (params_weight p.params.items 0 v) ∙ ap (λ (ps : List Param). params_weight ps 0 v) (sym e) ∙ params_inside form.params 0 (length form.params) w le)
    ∙ ap (λ (x : Measure). beside x (params_weight form.params 0 w)) (sym o)

-- one term after the other
pub spread_weight : (left es : List Entry) (e : Entry) (old mid new : Pass) (r : Reads) (k : ℕ) (m : Measure) (w : Weights) → left ≡ es ++ e ∷ [] → mid.own ≡ old.own → mid.params.items ≡ old.params.items → old.marks.items ≡ r ∷ mid.marks.items
    → length old.marks.items ≤ length left → length mid.params.items ≡ k → AreOnesPast k w → Gains (weighed_of es) (length es) mid new (node_gain (weighed_of es) r e.node) → pass_weight (weighed_of left) (length left) old w ≡ m → pass_weight (weighed_of es) (length es) new w ≡ m
spread_weight left es e old mid new r k m w l o p t few size past g h =
    g.weight w (subst (λ (n : ℕ). AreOnesPast n w) (sym size) past) ∙ sym (popped left es e old mid r w l o p t few) ∙ h

reach_zero : (c a : ℕ) (m : Measure) → c ≤ 0 → reach (reads c a) m ≡ no_measure
reach_zero zero a m le = refl
reach_zero (suc c) a m le = absurd (omega (arith, le))

pub skip_weight : (left es : List Entry) (e : Entry) (old mid : Pass) (r : Reads) (m : Measure) (w : Weights) → left ≡ es ++ e ∷ [] → mid.own ≡ old.own → mid.params.items ≡ old.params.items → old.marks.items ≡ r ∷ mid.marks.items
    → length old.marks.items ≤ length left → r.count ≤ 0 → pass_weight (weighed_of left) (length left) old w ≡ m → pass_weight (weighed_of es) (length es) mid w ≡ m
skip_weight left es e old mid r m w l o p t few none h =
    sym (beside_none (pass_weight (weighed_of es) (length es) mid w))
    ∙ ap (beside (pass_weight (weighed_of es) (length es) mid w)) (sym (reach_zero r.count r.above (weighing_of (weighed_of es) e.node w) none))
    ∙ sym (popped left es e old mid r w l o p t few) ∙ h

pub fewer : (left es : List Entry) (e : Entry) (marks rs : List Reads) (r : Reads) → left ≡ es ++ e ∷ [] → marks ≡ r ∷ rs → length marks ≤ length left → length rs ≤ length es
fewer left es e marks rs r l t few =
    let size : length left ≡ suc (length es) = ap length l ∙ length_push es e in
    let count : length marks ≡ suc (length rs) = ap length t in
    omega (arith, size, count, few)

pub before_less : (left es : List Entry) (e : Entry) (n : ℕ) → left ≡ es ++ e ∷ [] → length left ≤ n → length es < n
before_less left es e n l le = let size : length left ≡ suc (length es) = ap length l ∙ length_push es e in omega (arith, size, le)

-- nodes
pub block_same : {E : Type 0} (es : List Entry) (n : ℕ) (a b c : Pass) (r s : Reads) (base body : ℕ) (result : Result (Unit {0}) E) → 0 < r.count → s ≡ deeper 1 r → length a.params.items ≤ base → Gains (weighed_of es) n a b (own_gain r one)
    → OnOk result (Gains (weighed_of es) n b c (part_gain (weighed_of es) s body)) → OnOk result (Gains (weighed_of es) n a c (block_gain (weighed_of es) r base body))
block_same es n a b c r s base body (Ok u) lt e le g h =
    let fs = weighed_of es in
    gains_again fs n a b c (own_gain r one) (part_gain fs s body) (block_gain fs r base body) g h
    (λ w past. ap (beside (reach r one)) (ap (λ (t : Reads). reach t (weight_at fs body w)) e ∙ sym (beside_none (reach (deeper 1 r) (weight_at fs body w))))
    ∙ reach_over_at r (weight_at fs body w ∷ []) lt ∙ ap (λ (v : Weights). reach r (over (weight_at fs body v ∷ []))) (sym (inside_same (length a.params.items) base w past le)))
block_same es n a b c r s base body (Err x) lt e le g h = h

pub block_hidden : {E : Type 0} (es : List Entry) (n : ℕ) (a b c : Pass) (r s : Reads) (base body : ℕ) (form : Form) (args : List ℕ) (result : Result (Unit {0}) E) → 0 < r.count → s ≡ deeper 1 r → length form.params ≡ base → IsForm (weighed_of es) body form
    → Gains (weighed_of es) n a b (own_gain r one) → OnOk result (Gains (weighed_of es) n b c (form_gain (weighed_of es) s true args form)) → OnOk result (Gains (weighed_of es) n a c (block_gain (weighed_of es) r base body))
block_hidden es n a b c r s base body form args (Ok u) lt e k f g h =
    let fs = weighed_of es in
    gains_again fs n a b c (own_gain r one) (form_gain fs s true args form) (block_gain fs r base body) g h
    (λ w past. ap (beside (reach r one)) (ap (λ (t : Reads). reach t (form_weight form w)) e ∙ ap (reach (deeper 1 r)) (sym (f w) ∙ ap (λ (m : ℕ). weight_at fs body (inside_weights m w)) k) ∙ sym (beside_none (reach (deeper 1 r) (weight_at fs body (inside_weights base w)))))
    ∙ reach_over_at r (weight_at fs body (inside_weights base w) ∷ []) lt)
block_hidden es n a b c r s base body form args (Err x) lt e k f g h = h

pub use_gains : {E : Type 0} (fs : List Weighed) (n : ℕ) (a b : Pass) (r : Reads) (node : Node) (body : ℕ) (args slice : List ℕ) (form : Form) (result : Result (Unit {0}) E) → node ≡ Node.Use body args form → slice ≡ args → HasForm fs node
    → OnOk result (Gains fs n a b (form_gain fs r false slice form)) → OnOk result (Gains fs n a b (node_gain fs r node))
use_gains fs n a b r node body args slice form (Ok u) e s f h =
    let is : IsUse fs body args form = subst (λ (x : Node). HasForm fs x) e f in
    gains_as fs n a b (form_gain fs r false slice form) (node_gain fs r node) h
    (λ w past. ap (reach r) (ap (λ (l : List ℕ). form_weight form (arguments fs l w)) s ∙ sym (is.weighs (arguments fs args w)) ∙ ap (weight_at fs body) (enough fs args w (length form.params) is.enough) ∙ ap (λ (x : Node). weighing_of fs x w) (sym e)))
use_gains fs n a b r node body args slice form (Err x) e s f h = h

pub nil_of : {A : Type 0} (xs : List A) → length xs ≡ 0 → xs ≡ []
nil_of [] e = refl
nil_of (x ∷ xs) e = absurd (omega (arith, e))
