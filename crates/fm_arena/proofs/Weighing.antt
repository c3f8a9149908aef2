-- What terms weigh where names stand for trees of any measures.
use Rattle.std.proofs.Common.{◌≡◌, ℕ, zero, suc, ◌+◌, Bool, true, false, List, [], ◌∷◌, ◌++◌, length, map, take, ap, refl, sym, subst, ◌∙◌}
use Rattle.std.specs.Prelude.{nat_lt, cond, ◌-◌, get_or, slice_get}
use Rattle.fm_base.specs.declared.ids.SortId.{SortId}
use Rattle.fm_base.specs.declared.signature.Ty.{Ty}
use Rattle.fm_base.specs.declared.formula.Fterm.{Fterm}
use Rattle.fm_arena.specs.Trees.{formula_in, is_truth, of_kind, takes}
use Rattle.fm_arena.specs.Measures.{one, over, weigh, tree_measure}
use Rattle.fm_arena.specs.Meanings.{Placed, Meaning, Term, Names, no_names, inside, made, meanings_at, quantified, meaning_at, kind_at, applied, nowhere, term_of, terms_after, terms_of}
use Rattle.fm_arena.specs.Kept.{ArePlain, AreMeasured, AreKept, MayFollow}
use Rattle.fm_arena.specs.Weights.{Weights, Weighed, Stand, ones, inside_weights, read_as, weight_at, weighed, weighed_after, weighed_of, truth_in, arguments, IsWeighed, AreWeighed, Follows, AreWeighedAfter}
use Rattle.fm_arena.specs.declared.sizes.Measure.{Measure}
use Rattle.fm_arena.specs.declared.node.Node.{Node}
use Rattle.fm_arena.specs.declared.node.Op.{Op}
use Rattle.fm_arena.specs.declared.node.Entry.{Entry}
use Rattle.fm_arena.specs.declared.node.Tree.{Tree}
use Rattle.fm_arena.proofs.Growing.{kind_is, kinds_are, formula_weighs, measured_push, terms_push, of_kind_weighs, plain_none}
use Rattle.fm_arena.proofs.Measuring.{built_measured, measure_of_truth, measure_of_quant, measure_of_var}

-- lists of what is weighed
weighed_after-push : (fs : List Weighed) (es : List Entry) (e : Entry) → weighed_after fs (es ++ e ∷ []) ≡ weighed_after fs es ++ weighed (weighed_after fs es) e ∷ []
weighed_after-push fs [] e = refl
weighed_after-push fs (x ∷ es) e = weighed_after-push (fs ++ weighed fs x ∷ []) es e

after_push : (ts : List Term) (fs : List Weighed) (es : List Entry) (e : Entry) → AreWeighedAfter ts fs es → Follows (terms_after ts es) (weighed_after fs es) e → AreWeighedAfter ts fs (es ++ e ∷ [])
after_push ts fs [] e h k = (k, tt)
after_push ts fs (x ∷ es) e h k = (h.0, after_push (ts ++ term_of ts x ∷ []) (fs ++ weighed fs x ∷ []) es e h.1 k)

after_cut : (ts : List Term) (fs : List Weighed) (es : List Entry) (n : ℕ) → AreWeighedAfter ts fs es → AreWeighedAfter ts fs (take n es)
after_cut ts fs [] zero h = tt
after_cut ts fs [] (suc n) h = tt
after_cut ts fs (e ∷ es) zero h = tt
after_cut ts fs (e ∷ es) (suc n) h = (h.0, after_cut (ts ++ term_of ts e ∷ []) (fs ++ weighed fs e ∷ []) es n h.1)

pub cut_weighed : (es new : List Entry) (n : ℕ) → new ≡ take n es → AreWeighedAfter [] [] es → AreWeighedAfter [] [] new
cut_weighed es new n e h = subst (λ (l : List Entry). AreWeighedAfter [] [] l) (sym e) (after_cut [] [] es n h)

pub pushed_kept : (old new : List Entry) (e : Entry) → new ≡ old ++ e ∷ [] → AreKept old → MayFollow old e → AreKept new
pushed_kept old new e p h k =
    subst (λ (es : List Entry). AreKept es) (sym p)
    (subst (λ (ts : List Term). AreMeasured ts (old ++ e ∷ [])) (sym (terms_push old e)) (measured_push (terms_of old) old (term_of (terms_of old) e) e h.0 k.0), after_push [] [] old e h.1 k.1)

weighed_push : (ts : List Term) (fs : List Weighed) (t : Term) (f : Weighed) → AreWeighed ts fs → IsWeighed t f → AreWeighed (ts ++ t ∷ []) (fs ++ f ∷ [])
weighed_push [] [] t f h k = (k, tt)
weighed_push [] (x ∷ fs) t f h k = absurd h
weighed_push (x ∷ ts) [] t f h k = absurd h
weighed_push (x ∷ ts) (y ∷ fs) t f h k = (h.0, weighed_push ts fs t f h.1 k)

all_after : (ts : List Term) (fs : List Weighed) (es : List Entry) → AreWeighed ts fs → AreWeighedAfter ts fs es → AreWeighed (terms_after ts es) (weighed_after fs es)
all_after ts fs [] w h = w
all_after ts fs (e ∷ es) w h = all_after (ts ++ term_of ts e ∷ []) (fs ++ weighed fs e ∷ []) es (weighed_push ts fs (term_of ts e) (weighed fs e) w h.0.weighed) h.1

pub are_weighed : (es : List Entry) → AreWeighedAfter [] [] es → AreWeighed (terms_of es) (weighed_of es)
are_weighed es h = all_after [] [] es tt h

-- at a number
pub weighed_at : (ts : List Term) (fs : List Weighed) (i : ℕ) → AreWeighed ts fs → (names : Names) (w : Weights) (d : ℕ) → Stand names w → tree_measure (meaning_at ts i names d) ≡ weight_at fs i w
weighed_at [] [] i h names w d s = measure_of_truth true
weighed_at [] (f ∷ fs) i h names w d s = absurd h
weighed_at (t ∷ ts) [] i h names w d s = absurd h
weighed_at (t ∷ ts) (f ∷ fs) zero h names w d s = h.0.weight names w d s
weighed_at (t ∷ ts) (f ∷ fs) (suc i) h names w d s = weighed_at ts fs i h.1 names w d s

pub truth_at : (ts : List Term) (fs : List Weighed) (i : ℕ) → AreWeighed ts fs → truth_in (slice_get fs i) ≡ kind_at ts i
truth_at [] [] i h = refl
truth_at [] (f ∷ fs) i h = absurd h
truth_at (t ∷ ts) [] i h = absurd h
truth_at (t ∷ ts) (f ∷ fs) zero h = h.0.truth
truth_at (t ∷ ts) (f ∷ fs) (suc i) h = truth_at ts fs i h.1

all_weighed : (ts : List Term) (fs : List Weighed) (is : List ℕ) → AreWeighed ts fs → (names : Names) (w : Weights) (d : ℕ) → Stand names w → map tree_measure (meanings_at (map (meaning_at ts) is) names d) ≡ map (λ (i : ℕ). weight_at fs i w) is
all_weighed ts fs [] h names w d s = refl
all_weighed ts fs (i ∷ is) h names w d s = ap (λ (k : Measure). k ∷ map tree_measure (meanings_at (map (meaning_at ts) is) names d)) (weighed_at ts fs i h names w d s) ∙ ap (λ (ks : List Measure). weight_at fs i w ∷ ks) (all_weighed ts fs is h names w d s)

-- what an operator makes
pub made_weight : (ts : List Term) (es : List Entry) (fs : List Weighed) (op : Op) (is : List ℕ) → AreMeasured ts es → AreWeighed ts fs → takes op (map (kind_at ts) is) ≡ true
    → (names : Names) (w : Weights) (d : ℕ) → Stand names w → tree_measure (made op (map (meaning_at ts) is) names d) ≡ weigh op (map (λ (i : ℕ). weight_at fs i w) is)
made_weight ts es fs op is m h fits names w d s =
    built_measured op (meanings_at (map (meaning_at ts) is) names d) (ap (takes op) (kinds_are ts es is m names d) ∙ fits) ∙ ap (weigh op) (all_weighed ts fs is h names w d s)

-- a block
read_chosen : (b : Bool) (p : Placed) (m : Bool → Measure) (v d : ℕ) (truth : Bool) → tree_measure (of_kind truth (p d)) ≡ m truth → tree_measure (of_kind truth (cond b p (λ d. Tree.Thing (Fterm.Var v)) d)) ≡ cond b (m truth) one
read_chosen true p m v d truth e = e
read_chosen false p m v d true e = measure_of_truth true
read_chosen false p m v d false e = measure_of_var v

pub stand_inside : (base depth : ℕ) (names : Names) (w : Weights) → Stand names w → Stand (inside base depth names) (inside_weights base w)
stand_inside base depth names w s = λ place d truth. read_chosen (nat_lt place base) (names place) (w place) (depth + (place - base)) d truth (s place d truth)

pub block_weight : (ts : List Term) (es : List Entry) (fs : List Weighed) (all : Bool) (vars : List SortId) (base body : ℕ) → AreMeasured ts es → AreWeighed ts fs → kind_at ts body ≡ true
    → (names : Names) (w : Weights) (d : ℕ) → Stand names w → tree_measure (quantified all vars base (meaning_at ts body) names d) ≡ over (weight_at fs body (inside_weights base w) ∷ [])
block_weight ts es fs all vars base body m h kind names w d s =
    let inner = inside base d names in
    let tree = meaning_at ts body inner (d + length vars) in
    measure_of_quant all vars (formula_in tree)
    ∙ ap (λ (k : Measure). over (k ∷ [])) (formula_weighs tree (kind_is ts es body m inner (d + length vars) ∙ kind) ∙ weighed_at ts fs body h inner (inside_weights base w) (d + length vars) (stand_inside base d names w s))

-- the arguments of a definition that is used stand for its parameters
read_kind : (k truth : Bool) (m : Measure) (t : Tree) → is_truth t ≡ k → tree_measure t ≡ m → tree_measure (of_kind truth t) ≡ read_as k truth m
read_kind true true m (Tree.Truth f) e h = h
read_kind true true m (Tree.Thing t) e h = cc
read_kind true false m (Tree.Truth f) e h = measure_of_var 0
read_kind true false m (Tree.Thing t) e h = cc
read_kind false true m (Tree.Truth f) e h = cc
read_kind false true m (Tree.Thing t) e h = measure_of_truth true
read_kind false false m (Tree.Truth f) e h = cc
read_kind false false m (Tree.Thing t) e h = h

pub stand_given : (ts : List Term) (es : List Entry) (fs : List Weighed) (is : List ℕ) → AreMeasured ts es → AreWeighed ts fs → (names : Names) (w : Weights) → Stand names w
    → (place d : ℕ) (truth : Bool) → tree_measure (of_kind truth (get_or (map (λ (a : Meaning). a names) (map (meaning_at ts) is)) place nowhere d)) ≡ arguments fs is w place truth
stand_given ts es fs [] m h names w s place d true = measure_of_truth true
stand_given ts es fs [] m h names w s place d false = measure_of_var 0
stand_given ts es fs (i ∷ is) m h names w s zero d truth =
    read_kind (truth_in (slice_get fs i)) truth (weight_at fs i w) (meaning_at ts i names d) (kind_is ts es i m names d ∙ sym (truth_at ts fs i h)) (weighed_at ts fs i h names w d s)
stand_given ts es fs (i ∷ is) m h names w s (suc place) d truth = stand_given ts es fs is m h names w s place d truth

pub use_weight : (ts : List Term) (es : List Entry) (fs : List Weighed) (body : ℕ) (is : List ℕ) → AreMeasured ts es → AreWeighed ts fs
    → (names : Names) (w : Weights) (d : ℕ) → Stand names w → tree_measure (applied (meaning_at ts body) (map (meaning_at ts) is) names d) ≡ weight_at fs body (arguments fs is w)
use_weight ts es fs body is m h names w d s =
    weighed_at ts fs body h (λ place. get_or (map (λ (a : Meaning). a names) (map (meaning_at ts) is)) place nowhere) (arguments fs is w) d (stand_given ts es fs is m h names w s)

-- names that count as one node each
pub plain_stand : (names : Names) → ArePlain names → Stand names ones
plain_stand names p = λ place d truth. of_kind_weighs truth (names place d) (p place d)

pub none_stand : Stand no_names ones
none_stand = plain_stand no_names plain_none

-- what may follow
pub name_follows : (ts : List Term) (fs : List Weighed) (place : ℕ) (truth : Bool) (ty : Ty) (m : Measure) → Follows ts fs (record { node = Node.Name place truth; ty = ty; measure = m })
name_follows ts fs place truth ty m = record { weighed = record { truth = refl; weight = λ names w d s. s place d truth }; formed = tt }

pub made_follows : (inside now : List Entry) (op : Op) (is : List ℕ) (ty : Ty) (m : Measure) → inside ≡ now → AreKept inside → takes op (map (kind_at (terms_of now)) is) ≡ true
    → Follows (terms_of inside) (weighed_of inside) (record { node = Node.Made op is; ty = ty; measure = m })
made_follows inside now op is ty m x h k =
    let fits = subst (λ (es : List Entry). takes op (map (kind_at (terms_of es)) is) ≡ true) (sym x) k in
    record { weighed = record { truth = refl; weight = made_weight (terms_of inside) inside (weighed_of inside) op is h.0 (are_weighed inside h.1) fits }; formed = tt }

pub block_follows : (inside now : List Entry) (all : Bool) (vars : List SortId) (base body : ℕ) (m : Measure) → inside ≡ now → AreKept inside → kind_at (terms_of now) body ≡ true
    → Follows (terms_of inside) (weighed_of inside) (record { node = Node.Quant all vars base body; ty = Ty.Bool; measure = m })
block_follows inside now all vars base body m x h k =
    let kind = subst (λ (es : List Entry). kind_at (terms_of es) body ≡ true) (sym x) k in
    record { weighed = record { truth = refl; weight = block_weight (terms_of inside) inside (weighed_of inside) all vars base body h.0 (are_weighed inside h.1) kind }; formed = tt }
