-- The measure of what is made.
use Rattle.std.proofs.Common.{◌≡◌, ℕ, ◌+◌, Bool, true, false, List, [], ◌∷◌, ◌++◌, map, ap, refl, ◌∙◌, arith}
use Rattle.std.specs.Prelude.{max, nat_le, nat_lt, ◌&&◌}
use Rattle.std.proofs.lemmas.List.{map-append}
use Rattle.fm_base.specs.declared.ids.SortId.{SortId}
use Rattle.fm_base.specs.declared.ids.SymId.{SymId}
use Rattle.fm_base.specs.declared.formula.Formula
use Rattle.fm_base.specs.declared.formula.Formula.{Formula}
use Rattle.fm_base.specs.declared.formula.Fterm
use Rattle.fm_base.specs.declared.formula.Fterm.{Fterm}
use Rattle.fm_base.specs.declared.formula.Formula.TheOpen.{Formula-F, Fterm-F}
use Rattle.fm_base.specs.declared.formula.Formula.TheFolds.{fold-roll-Formula, fold-roll-Fterm}
use Rattle.fm_arena.specs.Trees.{formula_in, thing_in, is_truth, built, apart, all_apart, all_formulas, all_things, takes, makes_truth}
use Rattle.fm_arena.specs.declared.node.Tree.{Tree}
use Rattle.fm_arena.specs.Measures.{over, weigh, pair_measure, all_pairs, total, deepest, measure, term_measure, measure_step, term_step, tree_measure, is_fit}
use Rattle.fm_arena.specs.declared.sizes.Measure.{Measure}
use Rattle.fm_arena.specs.declared.node.Op.{Op}

pub measure_of_truth : (b : Bool) → measure (Formula.Truth b) ≡ over []
unfolding Formula.roll-Formula denote.Hole.Carrier.roll
measure_of_truth b = fold-roll-Formula Measure Measure measure_step term_step (Formula-F.Truth b)

pub measure_of_pred : (p : SymId) (ts : List Fterm) → measure (Formula.Pred p ts) ≡ over (map term_measure ts)
unfolding Formula.roll-Formula denote.Hole.Carrier.roll
measure_of_pred p ts = fold-roll-Formula Measure Measure measure_step term_step (Formula-F.Pred p ts)

pub measure_of_equal : (a b : Fterm) → measure (Formula.Equal a b) ≡ over (term_measure a ∷ term_measure b ∷ [])
unfolding Formula.roll-Formula denote.Hole.Carrier.roll
measure_of_equal a b = fold-roll-Formula Measure Measure measure_step term_step (Formula-F.Equal a b)

pub measure_of_not : (a : Formula) → measure (Formula.Not a) ≡ over (measure a ∷ [])
unfolding Formula.roll-Formula denote.Hole.Carrier.roll
measure_of_not a = fold-roll-Formula Measure Measure measure_step term_step (Formula-F.Not a)

pub measure_of_and : (fs : List Formula) → measure (Formula.And fs) ≡ over (map measure fs)
unfolding Formula.roll-Formula denote.Hole.Carrier.roll
measure_of_and fs = fold-roll-Formula Measure Measure measure_step term_step (Formula-F.And fs)

pub measure_of_or : (fs : List Formula) → measure (Formula.Or fs) ≡ over (map measure fs)
unfolding Formula.roll-Formula denote.Hole.Carrier.roll
measure_of_or fs = fold-roll-Formula Measure Measure measure_step term_step (Formula-F.Or fs)

pub measure_of_iff : (a b : Formula) → measure (Formula.Iff a b) ≡ over (measure a ∷ measure b ∷ [])
unfolding Formula.roll-Formula denote.Hole.Carrier.roll
measure_of_iff a b = fold-roll-Formula Measure Measure measure_step term_step (Formula-F.Iff a b)

pub measure_of_ite : (c a b : Formula) → measure (Formula.Ite c a b) ≡ over (measure c ∷ measure a ∷ measure b ∷ [])
unfolding Formula.roll-Formula denote.Hole.Carrier.roll
measure_of_ite c a b = fold-roll-Formula Measure Measure measure_step term_step (Formula-F.«Formula::Ite» c a b)

pub measure_of_quant : (all : Bool) (vars : List SortId) (body : Formula) → measure (Formula.Quant all vars body) ≡ over (measure body ∷ [])
unfolding Formula.roll-Formula denote.Hole.Carrier.roll
measure_of_quant all vars body = fold-roll-Formula Measure Measure measure_step term_step (Formula-F.Quant all vars body)

pub measure_of_var : (v : ℕ) → term_measure (Fterm.Var v) ≡ over []
unfolding Fterm.roll-Fterm denote.Hole.Carrier.roll
measure_of_var v = fold-roll-Fterm Measure Measure measure_step term_step (Fterm-F.Var v)

pub measure_of_app : (f : SymId) (ts : List Fterm) → term_measure (Fterm.App f ts) ≡ over (map term_measure ts)
unfolding Fterm.roll-Fterm denote.Hole.Carrier.roll
measure_of_app f ts = fold-roll-Fterm Measure Measure measure_step term_step (Fterm-F.App f ts)

pub measure_of_choice : (c : Formula) (a b : Fterm) → term_measure (Fterm.Ite c a b) ≡ over (measure c ∷ term_measure a ∷ term_measure b ∷ [])
unfolding Fterm.roll-Fterm denote.Hole.Carrier.roll
measure_of_choice c a b = fold-roll-Fterm Measure Measure measure_step term_step (Fterm-F.«Fterm::Ite» c a b)

-- trees of one kind
formulas_measured : (ts : List Tree) → all_formulas (map is_truth ts) ≡ true → map measure (map formula_in ts) ≡ map tree_measure ts
formulas_measured [] e = refl
formulas_measured (Tree.Truth f ∷ ts) e = ap (λ (ms : List Measure). measure f ∷ ms) (formulas_measured ts e)
formulas_measured (Tree.Thing t ∷ ts) e = cc

things_measured : (ts : List Tree) → all_things (map is_truth ts) ≡ true → map term_measure (map thing_in ts) ≡ map tree_measure ts
things_measured [] e = refl
things_measured (Tree.Truth f ∷ ts) e = cc
things_measured (Tree.Thing t ∷ ts) e = ap (λ (ms : List Measure). term_measure t ∷ ms) (things_measured ts e)

not_measured : (ts : List Tree) → takes Op.Not (map is_truth ts) ≡ true → tree_measure (built Op.Not ts) ≡ over (map tree_measure ts)
not_measured (Tree.Truth a ∷ []) e = measure_of_not a
not_measured [] e = cc
not_measured (Tree.Thing a ∷ ts) e = cc
not_measured (Tree.Truth a ∷ b ∷ ts) e = cc

equal_measured : (ts : List Tree) → takes Op.Equal (map is_truth ts) ≡ true → tree_measure (built Op.Equal ts) ≡ over (map tree_measure ts)
equal_measured (Tree.Thing a ∷ Tree.Thing b ∷ []) e = measure_of_equal a b
equal_measured [] e = cc
equal_measured (Tree.Truth a ∷ ts) e = cc
equal_measured (Tree.Thing a ∷ []) e = cc
equal_measured (Tree.Thing a ∷ Tree.Truth b ∷ ts) e = cc
equal_measured (Tree.Thing a ∷ Tree.Thing b ∷ c ∷ ts) e = cc

iff_measured : (ts : List Tree) → takes Op.Iff (map is_truth ts) ≡ true → tree_measure (built Op.Iff ts) ≡ over (map tree_measure ts)
iff_measured (Tree.Truth a ∷ Tree.Truth b ∷ []) e = measure_of_iff a b
iff_measured [] e = cc
iff_measured (Tree.Thing a ∷ ts) e = cc
iff_measured (Tree.Truth a ∷ []) e = cc
iff_measured (Tree.Truth a ∷ Tree.Thing b ∷ ts) e = cc
iff_measured (Tree.Truth a ∷ Tree.Truth b ∷ c ∷ ts) e = cc

ite_measured : (ts : List Tree) → takes Op.Ite (map is_truth ts) ≡ true → tree_measure (built Op.Ite ts) ≡ over (map tree_measure ts)
ite_measured (Tree.Truth a ∷ Tree.Truth b ∷ Tree.Truth c ∷ []) e = measure_of_ite a b c
ite_measured [] e = cc
ite_measured (Tree.Thing a ∷ ts) e = cc
ite_measured (Tree.Truth a ∷ []) e = cc
ite_measured (Tree.Truth a ∷ Tree.Thing b ∷ ts) e = cc
ite_measured (Tree.Truth a ∷ Tree.Truth b ∷ []) e = cc
ite_measured (Tree.Truth a ∷ Tree.Truth b ∷ Tree.Thing c ∷ ts) e = cc
ite_measured (Tree.Truth a ∷ Tree.Truth b ∷ Tree.Truth c ∷ d ∷ ts) e = cc

choice_measured : (ts : List Tree) → takes Op.Choice (map is_truth ts) ≡ true → tree_measure (built Op.Choice ts) ≡ over (map tree_measure ts)
choice_measured (Tree.Truth a ∷ Tree.Thing b ∷ Tree.Thing c ∷ []) e = measure_of_choice a b c
choice_measured [] e = cc
choice_measured (Tree.Thing a ∷ ts) e = cc
choice_measured (Tree.Truth a ∷ []) e = cc
choice_measured (Tree.Truth a ∷ Tree.Truth b ∷ ts) e = cc
choice_measured (Tree.Truth a ∷ Tree.Thing b ∷ []) e = cc
choice_measured (Tree.Truth a ∷ Tree.Thing b ∷ Tree.Truth c ∷ ts) e = cc
choice_measured (Tree.Truth a ∷ Tree.Thing b ∷ Tree.Thing c ∷ d ∷ ts) e = cc

truth_measured : (b : Bool) (ts : List Tree) → takes (Op.Truth b) (map is_truth ts) ≡ true → tree_measure (built (Op.Truth b) ts) ≡ over (map tree_measure ts)
truth_measured b [] e = measure_of_truth b
truth_measured b (t ∷ ts) e = cc

-- all pairs
apart_formulas : (a : Formula) (ts : List Tree) → all_formulas (map is_truth ts) ≡ true → map measure (map (apart true (Tree.Truth a)) ts) ≡ map (pair_measure (measure a)) (map tree_measure ts)
apart_formulas a [] e = refl
apart_formulas a (Tree.Truth f ∷ ts) e =
    ap (λ (m : Measure). m ∷ map measure (map (apart true (Tree.Truth a)) ts)) (measure_of_not (Formula.Iff a f) ∙ ap (λ (m : Measure). over (m ∷ [])) (measure_of_iff a f))
    ∙ ap (λ (ms : List Measure). pair_measure (measure a) (measure f) ∷ ms) (apart_formulas a ts e)
apart_formulas a (Tree.Thing t ∷ ts) e = cc

apart_things : (a : Fterm) (ts : List Tree) → all_things (map is_truth ts) ≡ true → map measure (map (apart false (Tree.Thing a)) ts) ≡ map (pair_measure (term_measure a)) (map tree_measure ts)
apart_things a [] e = refl
apart_things a (Tree.Truth f ∷ ts) e = cc
apart_things a (Tree.Thing t ∷ ts) e =
    ap (λ (m : Measure). m ∷ map measure (map (apart false (Tree.Thing a)) ts)) (measure_of_not (Formula.Equal a t) ∙ ap (λ (m : Measure). over (m ∷ [])) (measure_of_equal a t))
    ∙ ap (λ (ms : List Measure). pair_measure (term_measure a) (term_measure t) ∷ ms) (apart_things a ts e)

all_apart_formulas : (ts : List Tree) → all_formulas (map is_truth ts) ≡ true → map measure (all_apart true ts) ≡ all_pairs (map tree_measure ts)
all_apart_formulas [] e = refl
all_apart_formulas (Tree.Truth a ∷ ts) e =
    map-append measure (map (apart true (Tree.Truth a)) ts) (all_apart true ts)
    ∙ ap (λ (ms : List Measure). ms ++ map measure (all_apart true ts)) (apart_formulas a ts e)
    ∙ ap (λ (ms : List Measure). map (pair_measure (measure a)) (map tree_measure ts) ++ ms) (all_apart_formulas ts e)
all_apart_formulas (Tree.Thing a ∷ ts) e = cc

all_apart_things : (ts : List Tree) → all_things (map is_truth ts) ≡ true → map measure (all_apart false ts) ≡ all_pairs (map tree_measure ts)
all_apart_things [] e = refl
all_apart_things (Tree.Truth a ∷ ts) e = cc
all_apart_things (Tree.Thing a ∷ ts) e =
    map-append measure (map (apart false (Tree.Thing a)) ts) (all_apart false ts)
    ∙ ap (λ (ms : List Measure). ms ++ map measure (all_apart false ts)) (apart_things a ts e)
    ∙ ap (λ (ms : List Measure). map (pair_measure (term_measure a)) (map tree_measure ts) ++ ms) (all_apart_things ts e)

distinct_measured : (truth : Bool) (ts : List Tree) → takes (Op.Distinct truth) (map is_truth ts) ≡ true → tree_measure (built (Op.Distinct truth) ts) ≡ over (all_pairs (map tree_measure ts))
distinct_measured true ts e = measure_of_and (all_apart true ts) ∙ ap over (all_apart_formulas ts e)
distinct_measured false ts e = measure_of_and (all_apart false ts) ∙ ap over (all_apart_things ts e)

pub built_measured : (op : Op) (ts : List Tree) → takes op (map is_truth ts) ≡ true → tree_measure (built op ts) ≡ weigh op (map tree_measure ts)
built_measured (Op.Distinct truth) ts e = distinct_measured truth ts e
built_measured (Op.Truth b) ts e = truth_measured b ts e
built_measured (Op.Pred p) ts e = measure_of_pred p (map thing_in ts) ∙ ap over (things_measured ts e)
built_measured (Op.App f) ts e = measure_of_app f (map thing_in ts) ∙ ap over (things_measured ts e)
built_measured Op.Not ts e = not_measured ts e
built_measured Op.And ts e = measure_of_and (map formula_in ts) ∙ ap over (formulas_measured ts e)
built_measured Op.Or ts e = measure_of_or (map formula_in ts) ∙ ap over (formulas_measured ts e)
built_measured Op.Equal ts e = equal_measured ts e
built_measured Op.Iff ts e = iff_measured ts e
built_measured Op.Ite ts e = ite_measured ts e
built_measured Op.Choice ts e = choice_measured ts e

pub built_kind : (op : Op) (ts : List Tree) → is_truth (built op ts) ≡ makes_truth op
built_kind (Op.Truth b) ts = refl
built_kind (Op.Pred p) ts = refl
built_kind (Op.App f) ts = refl
built_kind Op.Not ts = refl
built_kind Op.And ts = refl
built_kind Op.Or ts = refl
built_kind Op.Equal ts = refl
built_kind Op.Iff ts = refl
built_kind Op.Ite ts = refl
built_kind Op.Choice ts = refl
built_kind (Op.Distinct truth) ts = refl

pub total_append : (xs ys : List Measure) → total (xs ++ ys) ≡ total xs + total ys
total_append [] ys = let k : total ys ≡ 0 + total ys = omega arith in k
total_append (x ∷ xs) ys = let h : total (xs ++ ys) ≡ total xs + total ys = total_append xs ys in let k : x.size + total (xs ++ ys) ≡ (x.size + total xs) + total ys = omega (arith, h) in k

pub deepest_append : (xs ys : List Measure) → deepest (xs ++ ys) ≡ max (deepest xs) (deepest ys)
deepest_append [] ys = let k : deepest ys ≡ max 0 (deepest ys) = omega arith in k
deepest_append (x ∷ xs) ys = let h : deepest (xs ++ ys) ≡ max (deepest xs) (deepest ys) = deepest_append xs ys in let k : max x.depth (deepest (xs ++ ys)) ≡ max (max x.depth (deepest xs)) (deepest ys) = omega (arith, h) in k

pub none_fits : (size depth : ℕ) (x y p : List Measure) → size + total (x ++ y) ≡ 1 + total p → max depth (deepest (x ++ y)) ≡ deepest p → false ≡ nat_le (size + total x) 1000000 && nat_lt (max depth (deepest x)) 400 → false ≡ is_fit (over p)
none_fits size depth x y p h k e = let a = total_append x y in let b = deepest_append x y in grind (arith, a, b, h, k, e)

pub pairs_go : (size depth more deep : ℕ) (x y p : List Measure) → size + total (x ++ y) ≡ 1 + total p → max depth (deepest (x ++ y)) ≡ deepest p → more ≡ size + total x → deep ≡ max depth (deepest x)
    → (more + total y ≡ 1 + total p) × (max deep (deepest y) ≡ deepest p)
pairs_go size depth more deep x y p h k e d = let a = total_append x y in let b = deepest_append x y in (omega (arith, a, h, e), omega (arith, b, k, d))
