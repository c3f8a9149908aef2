-- What an operator makes of well sorted trees is well sorted.
use Rattle.std.proofs.Common.{◌≡◌, ℕ, Bool, true, cond, List, [], ◌∷◌, ◌++◌, map, Option, Some, None, ap, refl, ◌∙◌}
use Rattle.std.specs.Prelude.{◌&&◌, nat_lt, slice_get}
use Rattle.std.specs.List.{list_all}
use Rattle.std.proofs.lemmas.Bool.{and_parts, and_from, eqb-true, eq-eqb, false≢true}
use Rattle.fm_base.specs.Truth.{Sorted, Sort, all_sorted, are_arguments, have_one_sort, is_bool, is_of_sort, is_predicate_of, is_well_sorted, result_of, sort_of, sort_step, sorted_step}
use Rattle.fm_base.specs.declared.ids.SortId.{SortId}
use Rattle.fm_base.specs.declared.ids.SymId.{SymId}
use Rattle.fm_base.specs.declared.signature.Rank.{Rank}
use Rattle.fm_base.specs.declared.signature.Sig.{Sig}
use Rattle.fm_base.specs.declared.signature.Ty.{Ty}
use Rattle.fm_base.specs.declared.formula.Formula
use Rattle.fm_base.specs.declared.formula.Formula.{Formula}
use Rattle.fm_base.specs.declared.formula.Fterm
use Rattle.fm_base.specs.declared.formula.Fterm.{Fterm}
use Rattle.fm_base.specs.declared.formula.Formula.TheOpen.{Formula-F, Fterm-F}
use Rattle.fm_base.specs.declared.formula.Formula.TheFolds.{fold-roll-Formula, fold-roll-Fterm}
use Rattle.fm_arena.specs.Trees.{all_apart, apart, built, formula_in, thing_in}
use Rattle.fm_arena.specs.declared.node.Op.{Op}
use Rattle.fm_arena.specs.declared.node.Tree.{Tree}
use Rattle.fm_elab.specs.Sorted.{IsSortedTree, takes_no_truth}

-- each constructor

sorted_of_truth : (b : Bool) (sig : Sig) (scope : List SortId) → is_well_sorted (Formula.Truth b) sig scope ≡ true
unfolding Formula.roll-Formula denote.Hole.Carrier.roll
sorted_of_truth b sig scope = ap (λ (s : Sorted). s sig scope) (fold-roll-Formula Sorted Sort sorted_step sort_step (Formula-F.Truth b))

sorted_of_pred : (p : SymId) (ts : List Fterm) (sig : Sig) (scope : List SortId) → is_well_sorted (Formula.Pred p ts) sig scope ≡ is_predicate_of (map sort_of ts) (slice_get sig.ranks p.0) sig scope
unfolding Formula.roll-Formula denote.Hole.Carrier.roll
sorted_of_pred p ts sig scope = ap (λ (s : Sorted). s sig scope) (fold-roll-Formula Sorted Sort sorted_step sort_step (Formula-F.Pred p ts))

sorted_of_equal : (a b : Fterm) (sig : Sig) (scope : List SortId) → is_well_sorted (Formula.Equal a b) sig scope ≡ have_one_sort (sort_of a sig scope) (sort_of b sig scope)
unfolding Formula.roll-Formula denote.Hole.Carrier.roll
sorted_of_equal a b sig scope = ap (λ (s : Sorted). s sig scope) (fold-roll-Formula Sorted Sort sorted_step sort_step (Formula-F.Equal a b))

sorted_of_not : (a : Formula) (sig : Sig) (scope : List SortId) → is_well_sorted (Formula.Not a) sig scope ≡ is_well_sorted a sig scope
unfolding Formula.roll-Formula denote.Hole.Carrier.roll
sorted_of_not a sig scope = ap (λ (s : Sorted). s sig scope) (fold-roll-Formula Sorted Sort sorted_step sort_step (Formula-F.Not a))

sorted_of_and : (fs : List Formula) (sig : Sig) (scope : List SortId) → is_well_sorted (Formula.And fs) sig scope ≡ all_sorted (map is_well_sorted fs) sig scope
unfolding Formula.roll-Formula denote.Hole.Carrier.roll
sorted_of_and fs sig scope = ap (λ (s : Sorted). s sig scope) (fold-roll-Formula Sorted Sort sorted_step sort_step (Formula-F.And fs))

sorted_of_or : (fs : List Formula) (sig : Sig) (scope : List SortId) → is_well_sorted (Formula.Or fs) sig scope ≡ all_sorted (map is_well_sorted fs) sig scope
unfolding Formula.roll-Formula denote.Hole.Carrier.roll
sorted_of_or fs sig scope = ap (λ (s : Sorted). s sig scope) (fold-roll-Formula Sorted Sort sorted_step sort_step (Formula-F.Or fs))

sorted_of_iff : (a b : Formula) (sig : Sig) (scope : List SortId) → is_well_sorted (Formula.Iff a b) sig scope ≡ (is_well_sorted a sig scope && is_well_sorted b sig scope)
unfolding Formula.roll-Formula denote.Hole.Carrier.roll
sorted_of_iff a b sig scope = ap (λ (s : Sorted). s sig scope) (fold-roll-Formula Sorted Sort sorted_step sort_step (Formula-F.Iff a b))

sorted_of_ite : (c a b : Formula) (sig : Sig) (scope : List SortId) → is_well_sorted (Formula.Ite c a b) sig scope ≡ (is_well_sorted c sig scope && (is_well_sorted a sig scope && is_well_sorted b sig scope))
unfolding Formula.roll-Formula denote.Hole.Carrier.roll
sorted_of_ite c a b sig scope = ap (λ (s : Sorted). s sig scope) (fold-roll-Formula Sorted Sort sorted_step sort_step (Formula-F.«Formula::Ite» c a b))

pub sorted_of_quant : (all : Bool) (vars : List SortId) (body : Formula) (sig : Sig) (scope : List SortId) → is_well_sorted (Formula.Quant all vars body) sig scope ≡ (list_all (λ (s : SortId). nat_lt s.0 sig.sorts) vars && is_well_sorted body sig (scope ++ vars))
unfolding Formula.roll-Formula denote.Hole.Carrier.roll
sorted_of_quant all vars body sig scope = ap (λ (s : Sorted). s sig scope) (fold-roll-Formula Sorted Sort sorted_step sort_step (Formula-F.Quant all vars body))

pub sort_of_var : (v : ℕ) (sig : Sig) (scope : List SortId) → sort_of (Fterm.Var v) sig scope ≡ slice_get scope v
unfolding Fterm.roll-Fterm denote.Hole.Carrier.roll
sort_of_var v sig scope = ap (λ (s : Sort). s sig scope) (fold-roll-Fterm Sorted Sort sorted_step sort_step (Fterm-F.Var v))

sort_of_app : (f : SymId) (ts : List Fterm) (sig : Sig) (scope : List SortId) → sort_of (Fterm.App f ts) sig scope ≡ result_of (map sort_of ts) (slice_get sig.ranks f.0) sig scope
unfolding Fterm.roll-Fterm denote.Hole.Carrier.roll
sort_of_app f ts sig scope = ap (λ (s : Sort). s sig scope) (fold-roll-Fterm Sorted Sort sorted_step sort_step (Fterm-F.App f ts))

sort_of_choice : (c : Formula) (a b : Fterm) (sig : Sig) (scope : List SortId) → sort_of (Fterm.Ite c a b) sig scope ≡ cond (is_well_sorted c sig scope && have_one_sort (sort_of a sig scope) (sort_of b sig scope)) (sort_of a sig scope) None
unfolding Fterm.roll-Fterm denote.Hole.Carrier.roll
sort_of_choice c a b sig scope = ap (λ (s : Sort). s sig scope) (fold-roll-Fterm Sorted Sort sorted_step sort_step (Fterm-F.«Fterm::Ite» c a b))

-- trees of types, one each, and trees of one type

abbrev pub AreSortedTrees : Sig → List SortId → List Tree → List Ty → Type 0
AreSortedTrees sig scope [] [] = Unit {0}
AreSortedTrees sig scope [] (ty ∷ tys) = ⊥
AreSortedTrees sig scope (t ∷ ts) [] = ⊥
AreSortedTrees sig scope (t ∷ ts) (ty ∷ tys) = IsSortedTree sig ty scope t × AreSortedTrees sig scope ts tys

abbrev pub AreAllSorted : Sig → List SortId → Ty → List Tree → Type 0
AreAllSorted sig scope ty [] = Unit {0}
AreAllSorted sig scope ty (t ∷ ts) = IsSortedTree sig ty scope t × AreAllSorted sig scope ty ts

-- the sort of a term of a sort
sort_is : (o : Option SortId) (s : SortId) → is_of_sort o (Ty.Of s) ≡ true → o ≡ Some s
sort_is None s e = absurd (false≢true e)
sort_is (Some u) s e = ap (λ (n : ℕ). let v : SortId = record { 0 = n } in Some v) (eqb-true u.0 s.0 e)

pub sort_from : (o : Option SortId) (s : SortId) → o ≡ Some s → is_of_sort o (Ty.Of s) ≡ true
sort_from o s e = ap (λ (p : Option SortId). is_of_sort p (Ty.Of s)) e ∙ eq-eqb s.0 s.0 refl

one_sort : (a b : Option SortId) (s : SortId) → is_of_sort a (Ty.Of s) ≡ true → is_of_sort b (Ty.Of s) ≡ true → have_one_sort a b ≡ true
one_sort a b s p q = (λ i. have_one_sort (sort_is a s p i) (sort_is b s q i)) ∙ sort_from (Some s) s refl

-- arguments of a rank without truth values
arguments_sorted : (sig : Sig) (scope : List SortId) (ts : List Tree) (tys : List Ty) → takes_no_truth tys ≡ true → AreSortedTrees sig scope ts tys → are_arguments (map sort_of (map thing_in ts)) tys sig scope ≡ true
arguments_sorted sig scope [] [] n h = refl
arguments_sorted sig scope [] (ty ∷ tys) n h = absurd h
arguments_sorted sig scope (t ∷ ts) [] n h = absurd h
arguments_sorted sig scope (t ∷ ts) (Ty.Bool ∷ tys) n h = absurd (false≢true n)
arguments_sorted sig scope (t ∷ ts) (Ty.Of s ∷ tys) n h = and_from (is_of_sort (sort_of (thing_in t) sig scope) (Ty.Of s)) (are_arguments (map sort_of (map thing_in ts)) tys sig scope) h.0 (arguments_sorted sig scope ts tys n h.1)

pub pred_sorted : (sig : Sig) (scope : List SortId) (p : SymId) (args : List Ty) (ts : List Tree) → slice_get sig.ranks p.0 ≡ Some (record { args = args; result = Ty.Bool }) → takes_no_truth args ≡ true → AreSortedTrees sig scope ts args
    → IsSortedTree sig Ty.Bool scope (built (Op.Pred p) ts)
pred_sorted sig scope p args ts g n h =
    let rank : Rank = record { args = args; result = Ty.Bool } in
    sorted_of_pred p (map thing_in ts) sig scope ∙ ap (λ (o : Option Rank). is_predicate_of (map sort_of (map thing_in ts)) o sig scope) g ∙ arguments_sorted sig scope ts args n h

pub app_sorted : (sig : Sig) (scope : List SortId) (f : SymId) (args : List Ty) (s : SortId) (ts : List Tree) → slice_get sig.ranks f.0 ≡ Some (record { args = args; result = Ty.Of s }) → takes_no_truth args ≡ true → AreSortedTrees sig scope ts args
    → IsSortedTree sig (Ty.Of s) scope (built (Op.App f) ts)
app_sorted sig scope f args s ts g n h =
    sort_from (sort_of (Fterm.App f (map thing_in ts)) sig scope) s
    (sort_of_app f (map thing_in ts) sig scope ∙ ap (λ (o : Option Rank). result_of (map sort_of (map thing_in ts)) o sig scope) g
    ∙ ap (λ (b : Bool). cond b (Some s) None) (arguments_sorted sig scope ts args n h))

pub truth_sorted : (sig : Sig) (scope : List SortId) (b : Bool) (ts : List Tree) → IsSortedTree sig Ty.Bool scope (built (Op.Truth b) ts)
truth_sorted sig scope b ts = sorted_of_truth b sig scope

pub not_sorted : (sig : Sig) (scope : List SortId) (ts : List Tree) → AreSortedTrees sig scope ts (Ty.Bool ∷ []) → IsSortedTree sig Ty.Bool scope (built Op.Not ts)
not_sorted sig scope [] h = absurd h
not_sorted sig scope (a ∷ []) h = sorted_of_not (formula_in a) sig scope ∙ h.0
not_sorted sig scope (a ∷ b ∷ ts) h = absurd h.1

formulas_sorted : (sig : Sig) (scope : List SortId) (ts : List Tree) → AreAllSorted sig scope Ty.Bool ts → all_sorted (map is_well_sorted (map formula_in ts)) sig scope ≡ true
formulas_sorted sig scope [] h = refl
formulas_sorted sig scope (t ∷ ts) h = and_from (is_well_sorted (formula_in t) sig scope) (all_sorted (map is_well_sorted (map formula_in ts)) sig scope) h.0 (formulas_sorted sig scope ts h.1)

pub and_sorted : (sig : Sig) (scope : List SortId) (ts : List Tree) → AreAllSorted sig scope Ty.Bool ts → IsSortedTree sig Ty.Bool scope (built Op.And ts)
and_sorted sig scope ts h = sorted_of_and (map formula_in ts) sig scope ∙ formulas_sorted sig scope ts h

pub or_sorted : (sig : Sig) (scope : List SortId) (ts : List Tree) → AreAllSorted sig scope Ty.Bool ts → IsSortedTree sig Ty.Bool scope (built Op.Or ts)
or_sorted sig scope ts h = sorted_of_or (map formula_in ts) sig scope ∙ formulas_sorted sig scope ts h

pub iff_sorted : (sig : Sig) (scope : List SortId) (a b : Tree) → IsSortedTree sig Ty.Bool scope a → IsSortedTree sig Ty.Bool scope b → IsSortedTree sig Ty.Bool scope (built Op.Iff (a ∷ b ∷ []))
iff_sorted sig scope a b p q = sorted_of_iff (formula_in a) (formula_in b) sig scope ∙ and_from (is_well_sorted (formula_in a) sig scope) (is_well_sorted (formula_in b) sig scope) p q

pub equal_sorted : (sig : Sig) (scope : List SortId) (s : SortId) (a b : Tree) → IsSortedTree sig (Ty.Of s) scope a → IsSortedTree sig (Ty.Of s) scope b → IsSortedTree sig Ty.Bool scope (built Op.Equal (a ∷ b ∷ []))
equal_sorted sig scope s a b p q = sorted_of_equal (thing_in a) (thing_in b) sig scope ∙ one_sort (sort_of (thing_in a) sig scope) (sort_of (thing_in b) sig scope) s p q

-- the operator of `ite` by the type of its branches
abbrev pub chosen_op : Bool → Op
chosen_op b = cond b Op.Ite Op.Choice

ite_of : (sig : Sig) (scope : List SortId) (ty : Ty) (c a b : Tree) → IsSortedTree sig Ty.Bool scope c → IsSortedTree sig ty scope a → IsSortedTree sig ty scope b → IsSortedTree sig ty scope (built (chosen_op (is_bool ty)) (c ∷ a ∷ b ∷ []))
ite_of sig scope Ty.Bool c a b r p q =
    sorted_of_ite (formula_in c) (formula_in a) (formula_in b) sig scope
    ∙ and_from (is_well_sorted (formula_in c) sig scope) (is_well_sorted (formula_in a) sig scope && is_well_sorted (formula_in b) sig scope) r (and_from (is_well_sorted (formula_in a) sig scope) (is_well_sorted (formula_in b) sig scope) p q)
ite_of sig scope (Ty.Of s) c a b r p q =
    let ka : Option SortId = sort_of (thing_in a) sig scope in
    let kb : Option SortId = sort_of (thing_in b) sig scope in
    sort_from (sort_of (Fterm.Ite (formula_in c) (thing_in a) (thing_in b)) sig scope) s
    (sort_of_choice (formula_in c) (thing_in a) (thing_in b) sig scope
    ∙ ap (λ (t : Bool). cond t ka None) (and_from (is_well_sorted (formula_in c) sig scope) (have_one_sort ka kb) r (one_sort ka kb s p q)) ∙ sort_is ka s p)

pub ite_sorted : (sig : Sig) (scope : List SortId) (ty : Ty) (ts : List Tree) → AreSortedTrees sig scope ts (Ty.Bool ∷ ty ∷ ty ∷ []) → IsSortedTree sig ty scope (built (chosen_op (is_bool ty)) ts)
ite_sorted sig scope ty [] h = absurd h
ite_sorted sig scope ty (c ∷ []) h = absurd h.1
ite_sorted sig scope ty (c ∷ a ∷ []) h = absurd h.1.1
ite_sorted sig scope ty (c ∷ a ∷ b ∷ []) h = ite_of sig scope ty c a b h.0 h.1.0 h.1.1.0
ite_sorted sig scope ty (c ∷ a ∷ b ∷ t ∷ ts) h = absurd h.1.1.1

-- pairs of one type
apart_sorted : (sig : Sig) (scope : List SortId) (ty : Ty) (a b : Tree) → IsSortedTree sig ty scope a → IsSortedTree sig ty scope b → is_well_sorted (apart (is_bool ty) a b) sig scope ≡ true
apart_sorted sig scope Ty.Bool a b p q = sorted_of_not (Formula.Iff (formula_in a) (formula_in b)) sig scope ∙ iff_sorted sig scope a b p q
apart_sorted sig scope (Ty.Of s) a b p q = sorted_of_not (Formula.Equal (thing_in a) (thing_in b)) sig scope ∙ equal_sorted sig scope s a b p q

all_append : (sig : Sig) (scope : List SortId) (xs ys : List Formula) → all_sorted (map is_well_sorted xs) sig scope ≡ true → all_sorted (map is_well_sorted ys) sig scope ≡ true → all_sorted (map is_well_sorted (xs ++ ys)) sig scope ≡ true
all_append sig scope [] ys p q = q
all_append sig scope (x ∷ xs) ys p q =
    let parts = and_parts (is_well_sorted x sig scope) (all_sorted (map is_well_sorted xs) sig scope) p in
    and_from (is_well_sorted x sig scope) (all_sorted (map is_well_sorted (xs ++ ys)) sig scope) parts.0 (all_append sig scope xs ys parts.1 q)

from_first : (sig : Sig) (scope : List SortId) (ty : Ty) (a : Tree) (ts : List Tree) → IsSortedTree sig ty scope a → AreAllSorted sig scope ty ts → all_sorted (map is_well_sorted (map (apart (is_bool ty) a) ts)) sig scope ≡ true
from_first sig scope ty a [] p h = refl
from_first sig scope ty a (t ∷ ts) p h =
    and_from (is_well_sorted (apart (is_bool ty) a t) sig scope) (all_sorted (map is_well_sorted (map (apart (is_bool ty) a) ts)) sig scope) (apart_sorted sig scope ty a t p h.0) (from_first sig scope ty a ts p h.1)

pairs_sorted : (sig : Sig) (scope : List SortId) (ty : Ty) (ts : List Tree) → AreAllSorted sig scope ty ts → all_sorted (map is_well_sorted (all_apart (is_bool ty) ts)) sig scope ≡ true
pairs_sorted sig scope ty [] h = refl
pairs_sorted sig scope ty (t ∷ ts) h = all_append sig scope (map (apart (is_bool ty) t) ts) (all_apart (is_bool ty) ts) (from_first sig scope ty t ts h.0 h.1) (pairs_sorted sig scope ty ts h.1)

pub distinct_sorted : (sig : Sig) (scope : List SortId) (ty : Ty) (ts : List Tree) → AreAllSorted sig scope ty ts → IsSortedTree sig Ty.Bool scope (built (Op.Distinct (is_bool ty)) ts)
distinct_sorted sig scope ty ts h = sorted_of_and (all_apart (is_bool ty) ts) sig scope ∙ pairs_sorted sig scope ty ts h
