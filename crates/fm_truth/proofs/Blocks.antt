-- A block of quantifiers, tuple by tuple in lexicographic order.
use Rattle.std.proofs.Common.{◌≡◌, ℕ, ◌+◌, ◌<◌, Bool, true, false, not, List, [], ◌++◌, inl, inr, length, take, drop, ap, refl, subst, sym, ◌∙◌, arith}
use Rattle.std.specs.Prelude.{Option, Some, None, cond}
use mathlib.Core.Bool.{beq}
use Rattle.std.proofs.Math.Seq.{take-add}
use Rattle.std.proofs.lemmas.Bool.{false_from_ne_true, true≢false, false≢true}
use Rattle.std.proofs.lemmas.List.{drop-take, take-take}
use Rattle.fm_base.specs.Interpretations.{Reading}
use Rattle.fm_base.specs.Models.{IsElements}
use Rattle.fm_base.specs.Truth.{truth, block}
use Rattle.fm_base.specs.declared.ids.SortId.{SortId}
use Rattle.fm_base.specs.declared.formula.Formula.{Formula}
use Rattle.fm_base.proofs.Quantified.{every_tuple, from_every_tuple, some_tuple, from_some_tuple}
use Rattle.fm_truth.specs.Failing.{precedes, IsLeastFailing}
use Rattle.fm_truth.specs.Tuples.{zeros, have_elements, first_of, next_of, tuple_of, if_any, IsLeastDeciding}
use Rattle.fm_truth.proofs.Orders.{Reached, IsBehind, zeros_are_elements, elements_exist, none_before_zeros, next_is_behind, left, fewer_left}

-- no tuple before the present one decides, or none at all where there is no present one
abbrev pub Passed : Reading → Bool → List SortId → (List ℕ → Bool) → List ℕ → Option (List ℕ) → Type 0
Passed m all ss p env None = (other : List ℕ) → IsElements m ss other → p (env ++ other) ≡ all
Passed m all ss p env (Some xs) = IsElements m ss xs × ((other : List ℕ) → IsElements m ss other → precedes other xs ≡ true → p (env ++ other) ≡ all)

first_cases : (m : Reading) (all : Bool) (ss : List SortId) (p : List ℕ → Bool) (env : List ℕ) (b : Bool) → have_elements m ss ≡ b → Passed m all ss p env (cond b (Some (zeros ss)) None)
first_cases m all ss p env true e = (zeros_are_elements m ss e, λ other t before. absurd (none_before_zeros m ss other t before))
first_cases m all ss p env false e = λ other t. absurd (false≢true (sym e ∙ elements_exist m ss other t))

pub passed_first : (m : Reading) (all : Bool) (ss : List SortId) (p : List ℕ → Bool) (env : List ℕ) → Passed m all ss p env (first_of m ss)
passed_first m all ss p env = first_cases m all ss p env (have_elements m ss) refl

reached_passed : (m : Reading) (all : Bool) (ss : List SortId) (p : List ℕ → Bool) (env xs other : List ℕ) → Passed m all ss p env (Some xs) → p (env ++ xs) ≡ all → IsElements m ss other → Reached other xs → p (env ++ other) ≡ all
reached_passed m all ss p env xs other passed here t r =
    elim r [
      | inl before ↦ passed.1 other t before
      | inr same ↦ ap (λ l. p (env ++ l)) same ∙ here
    ]

passed_next : (m : Reading) (all : Bool) (ss : List SortId) (p : List ℕ → Bool) (env xs : List ℕ) (o : Option (List ℕ)) → Passed m all ss p env (Some xs) → p (env ++ xs) ≡ all → IsBehind m ss xs o → Passed m all ss p env o
passed_next m all ss p env xs None passed here behind = λ other t. reached_passed m all ss p env xs other passed here t (behind other t)
passed_next m all ss p env xs (Some ys) passed here behind = (behind.0, λ other t before. reached_passed m all ss p env xs other passed here t (behind.1 other t before))

passed_all : (m : Reading) (all : Bool) (ss : List SortId) (p : List ℕ → Bool) (env : List ℕ) → Passed m all ss p env None → all ≡ block m all ss p env
passed_all m true ss p env h = sym (from_every_tuple m ss p env h)
passed_all m false ss p env h =
    sym (false_from_ne_true (block m false ss p env) (λ e.
    let found = some_tuple m ss p env e in
    false≢true (sym (h found.0 found.1) ∙ found.2)))

decided : (m : Reading) (all : Bool) (ss : List SortId) (p : List ℕ → Bool) (env xs : List ℕ) → IsElements m ss xs → p (env ++ xs) ≡ not all → not all ≡ block m all ss p env
decided m true ss p env xs t e = sym (false_from_ne_true (block m true ss p env) (λ h. true≢false (sym (every_tuple m ss p env h xs t) ∙ e)))
decided m false ss p env xs t e = sym (from_some_tuple m ss p env xs t e)

differs : (all : Bool) (b : Bool) → b ≡ all → b ≡ not all → ⊥
differs true b e n = true≢false (sym e ∙ n)
differs false b e n = false≢true (sym e ∙ n)

least_deciding : (m : Reading) (all : Bool) (ss : List SortId) (body : Formula) (env xs : List ℕ) → Passed m all ss (λ inner. truth body m inner) env (Some xs) → truth body m (env ++ xs) ≡ not all → IsLeastDeciding m all ss body env xs
least_deciding m all ss body env xs passed e = record {
  elements = passed.0;
  decides = e;
  least = λ other t d. false_from_ne_true (precedes other xs) (λ before. differs all (truth body m (env ++ other)) (passed.1 other t before) d);
}

-- The loop over the tuples. `vars` has the present one behind `env`, and `r` is what the body gives there.

body_here : (m : Reading) (ss : List SortId) (body : Formula) (env : List ℕ) (d : ℕ) (vars : List ℕ) (r : Bool) → take d vars ≡ env → r ≡ truth body m (take (d + length ss) vars) → truth body m (env ++ tuple_of ss d vars) ≡ r
body_here m ss body env d vars r front e = sym (e ∙ ap (λ l. truth body m l) (take-add d (length ss) vars ∙ ap (λ l. l ++ tuple_of ss d vars) front))

same_tuple : (ss : List SortId) (d : ℕ) (vars after : List ℕ) → take (d + length ss) after ≡ take (d + length ss) vars → tuple_of ss d after ≡ tuple_of ss d vars
same_tuple ss d vars after e = sym (drop-take d (length ss) after) ∙ ap (λ l. drop d l) e ∙ drop-take d (length ss) vars

present : (m : Reading) (all : Bool) (ss : List SortId) (p : List ℕ → Bool) (env xs : List ℕ) (more : Bool) → more ≡ true → Passed m all ss p env (if_any more xs) → Passed m all ss p env (Some xs)
present m all ss p env xs more e passed = subst (λ b. Passed m all ss p env (if_any b xs)) e passed

agree : (r all : Bool) → not (beq r all) ≡ false → r ≡ all
agree true true e = refl
agree true false e = absurd (true≢false e)
agree false true e = absurd (true≢false e)
agree false false e = refl

disagree : (r all : Bool) → not (beq r all) ≡ true → r ≡ not all
disagree true true e = absurd (false≢true e)
disagree true false e = refl
disagree false true e = refl
disagree false false e = absurd (false≢true e)

pub loop_goes_on : (m : Reading) (all : Bool) (ss : List SortId) (body : Formula) (env : List ℕ) (d : ℕ) (vars after next : List ℕ) (more r again : Bool) → Passed m all ss (λ inner. truth body m inner) env (if_any more (tuple_of ss d vars)) → more ≡ true → take d vars ≡ env → r ≡ truth body m (take (d + length ss) vars) → not (beq r all) ≡ false → take (d + length ss) after ≡ take (d + length ss) vars → if_any again (tuple_of ss d next) ≡ next_of m ss (tuple_of ss d after) → Passed m all ss (λ inner. truth body m inner) env (if_any again (tuple_of ss d next))
loop_goes_on m all ss body env d vars after next more r again passed e front value same kept moves =
    let xs : List ℕ = tuple_of ss d vars in
    let p = λ (inner : List ℕ). truth body m inner in
    let now : Passed m all ss p env (Some xs) = present m all ss p env xs more e passed in
    let here : p (env ++ xs) ≡ all = body_here m ss body env d vars r front value ∙ agree r all same in
    let to : if_any again (tuple_of ss d next) ≡ next_of m ss xs = moves ∙ ap (λ l. next_of m ss l) (same_tuple ss d vars after kept) in
    subst (λ o. Passed m all ss p env o) (sym to) (passed_next m all ss p env xs (next_of m ss xs) now here (next_is_behind m ss xs now.0))

pub loop_ends : (m : Reading) (all : Bool) (ss : List SortId) (body : Formula) (env : List ℕ) (d : ℕ) (vars after next : List ℕ) (more again : Bool) → Passed m all ss (λ inner. truth body m inner) env (if_any more (tuple_of ss d vars)) → more ≡ true → take (d + length ss) after ≡ take (d + length ss) vars → if_any again (tuple_of ss d next) ≡ next_of m ss (tuple_of ss d after) → left m ss (if_any again (tuple_of ss d next)) < left m ss (if_any more (tuple_of ss d vars))
loop_ends m all ss body env d vars after next more again passed e kept moves =
    let xs : List ℕ = tuple_of ss d vars in
    let now = present m all ss (λ inner. truth body m inner) env xs more e passed in
    let to : if_any again (tuple_of ss d next) ≡ next_of m ss xs = moves ∙ ap (λ l. next_of m ss l) (same_tuple ss d vars after kept) in
    let fewer : left m ss (next_of m ss xs) < left m ss (if_any true xs) = fewer_left m ss xs now.0 in
    subst (λ b. left m ss (if_any again (tuple_of ss d next)) < left m ss (if_any b xs)) (sym e) (subst (λ o. left m ss o < left m ss (if_any true xs)) (sym to) fewer)

pub loop_decides : (m : Reading) (all : Bool) (ss : List SortId) (body : Formula) (env : List ℕ) (d : ℕ) (vars after : List ℕ) (more r : Bool) → Passed m all ss (λ inner. truth body m inner) env (if_any more (tuple_of ss d vars)) → more ≡ true → take d vars ≡ env → r ≡ truth body m (take (d + length ss) vars) → not (beq r all) ≡ true → take (d + length ss) after ≡ take (d + length ss) vars → IsLeastDeciding m all ss body env (tuple_of ss d after)
loop_decides m all ss body env d vars after more r passed e front value other kept =
    let xs : List ℕ = tuple_of ss d vars in
    let now = present m all ss (λ inner. truth body m inner) env xs more e passed in
    let here : truth body m (env ++ xs) ≡ not all = body_here m ss body env d vars r front value ∙ disagree r all other in
    subst (λ l. IsLeastDeciding m all ss body env l) (sym (same_tuple ss d vars after kept)) (least_deciding m all ss body env xs now here)

pub decided_by : (m : Reading) (all : Bool) (ss : List SortId) (body : Formula) (env xs : List ℕ) → IsLeastDeciding m all ss body env xs → not all ≡ block m all ss (λ inner. truth body m inner) env
decided_by m all ss body env xs found = decided m all ss (λ inner. truth body m inner) env xs found.elements found.decides

pub decided_by_none : (m : Reading) (all : Bool) (ss : List SortId) (p : List ℕ → Bool) (env xs : List ℕ) (more : Bool) → more ≡ false → Passed m all ss p env (if_any more xs) → all ≡ block m all ss p env
decided_by_none m all ss p env xs more e passed = passed_all m all ss p env (subst (λ b. Passed m all ss p env (if_any b xs)) e passed)

pub kept_front : (d n : ℕ) (vars after : List ℕ) → take (d + n) after ≡ take (d + n) vars → take d after ≡ take d vars
kept_front d n vars after e = sym (take-take d (d + n) after (omega arith)) ∙ ap (λ l. take d l) e ∙ take-take d (d + n) vars (omega arith)

-- a universal formula that is false is so by the least tuple that decides its outermost block
pub least_failing : (m : Reading) (ss : List SortId) (body : Formula) (xs : List ℕ) → IsLeastDeciding m true ss body [] xs → IsLeastFailing m ss body xs
least_failing m ss body xs found = record { elements = found.elements; fails = found.decides; least = found.least }
