use Rattle.std.proofs.Common.{◌≡◌, ℕ, ◌<◌, ◌≤◌, List, length, map, take, refl, subst, sym, ◌∙◌, arith}
use Rattle.std.proofs.lemmas.List.{length-map}
use Rattle.fm_base.specs.Interpretations.{reading_of}
use Rattle.fm_base.specs.Truth.{truth}
use Rattle.fm_truth.specs.Room.{largest, room_of, room_of_term}
use Rattle.fm_truth.specs.Tuples.{tuple_of}
use Rattle.fm_truth.proofs.Blocks.{Passed, passed_first, loop_goes_on, loop_ends, loop_decides, decided_by, decided_by_none, kept_front}
use Rattle.fm_truth.proofs.Largest.{item-vars, item-args}
use Rattle.fm_truth.proofs.Weights.{total, formula_weight, term_weight, item-weight}
use Rattle.fm_truth.proofs.evaluate.+truth.Goals as goal

pub all_hold-formula_holds-requires : goal.all_hold-formula_holds-requires
all_hold-formula_holds-requires t c =
    let fs = c.args.formulas.now in
    let i = c.loop-formula.formula-index in
    let x = c.formula-item.result in
    let lt : i < length fs = omega arith in
    let w : formula_weight x ≤ total (map formula_weight fs) = item-weight formula_weight fs i x lt c.formula-item.is in
    let v : (room_of x).vars ≤ (largest (map room_of fs)).vars = item-vars room_of fs i x lt c.formula-item.is in
    let a : (room_of x).args ≤ (largest (map room_of fs)).args = item-args room_of fs i x lt c.formula-item.is in
    (omega (arith, c.decreases, w), (c.requires.tables, (omega (arith, v), omega (arith, a))))

pub some_hold-formula_holds-requires : goal.some_hold-formula_holds-requires
some_hold-formula_holds-requires t c =
    let fs = c.args.formulas.now in
    let i = c.loop-formula.formula-index in
    let x = c.formula-item.result in
    let lt : i < length fs = omega arith in
    let w : formula_weight x ≤ total (map formula_weight fs) = item-weight formula_weight fs i x lt c.formula-item.is in
    let v : (room_of x).vars ≤ (largest (map room_of fs)).vars = item-vars room_of fs i x lt c.formula-item.is in
    let a : (room_of x).args ≤ (largest (map room_of fs)).args = item-args room_of fs i x lt c.formula-item.is in
    (omega (arith, c.decreases, w), (c.requires.tables, (omega (arith, v), omega (arith, a))))

pub put_values-term_value-requires : goal.put_values-term_value-requires
put_values-term_value-requires t c =
    let fs = c.args.terms.now in
    let i = c.loop-i.i in
    let x = c.index-terms-i.result in
    let lt : i < length fs = omega arith in
    let w : term_weight x ≤ total (map term_weight fs) = item-weight term_weight fs i x lt c.index-terms-i.is in
    let v : (room_of_term x).vars ≤ (largest (map room_of_term fs)).vars = item-vars room_of_term fs i x lt c.index-terms-i.is in
    let n : length (map room_of_term fs) ≡ length fs = length-map fs room_of_term in
    let a : (room_of_term x).args ≤ (largest (map room_of_term fs)).args = item-args room_of_term fs i x lt c.index-terms-i.is in
    (omega (arith, c.decreases, w), (c.requires.tables, (omega (arith, v), omega (arith, a, n))))

pub block_holds-loop-more-init : goal.block_holds-loop-more-init
block_holds-loop-more-init t c =
    let m = reading_of c.args.interp.now in
    let ss = c.args.sorts.now in
    let p = λ (inner : List ℕ). truth c.args.body.now m inner in
    let env = take c.args.taken.vars c.args.vars.now in
    record {
      passed = subst (λ o. Passed m c.args.all ss p env o) (sym c.first_tuple-more.ensures.first) (passed_first m c.args.all ss p env);
      same_vars = c.first_tuple-more.ensures.same;
      same_args = refl;
    }

pub block_holds-returns-then-formula_holds-all-clause-least : goal.block_holds-returns-then-formula_holds-all-clause-least
block_holds-returns-then-formula_holds-all-clause-least t c = λ same.
    loop_decides (reading_of c.args.interp.now) c.args.all c.args.sorts.now c.args.body.now (take c.args.taken.vars c.args.vars.now) c.args.taken.vars c.loop-more.vars c.formula_holds.new.vars c.loop-more.more c.formula_holds.result c.loop-more.invariant.passed c.loop-more-test.true c.loop-more.invariant.same_vars c.formula_holds.ensures.value c.if-formula_holds-all.true c.formula_holds.ensures.same_vars

pub block_holds-returns-then-formula_holds-all-clause-value : goal.block_holds-returns-then-formula_holds-all-clause-value
block_holds-returns-then-formula_holds-all-clause-value t c =
    let m = reading_of c.args.interp.now in
    let ss = c.args.sorts.now in
    let env = take c.args.taken.vars c.args.vars.now in
    let found = loop_decides m c.args.all ss c.args.body.now env c.args.taken.vars c.loop-more.vars c.formula_holds.new.vars c.loop-more.more c.formula_holds.result c.loop-more.invariant.passed c.loop-more-test.true c.loop-more.invariant.same_vars c.formula_holds.ensures.value c.if-formula_holds-all.true c.formula_holds.ensures.same_vars in
    decided_by m c.args.all ss c.args.body.now env (tuple_of ss c.args.taken.vars c.formula_holds.new.vars) found

pub block_holds-returns-then-formula_holds-all-clause-same_vars : goal.block_holds-returns-then-formula_holds-all-clause-same_vars
block_holds-returns-then-formula_holds-all-clause-same_vars t c =
    kept_front c.args.taken.vars (length c.args.sorts.now) c.loop-more.vars c.formula_holds.new.vars c.formula_holds.ensures.same_vars ∙ c.loop-more.invariant.same_vars

pub block_holds-loop-more-smaller : goal.block_holds-loop-more-smaller
block_holds-loop-more-smaller t c =
    loop_ends (reading_of c.args.interp.now) c.args.all c.args.sorts.now c.args.body.now (take c.args.taken.vars c.args.vars.now) c.args.taken.vars c.loop-more.vars c.formula_holds.new.vars c.next_tuple-more.new.vars c.loop-more.more c.next_tuple-more.result c.loop-more.invariant.passed c.loop-more-test.true c.formula_holds.ensures.same_vars c.next_tuple-more.ensures.next

pub block_holds-loop-more-preserved : goal.block_holds-loop-more-preserved
block_holds-loop-more-preserved t c =
    let d = c.args.taken.vars in
    record {
      passed = loop_goes_on (reading_of c.args.interp.now) c.args.all c.args.sorts.now c.args.body.now (take d c.args.vars.now) d c.loop-more.vars c.formula_holds.new.vars c.next_tuple-more.new.vars c.loop-more.more c.formula_holds.result c.next_tuple-more.result c.loop-more.invariant.passed c.loop-more-test.true c.loop-more.invariant.same_vars c.formula_holds.ensures.value c.if-formula_holds-all.false c.formula_holds.ensures.same_vars c.next_tuple-more.ensures.next;
      same_vars = c.next_tuple-more.ensures.same ∙ kept_front d (length c.args.sorts.now) c.loop-more.vars c.formula_holds.new.vars c.formula_holds.ensures.same_vars ∙ c.loop-more.invariant.same_vars;
      same_args = c.formula_holds.ensures.same_args ∙ c.loop-more.invariant.same_args;
    }

pub block_holds-returns-clause-value : goal.block_holds-returns-clause-value
block_holds-returns-clause-value t c =
    let m = reading_of c.args.interp.now in
    let ss = c.args.sorts.now in
    let d = c.args.taken.vars in
    decided_by_none m c.args.all ss (λ inner. truth c.args.body.now m inner) (take d c.args.vars.now) (tuple_of ss d c.loop-more.vars) c.loop-more.more c.loop-more-test.false c.loop-more.invariant.passed
