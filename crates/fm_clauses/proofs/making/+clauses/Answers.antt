use Rattle.std.proofs.Common.{◌+◌, length, arith}
use Rattle.fm_clauses.specs.Table.{node, behind}
use Rattle.fm_clauses.specs.Adding.{weight}
use Rattle.fm_clauses.proofs.Weights.{item-weight}
use Rattle.fm_clauses.proofs.Steps.{run_step, run_end, behind_step, behind_end, known_first, known_rest}
use Rattle.fm_clauses.proofs.making.+clauses.Goals as goal

pub clausify_all-clausify-requires : goal.clausify_all-clausify-requires
clausify_all-clausify-requires t c =
    let w = item-weight weight c.args.formulas.now c.loop-formula.formula-index c.formula-item.result c.loop-formula-test.true c.formula-item.is in
    (omega (arith, c.decreases, w), c.requires)

pub clausify_all-loop-formula-preserved : goal.clausify_all-loop-formula-preserved
clausify_all-loop-formula-preserved t c = λ clauses ranks rest.
    c.loop-formula.invariant clauses ranks (run_step c.args.formulas.now c.loop-formula.formula-index c.formula-item.result c.loop-formula-test.true c.formula-item.is c.args.scope.now c.args.sofar.now c.args.first c.loop-formula.clauses.items c.clausify.new.clauses.items clauses c.loop-formula.ranks.items c.clausify.new.ranks.items ranks c.in_ok-clausify.ensures rest)

pub clausify_all-returns : goal.clausify_all-returns
clausify_all-returns t c = c.loop-formula.invariant c.loop-formula.clauses.items c.loop-formula.ranks.items (run_end c.args.formulas.now c.loop-formula.formula-index c.loop-formula-test.false c.args.scope.now c.args.sofar.now c.args.first c.loop-formula.clauses.items c.loop-formula.ranks.items)

pub behind_all-behind-requires : goal.behind_all-behind-requires
behind_all-behind-requires t c =
    let fs = c.args.formulas.now in
    let i = c.loop-formula.formula-index in
    let x = c.formula-item.result in
    let w = item-weight weight fs i x c.loop-formula-test.true c.formula-item.is in
    (omega (arith, c.decreases, w), (c.requires.first, known_first fs i x c.loop-formula-test.true c.formula-item.is c.args.scope.now c.loop-formula.next (c.args.first + length c.loop-formula.ranks.items) c.loop-formula.invariant.known))

pub behind_all-loop-formula-preserved : goal.behind_all-loop-formula-preserved
behind_all-loop-formula-preserved t c =
    let fs = c.args.formulas.now in
    let i = c.loop-formula.formula-index in
    let x = c.formula-item.result in
    let scope = c.args.scope.now in
    let h = c.in_ok-next.ensures in
    record {
      known = known_rest fs i x c.loop-formula-test.true c.formula-item.is scope c.loop-formula.next c.in_ok-next.next c.args.first c.loop-formula.ranks.items c.behind.new.ranks.items (behind (node x).parts scope c.loop-formula.next (c.args.first + length c.loop-formula.ranks.items)).1 c.loop-formula.invariant.known h.after h.adds.made_ranks;
      rest = λ clauses ranks last more. c.loop-formula.invariant.rest clauses ranks last (behind_step fs i x c.loop-formula-test.true c.formula-item.is scope c.loop-formula.next c.args.first c.loop-formula.clauses.items c.behind.new.clauses.items clauses c.loop-formula.ranks.items c.behind.new.ranks.items ranks c.in_ok-next.next last h more);
    }

pub behind_all-returns : goal.behind_all-returns
behind_all-returns t c = c.loop-formula.invariant.rest c.loop-formula.clauses.items c.loop-formula.ranks.items c.loop-formula.next (behind_end c.args.formulas.now c.loop-formula.formula-index c.loop-formula-test.false c.args.scope.now c.loop-formula.next c.args.first c.loop-formula.clauses.items c.loop-formula.ranks.items)
