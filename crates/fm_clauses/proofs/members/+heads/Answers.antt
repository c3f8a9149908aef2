use Rattle.std.proofs.Common.{arith}
use Rattle.fm_clauses.specs.Adding.{weight}
use Rattle.fm_clauses.proofs.Weights.{item-weight}
use Rattle.fm_clauses.proofs.Walks.{heads_step, heads_end}
use Rattle.fm_clauses.proofs.members.+heads.Goals as goal

pub push_all_heads-push_heads-requires : goal.push_all_heads-push_heads-requires
push_all_heads-push_heads-requires t c =
    let w = item-weight weight c.args.formulas.now c.loop-formula.formula-index c.formula-item.result c.loop-formula-test.true c.formula-item.is in
    (omega (arith, c.decreases, w), c.requires)

pub push_all_heads-loop-formula-preserved : goal.push_all_heads-loop-formula-preserved
push_all_heads-loop-formula-preserved t c = λ lits ranks rest.
    c.loop-formula.invariant lits ranks (heads_step c.args.formulas.now c.loop-formula.formula-index c.formula-item.result c.loop-formula-test.true c.formula-item.is c.args.scope.now c.args.first c.loop-formula.lits.items c.push_heads.new.lits.items lits c.loop-formula.ranks.items c.push_heads.new.ranks.items ranks c.in_ok-push_heads.ensures rest)

pub push_all_heads-returns : goal.push_all_heads-returns
push_all_heads-returns t c = c.loop-formula.invariant c.loop-formula.lits.items c.loop-formula.ranks.items (heads_end c.args.formulas.now c.loop-formula.formula-index c.loop-formula-test.false c.args.scope.now c.args.first c.loop-formula.lits.items c.loop-formula.ranks.items)
