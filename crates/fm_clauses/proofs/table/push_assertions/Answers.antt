use Rattle.fm_clauses.proofs.Problems.{assertions_end, assertions_step}
use Rattle.fm_clauses.proofs.table.push_assertions.Goals as goal

pub loop-formula-preserved : goal.loop-formula-preserved
loop-formula-preserved c = λ clauses ranks rest.
    c.loop-formula.invariant clauses ranks (assertions_step c.args.sig.now c.args.formulas.now c.loop-formula.formula-index c.formula-item.result c.loop-formula-test.true c.formula-item.is c.args.first c.loop-formula.clauses.items c.push_assertion.new.clauses.items clauses c.loop-formula.ranks.items c.push_assertion.new.ranks.items ranks c.in_ok-push_assertion.ensures rest)

pub returns : goal.returns
returns c = c.loop-formula.invariant c.loop-formula.clauses.items c.loop-formula.ranks.items (assertions_end c.args.sig.now c.args.formulas.now c.loop-formula.formula-index c.loop-formula-test.false c.args.first c.loop-formula.clauses.items c.loop-formula.ranks.items)
