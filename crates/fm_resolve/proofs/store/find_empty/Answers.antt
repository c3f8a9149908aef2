use Rattle.std.proofs.Common.{subst, ◌∙◌, arith}
use Rattle.std.proofs.lemmas.Bool.{both_ways}
use Rattle.std.proofs.lemmas.List.{take_all}
use Rattle.fm_resolve.proofs.EmptyLaws.{NoneEmpty, none_empty, none_more}
use Rattle.fm_resolve.proofs.store.find_empty.Goals as goal

pub loop-i-preserved : goal.loop-i-preserved
loop-i-preserved c = none_more c.args.clauses.now c.loop-i.i c.index-clauses-i.result c.loop-i-test.true c.loop-i.invariant (λ e. both_ways c.is_empty.result c.if-is_empty.false (c.is_empty.ensures.1 (c.index-clauses-i.is ∙ e)))

pub returns-clause-none : goal.returns-clause-none
returns-clause-none c = λ i e. none_empty c.args.clauses.now i (subst NoneEmpty (take_all c.loop-i.i c.args.clauses.now (omega (arith, c.loop-i-test.false))) c.loop-i.invariant) e
