use Rattle.std.proofs.Common.{arith}
use Rattle.fm_apply.proofs.Chaining.{equal_made, equal_stopped, formulas_of_kind}
use Rattle.fm_apply.proofs.chains.equal.Goals as goal

pub make-requires-clause-kinds : goal.make-requires-clause-kinds
make-requires-clause-kinds c = formulas_of_kind c.neighbours.new.arena c.in-Ok.parts c.in-Ok.ensures.kinds

pub returns-in-Err-clause-answer : goal.returns-in-Err-clause-answer
returns-in-Err-clause-answer c =
    λ x e. equal_stopped x c.args.arena.now c.neighbours.new.arena c.args.args.now c.in-Some.rest.now c.in-Some-split_first.others.now c.in-Some.first.now c.in-Some-split_first.second.now c.in-Err.fail c.in-Some.ensures.cases.0 c.in-Some-split_first.ensures.cases.0 (omega (arith, c.if-others-lt1.false)) (c.in-Err.ensures.answer x e)

pub returns-in-Ok-clause-answer : goal.returns-in-Ok-clause-answer
returns-in-Ok-clause-answer c =
    λ x e. equal_made x c.args.arena.now c.neighbours.new.arena c.make.new.arena c.args.args.now c.in-Some.rest.now c.in-Some-split_first.others.now c.in-Ok.parts c.in-Some.first.now c.in-Some-split_first.second.now c.make.result c.in-Some.ensures.cases.0 c.in-Some-split_first.ensures.cases.0 (omega (arith, c.if-others-lt1.false)) (c.in-Ok.ensures.answer x e) (c.make.ensures.answer x e)
