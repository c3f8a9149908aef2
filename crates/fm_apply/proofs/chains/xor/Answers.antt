use Rattle.std.proofs.Common.{arith, length, true, ◌<◌}
use Rattle.fm_apply.proofs.Chaining.{next_kind, next_of_kind, xor_step, xor_stopped}
use Rattle.fm_apply.proofs.Growing.{grows_trans}
use Rattle.fm_apply.proofs.chains.xor.Goals as goal

pub differs-requires-clause-right : goal.differs-requires-clause-right
differs-requires-clause-right c =
    let lt : c.loop-arg.arg-index < length c.in-Some.rest.now = omega (arith, c.loop-arg-test.true) in
    next_kind true c.args.arena.now c.loop-arg.arena c.in-Some.rest.now c.loop-arg.arg-index 0 lt c.loop-arg.invariant.grows c.loop-arg.invariant.kinds

pub returns-in-Err-clause-answer : goal.returns-in-Err-clause-answer
returns-in-Err-clause-answer c =
    let lt : c.loop-arg.arg-index < length c.in-Some.rest.now = omega (arith, c.loop-arg-test.true) in
    λ x e. xor_stopped x true c.args.arena.now c.loop-arg.arena c.differs.new.arena c.in-Some.rest.now c.loop-arg.arg-index 0 c.loop-arg.made _ c.in-Err.fail lt c.loop-arg.invariant.grows c.loop-arg.invariant.kinds (c.loop-arg.invariant.rest x e) (c.in-Err.ensures.answer x e)

pub loop-arg-preserved : goal.loop-arg-preserved
loop-arg-preserved c =
    let lt : c.loop-arg.arg-index < length c.in-Some.rest.now = omega (arith, c.loop-arg-test.true) in
    record {
      rest = λ x e. xor_step x true c.args.arena.now c.loop-arg.arena c.differs.new.arena c.in-Some.rest.now c.loop-arg.arg-index 0 c.loop-arg.made c.in-Ok.number _ lt c.loop-arg.invariant.grows c.loop-arg.invariant.kinds (c.loop-arg.invariant.rest x e) (c.in-Ok.ensures.answer x e);
      grows = grows_trans c.args.arena.now c.loop-arg.arena c.differs.new.arena c.loop-arg.invariant.grows c.in-Ok.ensures.grows;
      kind = c.in-Ok.ensures.kind;
      below = c.in-Ok.ensures.below;
      kinds = (next_of_kind true c.args.arena.now c.in-Some.rest.now c.loop-arg.arg-index 0 lt c.loop-arg.invariant.kinds).2;
    }
