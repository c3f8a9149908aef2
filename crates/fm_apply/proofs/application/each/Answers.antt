use Rattle.std.proofs.Common.{arith}
use Rattle.fm_apply.proofs.Chaining.{each_step}
use Rattle.fm_apply.proofs.application.each.Goals as goal

pub loop-arg-preserved : goal.loop-arg-preserved
loop-arg-preserved c = each_step c.args.ty c.loop-arg.types.items c.push.new.self.items c.args.args.now c.loop-arg.arg-index _ (omega (arith, c.loop-arg-test.true)) c.in_ok-push.ensures.items c.loop-arg.invariant
