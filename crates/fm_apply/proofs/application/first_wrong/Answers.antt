use Rattle.std.proofs.Common.{arith}
use Rattle.fm_base.specs.declared.signature.Ty.{Ty}
use Rattle.fm_apply.proofs.Applying.{wrong_next}
use Rattle.fm_apply.proofs.application.first_wrong.Goals as goal

pub loop-i-preserved : goal.loop-i-preserved
loop-i-preserved c =
    wrong_next c.args.arena.now c.args.types.now c.args.args.now c.args.items.now c.loop-i.i Ty.Bool 0 c.ty.result c.same_type.result _ (omega (arith, c.loop-i-test.true)) c.requires.args c.requires.items c.ty.ensures c.same_type.ensures c.if-not-same_type.false c.loop-i.invariant
