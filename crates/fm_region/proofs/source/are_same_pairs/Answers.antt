use Rattle.std.proofs.Common.{refl, arith}
use Rattle.fm_region.proofs.Making.{same_list}
use Rattle.fm_region.proofs.source.are_same_pairs.Goals as goal

pub returns : goal.returns
returns c = (λ t. same_list c.args.a.now c.args.b.now (omega (arith, c.if-a-b.false)) (λ k d lt. c.loop-i.invariant k d (omega (arith, lt, c.loop-i-test.false))), λ e. refl)
