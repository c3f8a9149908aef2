use Rattle.std.proofs.Common.{ℕ, []}
use Rattle.fm_lines.proofs.Placed.{range_put}
use Rattle.fm_lines.proofs.first.zeros.Goals as goal

pub loop-place-preserved : goal.loop-place-preserved
loop-place-preserved c = range_put (λ (u : ℕ). 0) [] c.loop-place.found.items c.push.new.self.items c.loop-place._place c.in_ok-push.ensures.items c.loop-place.invariant
