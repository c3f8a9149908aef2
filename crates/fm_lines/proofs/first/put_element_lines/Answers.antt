use Rattle.std.proofs.Common.{ℕ}
use Rattle.fm_cert.specs.declared.block.Line.{Line}
use Rattle.fm_steps.specs.Sizes.{sort}
use Rattle.fm_lines.proofs.Placed.{range_put}
use Rattle.fm_lines.proofs.first.put_element_lines.Goals as goal

pub loop-sort-preserved : goal.loop-sort-preserved
loop-sort-preserved c = range_put (λ (u : ℕ). Line.OrderZero (sort u)) c.args.lines.now.items c.loop-sort.lines.items c.push.new.self.items c.loop-sort.sort c.in_ok-push.ensures.items c.loop-sort.invariant
