use Rattle.std.proofs.Common.{◌+◌}
use Rattle.fm_explain.proofs.Adding.{IsClimbing}
use Rattle.fm_explain.proofs.paths.add_path.Given as goal

abbrev pub invariant-loop-left : goal.invariant-loop-left
invariant-loop-left l = IsClimbing l.links l.fn.met.keys l.u l.v l.met.keys l.left l.right l.high l.low

abbrev pub decreases-loop-left : goal.decreases-loop-left
decreases-loop-left l = l.high + l.low
