use Rattle.std.proofs.Common.{◌≡◌, ◌+◌}
use Rattle.fm_cells.specs.Forest.{height_of}
use Rattle.fm_cells.proofs.forest.depth.Given as goal

abbrev pub invariant-loop-above : goal.invariant-loop-above
invariant-loop-above l = l.count + height_of l.links l.at ≡ height_of l.links l.node

abbrev pub decreases-loop-above : goal.decreases-loop-above
decreases-loop-above l = height_of l.links l.at
