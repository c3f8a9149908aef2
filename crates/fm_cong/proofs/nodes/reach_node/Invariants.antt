use Rattle.std.proofs.Common.{◌+◌, ◌-◌}
use Rattle.fm_cong.specs.Levels.{KeepsAll}
use Rattle.fm_cong.specs.States.{count_of}
use Rattle.fm_cong.proofs.nodes.reach_node.Given as goal

abbrev pub invariant-loop-state : goal.invariant-loop-state
invariant-loop-state l = record { keeps : KeepsAll l.fn.state l.state }

abbrev pub decreases-loop-state : goal.decreases-loop-state
decreases-loop-state l = l.node + 1 - count_of l.state
