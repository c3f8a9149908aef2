use Rattle.std.proofs.Common.{◌+◌, ◌-◌, length}
use Rattle.fm_cong.specs.Growth.{SayTheSame}
use Rattle.fm_cong.proofs.registry.reach_flag.Given as goal

abbrev pub invariant-loop-flags : goal.invariant-loop-flags
invariant-loop-flags l = record { same : SayTheSame l.fn.flags.items l.flags.items }

abbrev pub decreases-loop-flags : goal.decreases-loop-flags
decreases-loop-flags l = l.number + 1 - length l.flags.items
