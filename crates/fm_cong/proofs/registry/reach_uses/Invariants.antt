use Rattle.std.proofs.Common.{◌-◌, length}
use Rattle.fm_cong.specs.Growth.{HasMoreUses}
use Rattle.fm_cong.proofs.registry.reach_uses.Given as goal

abbrev pub invariant-loop-alloc : goal.invariant-loop-alloc
invariant-loop-alloc l = record { kept : HasMoreUses l.fn.uses.items l.uses.items }

abbrev pub decreases-loop-alloc : goal.decreases-loop-alloc
decreases-loop-alloc l = l.count - length l.uses.items
