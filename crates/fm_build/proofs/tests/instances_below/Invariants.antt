use Rattle.std.proofs.Common.{drop}
use Rattle.fm_build.specs.Reached.{AreInstancesBelow}
use Rattle.fm_build.proofs.tests.instances_below.Given as goal

-- where the rest is below, all are
abbrev pub invariant-loop-instance : goal.invariant-loop-instance
invariant-loop-instance l = AreInstancesBelow l.count (drop l.instance-index l.added) → AreInstancesBelow l.count l.added
