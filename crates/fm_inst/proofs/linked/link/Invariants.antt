use Rattle.std.proofs.Common.{◌≤◌, length}
use Rattle.fm_inst.specs.Levels.{AreLinked}
use Rattle.fm_inst.proofs.linked.link.Given as goal

abbrev pub invariant-loop-left : goal.invariant-loop-left
invariant-loop-left l = record {
  within : l.left ≤ length l.depths;
  linked : AreLinked l.depths l.count l.left l.first l.next;
}

abbrev pub decreases-loop-left : goal.decreases-loop-left
decreases-loop-left l = l.left
