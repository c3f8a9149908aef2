use Rattle.std.proofs.Common.{take}
use Rattle.std.specs.List.{All}
use Rattle.fm_closure.specs.Classes.{AreJoined}
use Rattle.fm_closure.proofs.scan.unjoined_fact.Given as goal

abbrev pub invariant-loop-x : goal.invariant-loop-x
invariant-loop-x l = All (AreJoined l.objects.keys l.classes) (take l.x-index l.facts)
