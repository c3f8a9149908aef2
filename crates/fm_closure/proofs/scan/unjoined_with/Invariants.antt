use Rattle.std.proofs.Common.{take}
use Rattle.std.specs.List.{All}
use Rattle.fm_closure.specs.Classes.{AreClosed}
use Rattle.fm_closure.proofs.scan.unjoined_with.Given as goal

abbrev pub invariant-loop-b : goal.invariant-loop-b
invariant-loop-b l = All (AreClosed l.objects.keys l.classes l.bank.terms l.a) (take l.b-index l.over)
