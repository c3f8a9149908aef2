use Rattle.std.proofs.Common.{take}
use Rattle.std.specs.List.{All}
use Rattle.fm_base.specs.declared.ids.TermId.{TermId}
use Rattle.fm_closure.specs.Classes.{AreClosed}
use Rattle.fm_closure.proofs.scan.unjoined_congruence.Given as goal

abbrev pub invariant-loop-a : goal.invariant-loop-a
invariant-loop-a l = All (λ (a : TermId). All (AreClosed l.objects.keys l.classes l.bank.terms a) l.over) (take l.a-index l.over)
