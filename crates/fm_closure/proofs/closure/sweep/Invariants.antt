use Rattle.std.proofs.Common.{◌≡◌, ◌≤◌, length}
use Rattle.fm_closure.specs.Classes.{AreSoundOver, total}
use Rattle.fm_closure.proofs.closure.sweep.Given as goal

abbrev pub invariant-loop-a : goal.invariant-loop-a
invariant-loop-a l = record {
  whole : length l.classes ≡ length l.objects.keys;
  sound : AreSoundOver l.bank.terms l.over l.facts l.objects.keys l.classes;
  falls : total l.classes ≤ total l.fn.classes;
}
