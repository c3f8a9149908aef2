use Rattle.std.proofs.Common.{◌≡◌, length}
use Rattle.fm_closure.specs.Classes.{AreSoundOver}
use Rattle.fm_closure.specs.Members.{kinds}
use Rattle.fm_closure.proofs.passes.pass_until_done.Given as goal

abbrev pub invariant-loop-some : goal.invariant-loop-some
invariant-loop-some l = record {
  whole : length l.classes ≡ length l.objects.keys;
  sound : AreSoundOver l.bank.terms l.over l.facts l.objects.keys l.classes;
}

abbrev pub decreases-loop-some : goal.decreases-loop-some
decreases-loop-some l = kinds l.classes
