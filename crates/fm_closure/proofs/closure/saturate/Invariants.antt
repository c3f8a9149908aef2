use Rattle.std.proofs.Common.{◌≡◌, length, map}
use Rattle.fm_bank.specs.Closure.{shapes_of}
use Rattle.fm_bank.specs.Terms.{numbers}
use Rattle.fm_closure.specs.Classes.{AreSound, numbers_of, total}
use Rattle.fm_closure.proofs.closure.saturate.Given as goal

abbrev pub invariant-loop-c : goal.invariant-loop-c
invariant-loop-c l = record {
  whole : length l.classes ≡ length l.objects.keys;
  sound : AreSound (shapes_of l.bank.terms (numbers l.over)) (map numbers_of l.facts) l.objects.keys l.classes;
}

abbrev pub decreases-loop-c : goal.decreases-loop-c
decreases-loop-c l = total l.classes
