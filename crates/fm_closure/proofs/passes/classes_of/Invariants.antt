use Rattle.std.proofs.Common.{◌≡◌, map, take}
use Rattle.fm_bank.specs.Terms.{numbers}
use Rattle.fm_closure.specs.Signatures.{class_of_term}
use Rattle.fm_closure.proofs.passes.classes_of.Given as goal

abbrev pub invariant-loop-term : goal.invariant-loop-term
invariant-loop-term l = l.args.items ≡ map (class_of_term l.objects.keys l.classes) (numbers (take l.term-index l.terms))
