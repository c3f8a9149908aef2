use Rattle.std.proofs.Common.{take}
use Rattle.fm_closure.specs.Classes.{KeepsObjects}
use Rattle.fm_closure.specs.Signatures.{AllHaveArguments}
use Rattle.fm_closure.proofs.objects.put_arguments.Given as goal

abbrev pub invariant-loop-term : goal.invariant-loop-term
invariant-loop-term l = record {
  there : AllHaveArguments l.objects.keys l.bank.terms (take l.term-index l.terms);
  kept : KeepsObjects l.fn.objects.keys l.objects.keys;
}
