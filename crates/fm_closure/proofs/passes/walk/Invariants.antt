use Rattle.fm_closure.specs.Signatures.{IsPass, IsTabled}
use Rattle.fm_closure.proofs.passes.walk.Given as goal

abbrev pub invariant-loop-a : goal.invariant-loop-a
invariant-loop-a l = record {
  pass : IsPass l.objects.keys l.bank.terms l.over l._facts l.fn.classes l.classes l.changed;
  tabled : IsTabled l.objects.keys l.bank.terms l.over l.fn.classes l.changed l.table.entries l.a-index;
}
