use Rattle.std.proofs.Common.{take}
use Rattle.fm_closure.specs.Signatures.{FactsAreDone, IsPass}
use Rattle.fm_closure.proofs.passes.join_facts.Given as goal

abbrev pub invariant-loop-fact : goal.invariant-loop-fact
invariant-loop-fact l = record {
  pass : IsPass l.objects.keys l._bank.terms l._over l.facts l.fn.classes l.classes l.changed;
  done : FactsAreDone l.objects.keys (take l.fact-index l.facts) l.classes l.changed;
}
