use Rattle.fm_explain.specs.Explanations.{IsKnownBy}
use Rattle.fm_explain.proofs.tests.read_all.Given as goal

abbrev pub invariant-loop-item : goal.invariant-loop-item
invariant-loop-item l = IsKnownBy l.graph l.bank
