use Rattle.fm_explain.specs.Explanations.{IsKnownBy}
use Rattle.fm_explain.proofs.tests.register_all.Given as goal

abbrev pub invariant-loop-i : goal.invariant-loop-i
invariant-loop-i g l = IsKnownBy l.graph l.bank
