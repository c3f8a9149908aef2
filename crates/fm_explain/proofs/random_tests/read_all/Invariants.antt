use Rattle.fm_explain.specs.Explanations.{IsKnownBy}
use Rattle.fm_explain.proofs.random_tests.read_all.Given as goal

abbrev pub invariant-loop-lit : goal.invariant-loop-lit
invariant-loop-lit l = IsKnownBy l.graph l.bank
