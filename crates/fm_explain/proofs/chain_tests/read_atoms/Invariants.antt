use Rattle.fm_explain.specs.Explanations.{IsKnownBy}
use Rattle.fm_explain.proofs.chain_tests.read_atoms.Given as goal

abbrev pub invariant-loop-i : goal.invariant-loop-i
invariant-loop-i l = IsKnownBy l.graph l.bank
