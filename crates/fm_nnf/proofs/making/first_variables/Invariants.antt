use Rattle.std.proofs.Common.{◌≡◌}
use Rattle.fm_nnf.specs.Bindings.{first_variables}
use Rattle.fm_nnf.proofs.making.first_variables.Given as goal

abbrev pub invariant-loop-i : goal.invariant-loop-i
invariant-loop-i l = l.made.items ≡ first_variables l.i
