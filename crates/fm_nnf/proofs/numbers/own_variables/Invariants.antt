use Rattle.std.proofs.Common.{◌≡◌, ◌++◌, zero, drop}
use Rattle.fm_nnf.specs.Lifting.{term_variables}
use Rattle.fm_nnf.proofs.numbers.own_variables.Given as goal

abbrev pub invariant-loop-i : goal.invariant-loop-i
invariant-loop-i l = l.terms.items ++ term_variables l.i (drop l.i l.vars) ≡ term_variables zero l.vars
