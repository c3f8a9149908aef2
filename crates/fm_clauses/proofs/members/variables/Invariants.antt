use Rattle.std.proofs.Common.{◌≡◌, ◌++◌, drop}
use Rattle.fm_nnf.specs.NormalForm.{all_variables}
use Rattle.fm_clauses.proofs.members.variables.Given as goal

abbrev pub invariant-loop-i : goal.invariant-loop-i
invariant-loop-i l = l.made.items ++ all_variables l.i (drop l.i l.scope) ≡ all_variables 0 l.scope
