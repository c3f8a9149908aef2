use Rattle.std.proofs.Common.{◌≡◌, ◌++◌, ◌+◌, length, drop}
use Rattle.fm_nnf.specs.Bindings.{terms_of}
use Rattle.fm_nnf.specs.NormalForm.{all_variables}
use Rattle.fm_nnf.proofs.making.with_variables.Given as goal

abbrev pub invariant-loop-i : goal.invariant-loop-i
invariant-loop-i l = terms_of l.all.items ++ all_variables (length l.scope + l.i) (drop l.i l.vars) ≡ terms_of l.bindings ++ all_variables (length l.scope) l.vars
