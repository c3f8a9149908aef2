use Rattle.std.proofs.Common.{◌≡◌, ◌++◌, zero, drop}
use Rattle.fm_nnf.specs.Lifting.{term_variables}
use Rattle.fm_nnf.specs.Marked.{marked}
use Rattle.fm_nnf.specs.Places.{kept}
use Rattle.fm_nnf.proofs.Renumbering.{from}
use Rattle.fm_nnf.proofs.numbers.kept_variables.Given as goal

abbrev pub invariant-loop-i : goal.invariant-loop-i
invariant-loop-i l = l.terms.items ++ kept (from (marked l.marks) l.i) (drop l.i (term_variables zero l.scope)) ≡ kept (marked l.marks) (term_variables zero l.scope)
