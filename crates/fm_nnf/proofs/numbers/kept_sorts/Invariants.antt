use Rattle.std.proofs.Common.{◌≡◌, ◌++◌, drop}
use Rattle.fm_nnf.specs.Marked.{marked}
use Rattle.fm_nnf.specs.Places.{kept}
use Rattle.fm_nnf.proofs.Renumbering.{from}
use Rattle.fm_nnf.proofs.numbers.kept_sorts.Given as goal

abbrev pub invariant-loop-i : goal.invariant-loop-i
invariant-loop-i l = l.sorts.items ++ kept (from (marked l.marks) l.i) (drop l.i l.scope) ≡ kept (marked l.marks) l.scope
