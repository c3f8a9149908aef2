use Rattle.std.proofs.Common.{◌≡◌, ◌++◌, ◌≤◌, drop}
use Rattle.fm_nnf.specs.Marked.{numbers_from}
use Rattle.fm_nnf.proofs.numbers.numbers_of.Given as goal

abbrev pub invariant-loop-mark : goal.invariant-loop-mark
invariant-loop-mark l = record {
  below : l.next ≤ l.mark-index;
  rest : l.numbers.items ++ numbers_from l.next (drop l.mark-index l.marks) ≡ numbers_from 0 l.marks;
}
