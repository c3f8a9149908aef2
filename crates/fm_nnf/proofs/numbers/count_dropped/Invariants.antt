use Rattle.std.proofs.Common.{◌≡◌, ◌+◌, ◌≤◌, drop}
use Rattle.fm_nnf.specs.Marked.{dropped_of}
use Rattle.fm_nnf.proofs.numbers.count_dropped.Given as goal

abbrev pub invariant-loop-mark : goal.invariant-loop-mark
invariant-loop-mark l = record {
  below : l.count ≤ l.mark-index;
  rest : l.count + dropped_of (drop l.mark-index l.marks) ≡ dropped_of l.marks;
}
