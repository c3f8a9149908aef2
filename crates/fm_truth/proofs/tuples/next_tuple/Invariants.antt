use Rattle.std.proofs.Common.{◌≡◌, ◌+◌, ◌≤◌, ◌++◌, take, drop, length}
use Rattle.std.specs.Prelude.{None}
use Rattle.fm_base.specs.Interpretations.{reading_of}
use Rattle.fm_truth.specs.Tuples.{zeros, next_of, tuple_of}
use Rattle.fm_truth.proofs.tuples.next_tuple.Given as goal

abbrev pub invariant-loop-i : goal.invariant-loop-i
invariant-loop-i l = record {
  within : l.i ≤ length l.sorts;
  begun : take (l.depth + length l.sorts) l.vars ≡ take (l.depth + l.i) l.fn.vars ++ zeros (drop l.i l.sorts);
  ends : next_of (reading_of l.interp) (drop l.i l.sorts) (drop l.i (tuple_of l.sorts l.depth l.fn.vars)) ≡ None;
  same : take l.depth l.vars ≡ take l.depth l.fn.vars;
}

abbrev pub decreases-loop-i : goal.decreases-loop-i
decreases-loop-i l = l.i
