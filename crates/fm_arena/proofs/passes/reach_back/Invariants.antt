use Rattle.std.proofs.Common.{◌≡◌, ◌<◌, ◌≤◌, ◌+◌, ◌-◌, ℕ, List, length}
use Rattle.fm_arena.specs.Weights.{Weighed, Weights}
use Rattle.fm_arena.specs.Passes.{marks_weight}
use Rattle.fm_arena.proofs.passes.reach_back.Given as goal

abbrev pub invariant-loop-marks : goal.invariant-loop-marks
invariant-loop-marks l = record {
  few : (n : ℕ) → length l.fn.marks.items ≤ n → l.back < n → length l.marks.items ≤ n;
  weight : (fs : List Weighed) (n : ℕ) (w : Weights) → marks_weight fs n l.marks.items w ≡ marks_weight fs n l.fn.marks.items w;
}

abbrev pub decreases-loop-marks : goal.decreases-loop-marks
decreases-loop-marks l = l.back + 1 - length l.marks.items
