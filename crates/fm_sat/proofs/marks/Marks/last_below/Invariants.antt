use Rattle.std.proofs.Common.{◌<◌, ◌≤◌, ℕ}
use Rattle.fm_sat.specs.Marks.{IsMarked}
use Rattle.fm_sat.proofs.marks.Marks.last_below.Given as goal

abbrev pub invariant-loop-place : goal.invariant-loop-place
invariant-loop-place l = record {
  within : l.place ≤ l.bound;
  above : (q : ℕ) → IsMarked l.self.marks.items q → q < l.bound → q < l.place;
}

abbrev pub decreases-loop-place : goal.decreases-loop-place
decreases-loop-place l = l.place
