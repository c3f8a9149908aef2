use Rattle.std.proofs.Common.{ℕ, ◌<◌, ◌≤◌, ◌-◌, length, get_or}
use Rattle.fm_base.specs.declared.ids.TermId.{TermId}
use Rattle.fm_cells.proofs.ascending.place.Given as goal

abbrev pub invariant-loop-low : goal.invariant-loop-low
invariant-loop-low l = record {
  ordered : l.low ≤ l.high;
  inside : l.high ≤ length l.terms;
  below : (k : ℕ) (d : TermId) → k < l.low → (get_or l.terms k d).0 < l.number;
  above : (k : ℕ) (d : TermId) → l.high ≤ k → k < length l.terms → l.number ≤ (get_or l.terms k d).0;
}

abbrev pub decreases-loop-low : goal.decreases-loop-low
decreases-loop-low l = l.high - l.low
