use Rattle.std.proofs.Common.{◌≤◌, length}
use Rattle.fm_sat.specs.Learning.{Derives}
use Rattle.fm_sat.specs.Marks.{AreBelow, AreCounted, marked}
use Rattle.fm_sat.proofs.store.Store.walk_back.Given as goal

abbrev pub invariant-loop-marks : goal.invariant-loop-marks
invariant-loop-marks l = record {
  derived : Derives l.keep l.self.clauses l.trail.entries (marked l.fn.marks.marks.items l.trail.entries) l.steps.items (marked l.marks.marks.items l.trail.entries);
  counted : AreCounted l.trail.entries l.top l.marks.marks.items l.marks.count l.marks.lower.items;
  some : l.keep ≤ l.marks.count;
  below : AreBelow l.marks.marks.items l.end;
  within : l.end ≤ length l.trail.entries;
}

abbrev pub decreases-loop-marks : goal.decreases-loop-marks
decreases-loop-marks l = l.end
