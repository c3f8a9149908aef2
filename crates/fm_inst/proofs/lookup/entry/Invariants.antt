use Rattle.std.proofs.Common.{◌-◌, ◌≤◌, length}
use Rattle.fm_rounds.proofs.Searches.{AreBelow, AreAbove}
use Rattle.fm_inst.proofs.lookup.entry.Given as goal

abbrev pub invariant-loop-low : goal.invariant-loop-low
invariant-loop-low l = record { within : l.high ≤ length l.except; below : AreBelow l.except l.low l.tuple; above : AreAbove l.except l.high l.tuple }

abbrev pub decreases-loop-low : goal.decreases-loop-low
decreases-loop-low l = l.high - l.low
