use Rattle.std.proofs.Common.{ℕ, ◌≤◌, ◌<◌}
use Rattle.fm_cells.specs.Apart.{IsLonger, KeepsSound}
use Rattle.fm_cells.specs.Rings.{own_or}
use Rattle.fm_cells.proofs.Keying.{IsEnteredMove}
use Rattle.fm_cells.proofs.apart.enter_moved.Given as goal

abbrev pub invariant-loop-at : goal.invariant-loop-at
invariant-loop-at l = record {
  keys : IsLonger l.fn.keys.keys l.keys.keys;
  sound : KeepsSound (own_or l.class.cells.items) l.pairs l.fn.keys.keys l.keys.keys;
  entered : (k : ℕ) → l.from ≤ k → k < l.at → IsEnteredMove (own_or l.class.cells.items) l.pairs l.sides l.keys.keys l.joined l.class.log.items k;
}
