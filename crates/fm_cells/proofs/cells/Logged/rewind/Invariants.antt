use Rattle.std.proofs.Common.{◌≡◌, ◌≤◌, length, take, drop}
use Rattle.fm_cells.specs.Logs.{restored}
use Rattle.fm_cells.proofs.cells.Logged.rewind.Given as goal

abbrev pub invariant-loop-self : goal.invariant-loop-self
invariant-loop-self g l = record {
  log : l.self.log.items ≡ take (length l.self.log.items) l.fn.self.log.items;
  left : l.to ≤ length l.self.log.items;
  cells : l.self.cells.items ≡ restored (drop (length l.self.log.items) l.fn.self.log.items) l.fn.self.cells.items;
}

abbrev pub decreases-loop-self : goal.decreases-loop-self
decreases-loop-self g l = length l.self.log.items
