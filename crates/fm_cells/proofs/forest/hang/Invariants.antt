use Rattle.fm_cells.specs.Forest.{height_of}
use Rattle.fm_cells.specs.Logs.{HasLogged}
use Rattle.fm_cells.proofs.Hanging.{IsHangingForAll}
use Rattle.fm_cells.proofs.forest.hang.Given as goal

abbrev pub invariant-loop-above : goal.invariant-loop-above
invariant-loop-above l = record {
  hanging : IsHangingForAll l.fn.links.cells.items l.fn.node l.fn.edge l.links.cells.items l.at l.new;
  logged : HasLogged l.fn.links.log.items l.fn.links.cells.items l.links.log.items l.links.cells.items;
}

abbrev pub decreases-loop-above : goal.decreases-loop-above
decreases-loop-above l = height_of l.links.cells.items l.at
