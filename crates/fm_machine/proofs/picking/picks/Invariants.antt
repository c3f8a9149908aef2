use Rattle.fm_machine.specs.Settling.{ArePicksBelow}
use Rattle.fm_machine.proofs.picking.picks.Given as goal

abbrev pub invariant-loop-sort : goal.invariant-loop-sort
invariant-loop-sort l = ArePicksBelow l.search.state l.search.regions l.sort l.picks.items
