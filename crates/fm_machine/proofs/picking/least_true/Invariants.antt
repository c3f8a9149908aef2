use Rattle.std.proofs.Common.{◌≡◌, drop}
use Rattle.fm_steps.specs.Sizes.{least, least_true}
use Rattle.fm_machine.specs.Settling.{both}
use Rattle.fm_machine.proofs.Bounds.{numbers_from}
use Rattle.fm_machine.proofs.picking.least_true.Given as goal

-- the least of what was found and of what is left is that of all
abbrev pub invariant-loop-id : goal.invariant-loop-id
invariant-loop-id l = both l.found (least (numbers_from l.state l.sort.0 (drop l.id l.state.held.atoms))) ≡ least_true l.state l.sort.0
