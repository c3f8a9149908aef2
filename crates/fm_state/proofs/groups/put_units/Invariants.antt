use Rattle.std.proofs.Common.{◌≡◌, ◌++◌, drop}
use Rattle.fm_steps.specs.Menu.{units_from}
use Rattle.fm_state.specs.Offers.{offers_in}
use Rattle.fm_state.proofs.groups.put_units.Given as goal

abbrev pub invariant-loop-number : goal.invariant-loop-number
invariant-loop-number l = offers_in l.offers.items ++ units_from l.number l.state.trail.entries (drop l.number l.state.clauses) ≡ offers_in l.fn.offers.items ++ units_from 0 l.state.trail.entries l.state.clauses
