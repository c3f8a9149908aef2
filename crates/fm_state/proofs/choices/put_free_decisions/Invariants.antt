use Rattle.std.proofs.Common.{◌≡◌, ◌++◌, drop}
use Rattle.std.specs.List.{flat_map}
use Rattle.fm_steps.specs.Menu.{free_decision, free_decisions}
use Rattle.fm_state.specs.Offers.{offers_in}
use Rattle.fm_state.proofs.choices.put_free_decisions.Given as goal

abbrev pub invariant-loop-number : goal.invariant-loop-number
invariant-loop-number l = offers_in l.offers.items ++ flat_map (free_decision l.state) (drop l.number l.state.held.atoms) ≡ offers_in l.fn.offers.items ++ free_decisions l.state
