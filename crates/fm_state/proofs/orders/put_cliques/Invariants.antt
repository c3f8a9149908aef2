use Rattle.std.proofs.Common.{◌≡◌, ◌++◌, drop}
use Rattle.fm_steps.specs.Menu.{cliques_from}
use Rattle.fm_state.specs.Offers.{offers_in}
use Rattle.fm_state.proofs.orders.put_cliques.Given as goal

abbrev pub invariant-loop-sort : goal.invariant-loop-sort
invariant-loop-sort l = offers_in l.offers.items ++ cliques_from l.state l.sort (drop l.sort l.state.picks) ≡ offers_in l.fn.offers.items ++ cliques_from l.state 0 l.state.picks
