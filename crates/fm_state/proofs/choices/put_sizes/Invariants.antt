use Rattle.std.proofs.Common.{◌≡◌, ◌++◌, drop}
use Rattle.std.specs.List.{flat_map, range_with_len}
use Rattle.fm_steps.specs.Menu.{size_decision, size_decisions}
use Rattle.fm_state.specs.Offers.{offers_in}
use Rattle.fm_state.proofs.choices.put_sizes.Given as goal

abbrev pub invariant-loop-sort : goal.invariant-loop-sort
invariant-loop-sort l = offers_in l.offers.items ++ flat_map (size_decision l.state) (drop l.sort (range_with_len 0 l.state.held.sig.sorts)) ≡ offers_in l.fn.offers.items ++ size_decisions l.state
