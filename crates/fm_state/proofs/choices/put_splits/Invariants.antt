use Rattle.std.proofs.Common.{◌≡◌, ◌++◌, drop}
use Rattle.std.specs.List.{flat_map}
use Rattle.fm_steps.specs.Menu.{split_offers}
use Rattle.fm_state.specs.Groups.{split_all}
use Rattle.fm_state.specs.Offers.{offers_in}
use Rattle.fm_state.proofs.choices.put_splits.Given as goal

abbrev pub invariant-loop-sort : goal.invariant-loop-sort
invariant-loop-sort l = offers_in l.offers.items ++ flat_map (split_offers l.state) (drop l.sort l.state.picks) ≡ offers_in l.fn.offers.items ++ split_all l.state
