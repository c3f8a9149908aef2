use Rattle.std.proofs.Common.{◌≡◌, ◌++◌, take}
use Rattle.std.specs.List.{flat_map, range_with_len}
use Rattle.fm_state.specs.Groups.{card_orders_of}
use Rattle.fm_state.specs.Offers.{offers_in}
use Rattle.fm_state.proofs.orders.put_card_orders.Given as goal

abbrev pub invariant-loop-sort : goal.invariant-loop-sort
invariant-loop-sort l = take l.limit (offers_in l.offers.items) ≡ take l.limit (offers_in l.fn.offers.items ++ flat_map (card_orders_of l.state) (take l.sort (range_with_len 0 l.state.held.sig.sorts)))
