use Rattle.std.proofs.Common.{◌≡◌, ◌++◌, drop, length}
use Rattle.std.specs.List.{flat_map, range_with_len}
use Rattle.fm_steps.specs.Menu.{card_order_at}
use Rattle.fm_state.specs.Groups.{card_orders_of}
use Rattle.fm_state.specs.Offers.{offers_in}
use Rattle.fm_state.proofs.orders.put_card_orders_of.Given as goal

abbrev pub invariant-loop-k : goal.invariant-loop-k
invariant-loop-k l = offers_in l.offers.items ++ flat_map (card_order_at l.state l.sort.0) (drop l.k (range_with_len 0 (length l.state.held.atoms))) ≡ offers_in l.fn.offers.items ++ card_orders_of l.state l.sort.0
