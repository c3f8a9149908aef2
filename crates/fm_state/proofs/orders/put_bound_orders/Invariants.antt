use Rattle.std.proofs.Common.{◌≡◌, ◌++◌, drop}
use Rattle.std.specs.List.{flat_map, range_with_len}
use Rattle.fm_steps.specs.Menu.{bound_order_at, bound_orders}
use Rattle.fm_state.specs.Offers.{offers_in}
use Rattle.fm_state.proofs.orders.put_bound_orders.Given as goal

abbrev pub invariant-loop-n : goal.invariant-loop-n
invariant-loop-n l = offers_in l.offers.items ++ flat_map (bound_order_at l.state) (drop l.n (range_with_len 0 l.state.bound)) ≡ offers_in l.fn.offers.items ++ bound_orders l.state
