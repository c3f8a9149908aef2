use Rattle.std.proofs.Common.{◌++◌, ◌<◌, ◌≤◌, drop, arith}
use Rattle.std.specs.List.{flat_map, range_with_len}
use Rattle.fm_steps.specs.Menu.{bound_order_at, bound_orders}
use Rattle.fm_state.specs.Offers.{offers_in}
use Rattle.fm_state.proofs.Filling.{ended, flat_on, past_range, range_at}
use Rattle.fm_state.proofs.orders.put_bound_orders.Goals as goal

pub loop-n-preserved : goal.loop-n-preserved
loop-n-preserved c =
    let s = c.args.state.now in
    let i = c.loop-n.n in
    let lt : i < s.bound = omega (arith, c.bound-n-end.ensures) in
    flat_on (bound_order_at s) (range_with_len 0 s.bound) i i (offers_in c.loop-n.offers.items) (offers_in c.put_bound_order.new.offers.items) (offers_in c.args.offers.now.items) (bound_orders s) (range_at s.bound i lt) c.in_ok-put_bound_order.ensures c.loop-n.invariant

pub returns : goal.returns
returns c =
    let s = c.args.state.now in
    let past : s.bound ≤ c.loop-n.n = omega (arith, c.bound-n-end.ensures) in
    ended c.args.limit (offers_in c.loop-n.offers.items) (flat_map (bound_order_at s) (drop c.loop-n.n (range_with_len 0 s.bound))) (offers_in c.args.offers.now.items ++ bound_orders s) (past_range (bound_order_at s) s.bound c.loop-n.n past) c.loop-n.invariant
