use Rattle.std.proofs.Common.{◌++◌, ◌<◌, ◌≤◌, ap, sym, subst, ◌∙◌, drop, length, arith}
use Rattle.std.specs.List.{flat_map, range_with_len}
use Rattle.fm_bank.specs.Interning.{Held}
use Rattle.fm_steps.specs.Menu.{card_order_at}
use Rattle.fm_state.specs.Groups.{card_orders_of}
use Rattle.fm_state.specs.Offers.{offers_in}
use Rattle.fm_state.proofs.Filling.{ended, flat_on, past_range, range_at}
use Rattle.fm_state.proofs.Rows.{none_behind}
use Rattle.fm_state.proofs.orders.put_card_orders_of.Goals as goal

pub loop-k-preserved : goal.loop-k-preserved
loop-k-preserved c =
    let s = c.args.state.now in
    let u = c.args.sort.0 in
    let i = c.loop-k.k in
    let n = length s.held.atoms in
    let lt : i < n = subst (λ m. i < m) (c.atoms-k-end.ensures ∙ ap (λ (h : Held). length h.atoms) c.bank.ensures) c.loop-k-test.true in
    flat_on (card_order_at s u) (range_with_len 0 n) i i (offers_in c.loop-k.offers.items) (offers_in c.put_card_order.new.offers.items) (offers_in c.args.offers.now.items) (card_orders_of s u) (range_at n i lt) c.in_ok-put_card_order.ensures c.loop-k.invariant

pub returns : goal.returns
returns c =
    let s = c.args.state.now in
    let u = c.args.sort.0 in
    let n = length s.held.atoms in
    let many = c.atoms-k-end.ensures ∙ ap (λ (h : Held). length h.atoms) c.bank.ensures in
    let past : n ≤ c.loop-k.k = omega (arith, many) in
    ended c.args.limit (offers_in c.loop-k.offers.items) (flat_map (card_order_at s u) (drop c.loop-k.k (range_with_len 0 n))) (offers_in c.args.offers.now.items ++ card_orders_of s u) (past_range (card_order_at s u) n c.loop-k.k past) c.loop-k.invariant

pub returns-then-not-is_known : goal.returns-then-not-is_known
returns-then-not-is_known c =
    let s = c.args.state.now in
    let u = c.args.sort.0 in
    let n = length s.held.atoms in
    let none = none_behind s u c.requires c.loop-k.k n (sym c.is_known.ensures ∙ c.if-not-is_known.true) in
    ended c.args.limit (offers_in c.loop-k.offers.items) (flat_map (card_order_at s u) (drop c.loop-k.k (range_with_len 0 n))) (offers_in c.args.offers.now.items ++ card_orders_of s u) none c.loop-k.invariant
