use Rattle.std.proofs.Common.{◌++◌, ◌<◌, ◌≤◌, ap, sym, subst, ◌∙◌, take, length}
use Rattle.std.specs.List.{flat_map, range_with_len}
use Rattle.std.proofs.lemmas.List.{take_all}
use Rattle.std.proofs.lemmas.List.FromFn.{length-range_with_len}
use Rattle.fm_bank.specs.Interning.{Held}
use Rattle.fm_state.specs.Groups.{card_orders_of}
use Rattle.fm_state.specs.Offers.{offers_in}
use Rattle.fm_state.proofs.Filling.{filled_on}
use Rattle.fm_state.proofs.orders.put_card_orders.Goals as goal

pub loop-sort-preserved : goal.loop-sort-preserved
loop-sort-preserved c =
    let s = c.args.state.now in
    let i = c.loop-sort.sort in
    let lt : i < s.held.sig.sorts = subst (λ n. i < n) (ap (λ g. g.sorts) c.sig.ensures ∙ ap (λ (h : Held). h.sig.sorts) c.bank.ensures) c.loop-sort-test.true in
    filled_on (card_orders_of s) c.args.limit s.held.sig.sorts i (offers_in c.loop-sort.offers.items) (offers_in c.put_card_orders_of.new.offers.items) (offers_in c.args.offers.now.items) lt c.loop-sort.invariant c.in_ok-put_card_orders_of.ensures

pub returns : goal.returns
returns c =
    let s = c.args.state.now in
    let us = range_with_len 0 s.held.sig.sorts in
    let many = ap (λ g. g.sorts) c.sig.ensures ∙ ap (λ (h : Held). h.sig.sorts) c.bank.ensures in
    let past : length us ≤ c.loop-sort.sort = subst (λ n. n ≤ c.loop-sort.sort) (many ∙ sym (length-range_with_len 0 s.held.sig.sorts)) c.loop-sort-test.false in
    c.loop-sort.invariant ∙ ap (λ l. take c.args.limit (offers_in c.args.offers.now.items ++ flat_map (card_orders_of s) l)) (take_all c.loop-sort.sort us past)
