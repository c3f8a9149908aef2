use Rattle.std.proofs.Common.{◌++◌, ap, ◌∙◌}
use Rattle.fm_steps.specs.Lemmas.{bounds_from}
use Rattle.fm_steps.specs.Menu.{bound_orders, card_orders, sum_offers_at}
use Rattle.fm_state.specs.Offers.{offers_in}
use Rattle.fm_state.proofs.Filling.{three_behind}
use Rattle.fm_state.proofs.standing.State.sum_offers.Goals as goal

pub returns : goal.returns
returns c =
    let s = c.args.self.now in
    let sums = sum_offers_at s (bounds_from s 0 s.held.sig.sorts) in
    let first = c.in_ok-put_sum.ensures ∙ ap (λ l. offers_in l ++ sums) c.new-offers.ensures.items in
    c.cut.ensures ∙ three_behind 1 (offers_in c.put_sum.new.offers.items) (offers_in c.put_card_orders.new.offers.items) (offers_in c.put_bound_orders.new.offers.items) sums (card_orders s) (bound_orders s) first c.in_ok-put_card_orders.ensures c.in_ok-put_bound_orders.ensures
