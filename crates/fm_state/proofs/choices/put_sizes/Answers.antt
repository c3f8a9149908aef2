use Rattle.std.proofs.Common.{◌++◌, ◌<◌, ◌≤◌, ap, subst, ◌∙◌, drop}
use Rattle.std.specs.List.{flat_map, range_with_len}
use Rattle.fm_bank.specs.Interning.{Held}
use Rattle.fm_steps.specs.Menu.{size_decision, size_decisions}
use Rattle.fm_state.specs.Offers.{offers_in}
use Rattle.fm_state.proofs.Filling.{ended, flat_on, past_range, range_at}
use Rattle.fm_state.proofs.choices.put_sizes.Goals as goal

pub loop-sort-preserved : goal.loop-sort-preserved
loop-sort-preserved c =
    let s = c.args.state.now in
    let i = c.loop-sort.sort in
    let n = s.held.sig.sorts in
    let lt : i < n = subst (λ m. i < m) (ap (λ g. g.sorts) c.sig.ensures ∙ ap (λ (h : Held). h.sig.sorts) c.bank.ensures) c.loop-sort-test.true in
    flat_on (size_decision s) (range_with_len 0 n) i i (offers_in c.loop-sort.offers.items) (offers_in c.put_size.new.offers.items) (offers_in c.args.offers.now.items) (size_decisions s) (range_at n i lt) c.in_ok-put_size.ensures c.loop-sort.invariant

pub returns : goal.returns
returns c =
    let s = c.args.state.now in
    let i = c.loop-sort.sort in
    let n = s.held.sig.sorts in
    let past : n ≤ i = subst (λ m. m ≤ i) (ap (λ g. g.sorts) c.sig.ensures ∙ ap (λ (h : Held). h.sig.sorts) c.bank.ensures) c.loop-sort-test.false in
    ended c.args.limit (offers_in c.loop-sort.offers.items) (flat_map (size_decision s) (drop i (range_with_len 0 n))) (offers_in c.args.offers.now.items ++ size_decisions s) (past_range (size_decision s) n i past) c.loop-sort.invariant
