use Rattle.std.proofs.Common.{◌++◌, true, ap, sym, ◌∙◌}
use Rattle.std.proofs.lemmas.List.{append-nil}
use Rattle.fm_bank.specs.declared.atom.Atom.{Atom}
use Rattle.fm_steps.specs.Lemmas.{bounds_from}
use Rattle.fm_steps.specs.Sizes.{holds}
use Rattle.fm_state.specs.Offers.{offers_in}
use Rattle.fm_state.proofs.Summing.{no_sum}
use Rattle.fm_state.proofs.orders.put_sum.Goals as goal

pub returns-then-not-holds : goal.returns-then-not-holds
returns-then-not-holds c =
    let s = c.args.state.now in
    let old = offers_in c.args.offers.now.items in
    let untrue = ap (λ n. holds s true (Atom.Bound n)) (sym c.bound.ensures) ∙ sym c.holds.ensures ∙ c.if-not-holds.true in
    sym (append-nil old) ∙ ap (λ l. old ++ l) (sym (no_sum s (bounds_from s 0 s.held.sig.sorts) untrue))
