use Rattle.std.proofs.Common.{◌≡◌, ◌<◌, ◌+◌, ◌-◌, ℕ, List, ap, sym, subst, ◌∙◌}
use Rattle.fm_bank.specs.Interning.{Held}
use Rattle.fm_steps.specs.Lemmas.{bounds_from}
use Rattle.fm_state.proofs.Summing.{before, bound_none, bound_on}
use Rattle.fm_state.proofs.lemmas.bounds.Goals as goal

pub returns-in-None : goal.returns-in-None
returns-in-None c =
    let s = c.args.state.now in
    let n = s.held.sig.sorts in
    let lt : c.loop-sort.sort < n = subst (λ m. c.loop-sort.sort < m) (ap (λ g. g.sorts) c.sig.ensures ∙ ap (λ (h : Held). h.sig.sorts) c.bank.ensures) c.loop-sort-test.true in
    bound_none s n c.loop-sort.sort c.loop-sort.numbers.items lt (sym c.in-None.is ∙ c.greatest_false.ensures) c.loop-sort.invariant

pub loop-sort-preserved : goal.loop-sort-preserved
loop-sort-preserved c =
    let s = c.args.state.now in
    let n = s.held.sig.sorts in
    let i = c.loop-sort.sort in
    let lt : i < n = subst (λ m. i < m) (ap (λ g. g.sorts) c.sig.ensures ∙ ap (λ (h : Held). h.sig.sorts) c.bank.ensures) c.loop-sort-test.true in
    subst (λ (ks : List ℕ). before ks (bounds_from s (i + 1) (n - (i + 1))) ≡ bounds_from s 0 n) (sym c.in_ok-push-in-Some.ensures.items)
    (bound_on s n i c.in-Some.number c.loop-sort.numbers.items lt (sym c.in-Some.is ∙ c.greatest_false.ensures) c.loop-sort.invariant)
