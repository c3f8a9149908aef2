use Rattle.std.proofs.Common.{ℕ, ◌+◌, List, sym, ap, ◌∙◌, arith}
use Rattle.fm_state.specs.Begins.{between}
use Rattle.fm_steps.specs.Start.{with_elements}
use Rattle.fm_steps.specs.State.{State}
use Rattle.fm_state.proofs.Starting.{between_more}
use Rattle.fm_state.proofs.standing.State.add_elements.Goals as goal

pub loop-sort-preserved : goal.loop-sort-preserved
loop-sort-preserved c =
    let u = c.loop-sort.sort in
    let m = c.args.sorts in
    let v = c.loop-sort.invariant in
    let next = between_more u m (omega (arith, c.loop-sort-test.true)) in
    let after = c.in_ok-add_lemma.ensures in
    record {
      sorts = v.sorts ∙ sym (ap (λ (x : State). x.held.sig.sorts) after);
      rest = ap (with_elements (between (u + 1) m)) after ∙ (sym (ap (λ (us : List ℕ). with_elements us c.loop-sort.self) next) ∙ v.rest);
    }
