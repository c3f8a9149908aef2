use Rattle.std.proofs.Common.{ℕ, true, List, [], ◌∷◌, ◌++◌, sym, ap, ◌∙◌}
use Rattle.fm_bank.specs.declared.literal.Literal.{Literal}
use Rattle.fm_steps.specs.Sizes.{card, lit}
use Rattle.fm_state.proofs.Starting.{map_next}
use Rattle.fm_state.proofs.start.first_sum.Goals as goal

pub loop-sort-preserved : goal.loop-sort-preserved
loop-sort-preserved c =
    let n = c.loop-sort.sort in
    c.in_ok-push.ensures.items ∙ (ap (λ (ls : List Literal). ls ++ lit true (card n 0) ∷ []) c.loop-sort.invariant ∙ sym (map_next (λ (u : ℕ). lit true (card u 0)) n))
