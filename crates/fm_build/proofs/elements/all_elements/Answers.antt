use Rattle.std.proofs.Common.{[], ◌∷◌, ◌++◌, ap, sym, ◌∙◌}
use Rattle.fm_build.specs.Elements.{element_by}
use Rattle.fm_build.proofs.Placing.{map_next}
use Rattle.fm_build.proofs.elements.all_elements.Goals as goal

pub loop-term-preserved : goal.loop-term-preserved
loop-term-preserved c =
    let f = element_by c.args.class.now c.args.types.now c.args.holds.now c.args.reps.now in
    let old = c.loop-term.elements.items in
    c.in_ok-push.ensures.items ∙ ap (λ x. old ++ x ∷ []) c.element-element.ensures ∙ ap (λ l. l ++ f c.loop-term.term ∷ []) c.loop-term.invariant ∙ sym (map_next f c.loop-term.term)
