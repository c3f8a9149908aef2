use Rattle.std.proofs.Common.{[], ◌∷◌, ◌++◌, ap, sym, ◌∙◌}
use Rattle.std.proofs.lemmas.List.{map-append}
use Rattle.fm_bank.specs.Terms.{numbers}
use Rattle.fm_rounds.specs.Failing.{numbered_reps}
use Rattle.fm_build.specs.Elements.{reps_by}
use Rattle.fm_build.proofs.Placing.{map_next}
use Rattle.fm_build.proofs.elements.reps_by_sort.Goals as goal

pub loop-sort-preserved : goal.loop-sort-preserved
loop-sort-preserved c =
    let all = c.loop-sort.all in
    let found = c.in_ok-found.found in
    let f = reps_by c.args.types.now c.args.reps.now in
    ap numbered_reps c.in_ok-push.ensures.ok ∙ map-append numbers all (found ∷ []) ∙ ap (λ x. numbered_reps all ++ x ∷ []) c.in_ok-found.ensures ∙ ap (λ l. l ++ f c.loop-sort.sort ∷ []) c.loop-sort.invariant ∙ sym (map_next f c.loop-sort.sort)
