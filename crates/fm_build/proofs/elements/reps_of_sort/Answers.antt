use Rattle.std.proofs.Common.{true, false, [], ◌∷◌, ◌++◌, get_or, ap, sym, ◌∙◌}
use Rattle.std.proofs.lemmas.List.{map-append}
use Rattle.fm_base.specs.declared.ids.TermId.{TermId}
use Rattle.fm_bank.specs.Terms.{numbers}
use Rattle.fm_build.specs.Elements.{is_of_sort}
use Rattle.fm_build.proofs.Placing.{filter_next}
use Rattle.fm_build.proofs.elements.reps_of_sort.Goals as goal
use Rattle.fm_build.proofs.elements.reps_of_sort.Goals.{then-is_of_sort+in_ok-push, else-is_of_sort}

pub loop-rep-preserved : goal.loop-rep-preserved
loop-rep-preserved c =
    let reps = c.args.reps.now in
    let p = is_of_sort c.args.types.now c.args.sort in
    let i = c.loop-rep.rep-index in
    let x = get_or reps i 0 in
    let found = c.loop-rep.found in
    let inv = c.loop-rep.invariant in
    let lt = c.loop-rep-test.true in
    elim c.if-is_of_sort.branch [
      | then-is_of_sort+in_ok-push w ↦ ap numbers (w.found-is ∙ w.in_ok-push.ensures.ok) ∙ map-append (λ (t : TermId). t.0) found (record { 0 = x } ∷ []) ∙ ap (λ l. l ++ x ∷ []) inv ∙ sym (filter_next p reps i true lt (sym c.is_of_sort.ensures ∙ w.if-is_of_sort.true))
      | else-is_of_sort w ↦ ap numbers w.found-is ∙ inv ∙ sym (filter_next p reps i false lt (sym c.is_of_sort.ensures ∙ w.if-is_of_sort.false))
    ]
