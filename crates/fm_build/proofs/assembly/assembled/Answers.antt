use Rattle.std.proofs.Common.{◌≡◌, List, ℕ, Bool, length, subst, ap, ◌∙◌}
use Rattle.fm_base.specs.declared.ids.TermId.{TermId}
use Rattle.fm_base.specs.declared.signature.Sig.{Sig}
use Rattle.fm_rounds.specs.Failing.{numbered_reps}
use Rattle.fm_build.specs.Built.{sizes_of}
use Rattle.fm_build.specs.Elements.{all_reps_by, elements_by}
use Rattle.fm_build.specs.Reached.{pairs_of}
use Rattle.fm_build.specs.Written.{AreWritten}
use Rattle.fm_build.proofs.Building.{built_is}
use Rattle.fm_build.proofs.assembly.assembled.Goals as goal

pub returns : goal.returns
returns c = λ content h.
    let b = c.args.bank.now in
    let class = c.args.class.now in
    let types = c.args.types.now in
    let holds = c.args.holds.now in
    let round = c.in_ok-round.round in
    let reps = c.in_ok-reps.reps in
    let elements = c.in_ok-elements.elements.items in
    let tables = c.in_ok-tables.tables in
    let sizes = c.in_ok-sizes.sizes in
    let reps_by : numbered_reps reps ≡ all_reps_by types round.reps.items b.sig.sorts = c.in_ok-reps.ensures ∙ ap (λ (l : List ℕ). all_reps_by types l c.sig.result.now.sorts) c.as_slice.ensures.value ∙ ap (λ (g : Sig). all_reps_by types round.reps.items g.sorts) c.sig.ensures in
    let valued : elements ≡ elements_by class types holds reps = c.in_ok-elements.ensures ∙ ap (λ (l : List (List TermId)). elements_by class types holds l) c.as_slice-2.ensures in
    let written : AreWritten b round.marks.items elements (length b.sig.ranks) tables =
    subst (λ (es : List ℕ). AreWritten b round.marks.items es (length b.sig.ranks) tables) c.as_slice-4.ensures.value
    (subst (λ (ms : List Bool). AreWritten b ms c.as_slice-4.result.now (length b.sig.ranks) tables) c.as_slice-3.ensures.value c.in_ok-tables.ensures) in
    let sized : sizes ≡ sizes_of reps = c.in_ok-sizes.ensures ∙ ap sizes_of c.as_slice-5.ensures in
    built_is b class types holds c.args.start.now (pairs_of c.args.added.now) content round reps elements tables sizes h c.in_ok-round.ensures.reached reps_by valued written sized
