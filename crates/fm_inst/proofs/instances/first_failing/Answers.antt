use Rattle.std.proofs.Common.{◌≡◌, ◌<◌, List, length, refl, ap, sym, ◌∙◌, arith, Some}
use Rattle.std.specs.Option.{option_map}
use Rattle.std.proofs.lemmas.Option.{slice_get_read}
use Rattle.fm_base.specs.Interpretations.{reading_of}
use Rattle.fm_base.specs.declared.ids.SortId.{SortId}
use Rattle.fm_rounds.specs.Failing.{failing_tuple, named_of, numbered_reps}
use Rattle.fm_bank.specs.Terms.{numbers}
use Rattle.fm_inst.specs.Answers.{terms_of}
use Rattle.fm_inst.proofs.Naming.{all_named}
use Rattle.fm_rounds.proofs.FirstFailing.{found_here, instance_here, tuple_length}
use Rattle.fm_inst.proofs.instances.first_failing.Goals as goal

pub terms_of-requires : goal.terms_of-requires
terms_of-requires c =
    let m = reading_of c.args.interp.now in
    let clause = c.index-clauses-place.result in
    let e : failing_tuple m clause ≡ Some c.in-Some.tuple.items = sym c.in_ok-tuple.ensures ∙ ap (option_map (λ v. v.items)) c.in-Some.is in
    ap length c.as_slice-in-Some.ensures.value ∙ tuple_length m clause c.in-Some.tuple.items e ∙ sym (ap length c.as_slice.ensures)

pub returns-in-Some : goal.returns-in-Some
returns-in-Some c =
    let m = reading_of c.args.interp.now in
    let cs = c.args.clauses.now in
    let k = c.loop-place.place in
    let clause = c.index-clauses-place.result in
    let xs = c.in-Some.tuple.items in
    let lt : k < length cs = omega arith in
    let e : failing_tuple m clause ≡ Some xs = sym c.in_ok-tuple.ensures ∙ ap (option_map (λ v. v.items)) c.in-Some.is in
    let first = found_here m cs k clause xs lt c.loop-place.invariant.same c.index-clauses-place.is e in
    let stands = slice_get_read cs (length cs) k clause refl lt c.index-clauses-place.is in
    let reps = c.args.reps.now in
    let named : c.in_ok-terms.terms ≡ terms_of reps clause.vars xs = c.in_ok-terms.ensures ∙ ap (λ (ss : List SortId). terms_of reps ss c.as_slice-in-Some.result.now) c.as_slice.ensures ∙ ap (terms_of reps clause.vars) c.as_slice-in-Some.ensures.value in
    let terms : numbers c.in_ok-terms.terms ≡ named_of (numbered_reps reps) clause.vars xs = ap numbers named ∙ all_named reps clause.vars xs in
    ap (λ ts. Some (k, ts)) terms ∙ sym (instance_here m (numbered_reps reps) cs k clause xs first stands)
