use Rattle.std.proofs.Common.{◌≡◌, Some, sym, ap, ◌∙◌}
use Rattle.std.specs.Option.{option_map}
use Rattle.std.proofs.lemmas.Option.{slice_get_within}
use Rattle.fm_bank.specs.Interning.{Held, find_atom}
use Rattle.fm_trail.proofs.Places.{place_some}
use Rattle.fm_steps.specs.Sizes.{is_refuted_by}
use Rattle.fm_steps.specs.State.{Trail}
use Rattle.fm_state.proofs.Finding.{refuted_at, refuted_found, refuted_none}
use Rattle.fm_state.proofs.sizes.is_refuted.Goals as goal

pub entry-requires : goal.entry-requires
entry-requires c =
    let s = place_some c.trail-trail.result.now.entries c.in-Some.id c.in-Some-place.place (sym c.place.ensures ∙ c.in-Some-place.is) in
    slice_get_within c.trail-trail.result.now.entries c.in-Some-place.place s.entry s.there

pub returns-in-None-place : goal.returns-in-None-place
returns-in-None-place c =
    let s = c.args.state.now in
    let found : find_atom s.held.atoms c.args.atom ≡ Some c.in-Some.id.0 = ap (λ (h : Held). find_atom h.atoms c.args.atom) (sym c.bank.ensures) ∙ sym c.find_atom.ensures ∙ ap (option_map (λ a. a.0)) c.in-Some.is in
    refuted_found s c.args.atom c.in-Some.id.0 _ found (refuted_none c.trail-trail.result.now.entries c.in-Some.id (sym c.place.ensures ∙ c.in-None-place.is) ∙ ap (λ (t : Trail). is_refuted_by t.entries (Some c.in-Some.id.0)) c.trail-trail.ensures)

pub returns-in-Some-place : goal.returns-in-Some-place
returns-in-Some-place c =
    let s = c.args.state.now in
    let es = c.trail-trail.result.now.entries in
    let found : find_atom s.held.atoms c.args.atom ≡ Some c.in-Some.id.0 = ap (λ (h : Held). find_atom h.atoms c.args.atom) (sym c.bank.ensures) ∙ sym c.find_atom.ensures ∙ ap (option_map (λ a. a.0)) c.in-Some.is in
    refuted_found s c.args.atom c.in-Some.id.0 _ found (c.is_negative_at_zero.ensures ∙ refuted_at es c.in-Some.id c.in-Some-place.place c.entry.result c.entries_are_levelled.ensures.once (sym c.place.ensures ∙ c.in-Some-place.is) c.entry.ensures ∙ ap (λ (t : Trail). is_refuted_by t.entries (Some c.in-Some.id.0)) c.trail-trail.ensures)
