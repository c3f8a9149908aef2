use Rattle.std.proofs.Common.{sym, ◌∙◌}
use Rattle.std.proofs.lemmas.Option.{slice_get_within}
use Rattle.fm_trail.proofs.Places.{place_some}
use Rattle.fm_trail.proofs.Literals.{level_by_place, level_none}
use Rattle.fm_sat.proofs.learning.level_of.Goals as goal

pub entry-requires : goal.entry-requires
entry-requires c =
    let s = place_some c.args.trail.now.entries c.args.lit.atom c.in-Some.place (sym c.place.ensures ∙ c.in-Some.is) in
    slice_get_within c.args.trail.now.entries c.in-Some.place s.entry s.there

pub returns-in-Some : goal.returns-in-Some
returns-in-Some c = sym (level_by_place c.args.trail.now.entries c.args.lit c.in-Some.place c.entry.result (sym c.place.ensures ∙ c.in-Some.is) c.entry.ensures)

pub returns-in-None : goal.returns-in-None
returns-in-None c = sym (level_none c.args.trail.now.entries c.args.lit (sym c.place.ensures ∙ c.in-None.is))
