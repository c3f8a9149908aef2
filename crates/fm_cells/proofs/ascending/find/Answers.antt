use Rattle.std.proofs.Common.{sym, ◌∙◌}
use Rattle.fm_cells.proofs.Placing.{at_place, place_below}
use Rattle.fm_cells.proofs.ascending.find.Goals as goal

pub returns-then-is_at : goal.returns-then-is_at
returns-then-is_at c =
    let terms = c.args.terms.now in
    let on = sym c.is_at.ensures ∙ c.if-is_at.true in
    (place_below terms c.requires c.args.number c.place-place.result c.place-place.ensures on, at_place terms c.requires c.args.number c.place-place.result c.place-place.ensures on)

pub returns-else-is_at : goal.returns-else-is_at
returns-else-is_at c = sym c.is_at.ensures ∙ c.if-is_at.false
