use Rattle.std.proofs.Common.{◌∙◌}
use Rattle.fm_levels.proofs.Leveling.{found_at}
use Rattle.fm_levels.proofs.layers.Layers.at.Goals as goal

pub returns-else-place-below : goal.returns-else-place-below
returns-else-place-below g c = c.entry_at-else-place-below.ensures ∙ found_at _ _ c.self.inside.marks.items _ c.args.place c.count-below.result c.self.view_is c.self.invariant c.count-below.ensures c.if-place-below.false
