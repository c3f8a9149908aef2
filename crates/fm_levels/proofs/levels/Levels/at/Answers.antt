use Rattle.std.proofs.Common.{◌∙◌}
use Rattle.fm_levels.proofs.Leveling.{found_at}
use Rattle.fm_levels.proofs.levels.Levels.at.Goals as goal

pub returns-else-place-below : goal.returns-else-place-below
returns-else-place-below g c = c.at-else-place-below.ensures ∙ found_at _ _ c.self.inside.marks.items _ c.args.place c.len-below.result c.self.view_is c.self.invariant c.len-below.ensures c.if-place-below.false
