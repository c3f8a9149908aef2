use Rattle.fm_levels.proofs.Leveling.{below_is}
use Rattle.fm_levels.proofs.layers.Layers.is_below.Goals as goal

pub returns-else-first : goal.returns-else-first
returns-else-first g c = below_is c.args.first _ _ c.self.inside.marks.items c.as_slice.result.now _ c.if-first.false c.self.view_is c.as_slice.ensures.value
