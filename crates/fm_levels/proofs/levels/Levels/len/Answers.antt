use Rattle.fm_levels.proofs.Leveling.{len_is}
use Rattle.fm_levels.proofs.levels.Levels.len.Goals as goal

pub returns : goal.returns
returns g c = len_is _ _ c.self.inside.marks.items c.as_slice.result.now _ c.self.view_is c.as_slice.ensures.value
