use Rattle.std.proofs.Common.{◌∙◌, sym}
use Rattle.fm_levels.proofs.Leveling.{count_is_above, mark_is_within}
use Rattle.fm_levels.proofs.layers.Layers.count_in.Goals as goal

pub overflow_sub-result : goal.overflow_sub-result
overflow_sub-result g c = mark_is_within _ c.self.inside.marks.items c.as_slice.result.now c.newest_mark.result c.count-2.result c.self.invariant c.as_slice.ensures.value c.newest_mark.ensures c.count-2.ensures

pub returns : goal.returns
returns g c = count_is_above c.args.first _ _ c.self.inside.marks.items c.as_slice.result.now _ c.newest_mark.result c.count-2.result c.self.view_is c.as_slice.ensures.value c.newest_mark.ensures c.count-2.ensures (sym c.is_below.ensures ∙ c.if-is_below.false)
