use Rattle.std.proofs.Common.{◌∙◌, sym}
use Rattle.fm_levels.specs.Tables.{named_values}
use Rattle.fm_levels.proofs.Leveling.{cut_is_above, cut_is_nothing, mark_is_within}
use Rattle.fm_levels.proofs.layers.Layers.cut_back.Goals as goal

pub overflow_sub-count : goal.overflow_sub-count
overflow_sub-count g c = mark_is_within _ c.self.inside.marks.items c.as_slice.result.now c.newest_mark-mark.result c.count.result c.self.invariant c.as_slice.ensures.value c.newest_mark-mark.ensures c.count.ensures

pub invariant_of-self-then-len-count : goal.invariant_of-self-then-len-count
invariant_of-self-then-len-count g c = (cut_is_above c.args.first (named_values c.self.inside.first.items) _ _ c.self.inside.marks.items c.as_slice.result.now _ c.newest_mark-mark.result c.count.result c.args.len c.self.view_is c.self.invariant c.as_slice.ensures.value c.newest_mark-mark.ensures c.count.ensures (sym c.is_below.ensures ∙ c.if-is_below.false) c.if-len-count.true c.truncate-then-len-count.ensures).1

pub returns-then-len-count : goal.returns-then-len-count
returns-then-len-count g c = (cut_is_above c.args.first _ _ _ c.self.inside.marks.items c.as_slice.result.now _ c.newest_mark-mark.result c.count.result c.args.len c.self.view_is c.self.invariant c.as_slice.ensures.value c.newest_mark-mark.ensures c.count.ensures (sym c.is_below.ensures ∙ c.if-is_below.false) c.if-len-count.true c.truncate-then-len-count.ensures).0

pub returns-else-len-count : goal.returns-else-len-count
returns-else-len-count g c = cut_is_nothing c.args.first _ _ c.self.inside.marks.items c.as_slice.result.now _ c.newest_mark-mark.result c.count.result c.args.len c.self.view_is c.as_slice.ensures.value c.newest_mark-mark.ensures c.count.ensures (sym c.is_below.ensures ∙ c.if-is_below.false) c.if-len-count.false
