use Rattle.std.proofs.Common.{◌∙◌, sym}
use Rattle.fm_levels.proofs.Leveling.{cut_is_above, cut_is_nothing, mark_is_within}
use Rattle.fm_levels.proofs.levels.Levels.cut_back.Goals as goal

pub overflow_sub-len : goal.overflow_sub-len
overflow_sub-len g c = mark_is_within _ c.self.inside.marks.items c.as_slice.result.now c.newest_mark-mark.result c.len.result c.self.invariant c.as_slice.ensures.value c.newest_mark-mark.ensures c.len.ensures

pub invariant_of-self-then-count-len : goal.invariant_of-self-then-count-len
invariant_of-self-then-count-len g c = (cut_is_above c.args.first c.self.inside.first _ _ c.self.inside.marks.items c.as_slice.result.now _ c.newest_mark-mark.result c.len.result c.args.count c.self.view_is c.self.invariant c.as_slice.ensures.value c.newest_mark-mark.ensures c.len.ensures (sym c.is_below.ensures ∙ c.if-is_below.false) c.if-count-len.true c.truncate-then-count-len.ensures).1

pub returns-then-count-len : goal.returns-then-count-len
returns-then-count-len g c = (cut_is_above c.args.first _ _ _ c.self.inside.marks.items c.as_slice.result.now _ c.newest_mark-mark.result c.len.result c.args.count c.self.view_is c.self.invariant c.as_slice.ensures.value c.newest_mark-mark.ensures c.len.ensures (sym c.is_below.ensures ∙ c.if-is_below.false) c.if-count-len.true c.truncate-then-count-len.ensures).0

pub returns-else-count-len : goal.returns-else-count-len
returns-else-count-len g c = cut_is_nothing c.args.first _ _ c.self.inside.marks.items c.as_slice.result.now _ c.newest_mark-mark.result c.len.result c.args.count c.self.view_is c.as_slice.ensures.value c.newest_mark-mark.ensures c.len.ensures (sym c.is_below.ensures ∙ c.if-is_below.false) c.if-count-len.false
