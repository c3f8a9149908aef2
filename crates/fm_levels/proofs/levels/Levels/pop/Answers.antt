use Rattle.fm_levels.proofs.Leveling.{kept_within, levels_long, named_pop}
use Rattle.fm_levels.proofs.levels.Levels.pop.Goals as goal

pub overflow_sub-kept : goal.overflow_sub-kept
overflow_sub-kept g c = kept_within c.self.inside.marks.items c.as_slice.result.now _ c.args.count c.as_slice.ensures.value (levels_long _ _ c.self.inside.marks.items _ c.self.view_is) c.requires

pub invariant_of-self : goal.invariant_of-self
invariant_of-self g c = (named_pop c.self.inside.first _ _ c.self.inside.marks.items c.as_slice.result.now _ _ c.args.count c.index-mark.result.now c.self.view_is c.self.invariant c.as_slice.ensures.value c.requires c.if-count-gt0.true c.index-mark.ensures c.truncate.ensures c.truncate-then-count-gt0.ensures.items).1

pub returns-then-count-gt0 : goal.returns-then-count-gt0
returns-then-count-gt0 g c = (named_pop _ _ _ c.self.inside.marks.items c.as_slice.result.now _ _ c.args.count c.index-mark.result.now c.self.view_is c.self.invariant c.as_slice.ensures.value c.requires c.if-count-gt0.true c.index-mark.ensures c.truncate.ensures c.truncate-then-count-gt0.ensures.items).0
