use Rattle.fm_levels.specs.Tables.{named_values}
use Rattle.fm_levels.proofs.Leveling.{kept_within, levels_long, named_pop}
use Rattle.fm_levels.proofs.layers.Layers.pop.Goals as goal

pub overflow_sub-kept : goal.overflow_sub-kept
overflow_sub-kept g c = kept_within c.self.inside.marks.items c.as_slice.result.now _ c.args.levels c.as_slice.ensures.value (levels_long _ _ c.self.inside.marks.items _ c.self.view_is) c.requires

pub invariant_of-self : goal.invariant_of-self
invariant_of-self g c = (named_pop (named_values c.self.inside.first.items) _ _ c.self.inside.marks.items c.as_slice.result.now _ _ c.args.levels c.index-mark.result.now c.self.view_is c.self.invariant c.as_slice.ensures.value c.requires c.if-levels-gt0.true c.index-mark.ensures c.truncate.ensures c.truncate-then-levels-gt0.ensures.items).1

pub returns-then-levels-gt0 : goal.returns-then-levels-gt0
returns-then-levels-gt0 g c = (named_pop _ _ _ c.self.inside.marks.items c.as_slice.result.now _ _ c.args.levels c.index-mark.result.now c.self.view_is c.self.invariant c.as_slice.ensures.value c.requires c.if-levels-gt0.true c.index-mark.ensures c.truncate.ensures c.truncate-then-levels-gt0.ensures.items).0
