use Rattle.fm_levels.proofs.Leveling.{kept_within, stack_long, stack_pop}
use Rattle.fm_levels.proofs.stack.Stack.pop.Goals as goal

pub overflow_sub-kept : goal.overflow_sub-kept
overflow_sub-kept g c = kept_within c.self.inside.marks.items c.as_slice.result.now _ c.args.count c.as_slice.ensures.value (stack_long _ c.self.inside.marks.items _ c.self.view_is) c.requires

pub invariant_of-self : goal.invariant_of-self
invariant_of-self g c = (stack_pop _ _ c.self.inside.marks.items c.as_slice.result.now _ _ c.args.count c.index-mark.result.now c.self.view_is c.self.invariant c.as_slice.ensures.value c.requires c.if-count-gt0.true c.index-mark.ensures c.truncate.ensures.items c.truncate-then-count-gt0.ensures.items).1

pub returns-then-count-gt0 : goal.returns-then-count-gt0
returns-then-count-gt0 g c = (stack_pop _ _ c.self.inside.marks.items c.as_slice.result.now _ _ c.args.count c.index-mark.result.now c.self.view_is c.self.invariant c.as_slice.ensures.value c.requires c.if-count-gt0.true c.index-mark.ensures c.truncate.ensures.items c.truncate-then-count-gt0.ensures.items).0
