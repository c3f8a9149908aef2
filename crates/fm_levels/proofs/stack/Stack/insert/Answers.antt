use Rattle.fm_levels.proofs.Leveling.{stack_put}
use Rattle.fm_levels.proofs.stack.Stack.insert.Goals as goal

pub invariant_of-self-2 : goal.invariant_of-self-2
invariant_of-self-2 g c = (stack_put _ _ c.self.inside.marks.items _ c.args.entry c.self.view_is c.self.invariant c.in_ok-push.ensures.items).1

pub returns-clause-added : goal.returns-clause-added
returns-clause-added g c = (stack_put _ _ c.self.inside.marks.items _ c.args.entry c.self.view_is c.self.invariant c.in_ok-push.ensures.items).0
