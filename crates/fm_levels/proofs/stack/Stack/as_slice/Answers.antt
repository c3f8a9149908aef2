use Rattle.std.proofs.Common.{◌∙◌}
use Rattle.fm_levels.proofs.Leveling.{stack_joined}
use Rattle.fm_levels.proofs.stack.Stack.as_slice.Goals as goal

pub returns : goal.returns
returns g c = c.as_slice.ensures.value ∙ stack_joined _ c.self.inside.marks.items _ c.self.view_is c.self.invariant
