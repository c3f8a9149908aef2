use Rattle.std.proofs.Common.{ap, length, refl, ◌∙◌}
use Rattle.fm_elab.specs.Held.{held_in}
use Rattle.fm_elab.proofs.Holding.{whole_by}
use Rattle.fm_elab.proofs.Placing.{length_put}
use Rattle.fm_elab.proofs.scopes.Scopes.declare_sort.Goals as goal

pub invariant_of-self-in-Ok : goal.invariant_of-self-in-Ok
invariant_of-self-in-Ok c =
    whole_by (held_in c.self.inside.declared_sorts c.self.inside.sorts c.self.inside.symbols c.self.inside.functions c.self.inside.arena c.self.inside.assertions c.self.inside.global c.self.inside.begun) _ c.self.invariant c.self.invariant.in_force refl
    (ap length c.in-Ok.ensures.left ∙ length_put c.self.inside.global c.self.inside.declared_sorts _) (ap length c.in-Ok.ensures.right ∙ length_put c.self.inside.global c.self.inside.sorts _) refl refl
