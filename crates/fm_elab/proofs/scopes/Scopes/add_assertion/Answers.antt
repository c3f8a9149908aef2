use Rattle.std.proofs.Common.{ap, length, refl, ◌∙◌, false}
use Rattle.fm_elab.specs.Held.{held_in, state_of}
use Rattle.fm_elab.proofs.Holding.{restored_is, restored_whole, whole_by}
use Rattle.fm_elab.proofs.Placing.{cut_restored, length_extends, length_newest}
use Rattle.fm_elab.proofs.scopes.Scopes.add_assertion.Goals as goal

pub invariant_of-self : goal.invariant_of-self
invariant_of-self c =
    whole_by (held_in c.self.inside.declared_sorts c.self.inside.sorts c.self.inside.symbols c.self.inside.functions c.self.inside.arena c.self.inside.assertions c.self.inside.global c.self.inside.begun) _ c.self.invariant c.add_all.ensures.in_force (ap length c.in-Ok.ensures.asserted ∙ length_newest c.self.inside.assertions _) refl refl refl (length_extends false c.self.inside.functions c.add_all.new.functions c.add_all.ensures.extends)

pub invariant_of-self-in-Err : goal.invariant_of-self-in-Err
invariant_of-self-in-Err c =
    restored_whole (held_in c.self.inside.declared_sorts c.self.inside.sorts c.self.inside.symbols c.self.inside.functions c.self.inside.arena c.self.inside.assertions c.self.inside.global c.self.inside.begun) _ c.add_all.new.arena _ c.self.invariant c.add_all.ensures.grows
    (cut_restored false c.self.inside.functions c.add_all.new.functions _ c.count_in-count.result c.cut_back.ensures c.count_in-count.ensures c.add_all.ensures.extends) c.in-Err.ensures.err

pub returns-clause-err : goal.returns-clause-err
returns-clause-err c =
    restored_is (held_in c.self.inside.declared_sorts c.self.inside.sorts c.self.inside.symbols c.self.inside.functions c.self.inside.arena c.self.inside.assertions c.self.inside.global c.self.inside.begun) _ c.add_all.new.arena _ c.self.invariant c.add_all.ensures.grows
    (cut_restored false c.self.inside.functions c.add_all.new.functions _ c.count_in-count.result c.cut_back.ensures c.count_in-count.ensures c.add_all.ensures.extends) c.in-Err.ensures.err
    ∙ ap state_of c.self.view_is
