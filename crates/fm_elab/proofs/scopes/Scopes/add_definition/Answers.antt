use Rattle.std.proofs.Common.{ap, refl, ◌∙◌}
use Rattle.fm_elab.specs.Held.{held_in, state_of}
use Rattle.fm_elab.proofs.Holding.{restored_is, restored_whole, whole_by}
use Rattle.fm_elab.proofs.Placing.{cut_restored, length_extends}
use Rattle.fm_elab.proofs.scopes.Scopes.add_definition.Goals as goal

pub invariant_of-self : goal.invariant_of-self
invariant_of-self c =
    whole_by (held_in c.self.inside.declared_sorts c.self.inside.sorts c.self.inside.symbols c.self.inside.functions c.self.inside.arena c.self.inside.assertions c.self.inside.global c.self.inside.begun) _ c.self.invariant c.add_definition.ensures.in_force refl refl refl refl (length_extends c.self.inside.global c.self.inside.functions c.add_definition.new.functions c.add_definition.ensures.extends)

pub invariant_of-self-in-Err : goal.invariant_of-self-in-Err
invariant_of-self-in-Err c =
    restored_whole (held_in c.self.inside.declared_sorts c.self.inside.sorts c.self.inside.symbols c.self.inside.functions c.self.inside.arena c.self.inside.assertions c.self.inside.global c.self.inside.begun) _ c.add_definition.new.arena _ c.self.invariant c.add_definition.ensures.grows
    (cut_restored c.self.inside.global c.self.inside.functions c.add_definition.new.functions _ c.count_in-count.result c.cut_back.ensures c.count_in-count.ensures c.add_definition.ensures.extends) refl

pub returns-clause-err : goal.returns-clause-err
returns-clause-err c =
    restored_is (held_in c.self.inside.declared_sorts c.self.inside.sorts c.self.inside.symbols c.self.inside.functions c.self.inside.arena c.self.inside.assertions c.self.inside.global c.self.inside.begun) _ c.add_definition.new.arena _ c.self.invariant c.add_definition.ensures.grows
    (cut_restored c.self.inside.global c.self.inside.functions c.add_definition.new.functions _ c.count_in-count.result c.cut_back.ensures c.count_in-count.ensures c.add_definition.ensures.extends) refl
    ∙ ap state_of c.self.view_is
