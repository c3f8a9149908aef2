use Rattle.std.proofs.Common.{ap, refl, subst, ◌∙◌}
use Rattle.std.specs.Option.{option_map}
use Rattle.fm_levels.specs.Levels.{joined}
use Rattle.fm_apply.proofs.Growing.{in_force_stays}
use Rattle.fm_terms.specs.Elaborate.{elaborated}
use Rattle.fm_terms.specs.Scoped.{IsElaborated}
use Rattle.fm_elab.specs.Held.{Held, held_in, state_of}
use Rattle.fm_elab.specs.Steps.{context_at}
use Rattle.fm_elab.proofs.Holding.{elaborated_by, restored_is, whole_by}
use Rattle.fm_elab.proofs.scopes.Scopes.elaborate.Goals as goal

pub invariant_of-self : goal.invariant_of-self
invariant_of-self c =
    whole_by (held_in c.self.inside.declared_sorts c.self.inside.sorts c.self.inside.symbols c.self.inside.functions c.self.inside.arena c.self.inside.assertions c.self.inside.global c.self.inside.begun) _ c.self.invariant (in_force_stays c.self.inside.arena c.elaborate.new.arena (joined c.self.inside.functions) c.elaborate.ensures.grows c.self.invariant.in_force) refl refl refl refl refl

pub returns-clause-answer : goal.returns-clause-answer
returns-clause-answer c =
    let own = option_map (λ n. n.now) c.args.own in
    subst (λ (h : Held). IsElaborated c.elaborate.new.arena c.elaborate.result (elaborated (context_at c.args.text.now (state_of h) c.args.command own c.args.naming c.args.names c.args.types.now) c.args.item.now)) c.self.view_is
    (elaborated_by (held_in c.self.inside.declared_sorts c.self.inside.sorts c.self.inside.symbols c.self.inside.functions c.self.inside.arena c.self.inside.assertions c.self.inside.global c.self.inside.begun) c.args.text.now c.args.command own c.args.naming c.args.names c.args.types.now c.args.item.now c.elaborate.new.arena c.elaborate.result c.elaborate.ensures.answer)

pub returns-clause-same : goal.returns-clause-same
returns-clause-same c = restored_is (held_in c.self.inside.declared_sorts c.self.inside.sorts c.self.inside.symbols c.self.inside.functions c.self.inside.arena c.self.inside.assertions c.self.inside.global c.self.inside.begun) _ c.elaborate.new.arena _ c.self.invariant c.elaborate.ensures.grows refl refl ∙ ap state_of c.self.view_is
