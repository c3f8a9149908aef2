use Rattle.std.proofs.Common.{ap, length, subst, sym, ◌<◌, ◌∙◌}
use Rattle.fm_elab.specs.Held.{Held, held_in, state_of}
use Rattle.fm_elab.specs.Stacks.{closed}
use Rattle.fm_elab.proofs.Holding.{closed_is, closed_whole}
use Rattle.fm_elab.proofs.scopes.Scopes.close.Goals as goal

pub invariant_of-self : goal.invariant_of-self
invariant_of-self c =
    closed_whole (held_in c.self.inside.declared_sorts c.self.inside.sorts c.self.inside.symbols c.self.inside.functions c.self.inside.arena c.self.inside.assertions c.self.inside.global c.self.inside.begun) c.args.count _ _ _ _ _ c.self.invariant (subst (λ (h : Held). c.args.count < length h.assertions) (sym c.self.view_is) c.requires)
    c.pop_both.ensures.left c.pop_both.ensures.right c.pop_both-2.ensures.left c.pop_both-2.ensures.right c.pop.ensures

pub returns : goal.returns
returns c =
    closed_is (held_in c.self.inside.declared_sorts c.self.inside.sorts c.self.inside.symbols c.self.inside.functions c.self.inside.arena c.self.inside.assertions c.self.inside.global c.self.inside.begun) c.args.count _ _ _ _ _ c.pop_both.ensures.left c.pop_both.ensures.right c.pop_both-2.ensures.left c.pop_both-2.ensures.right c.pop.ensures
    ∙ ap (λ (h : Held). closed (state_of h) c.args.count) c.self.view_is
