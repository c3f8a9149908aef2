use Rattle.std.proofs.Common.{ap, length, subst, sym, ◌+◌, ◌≤◌, ◌∙◌}
use Rattle.fm_elab.specs.Held.{Held, held_in, state_of}
use Rattle.fm_elab.specs.Stacks.{opened}
use Rattle.fm_elab.proofs.Holding.{opened_is, opened_whole}
use Rattle.fm_elab.proofs.scopes.Scopes.open.Goals as goal

pub invariant_of-self-in-Ok-push : goal.invariant_of-self-in-Ok-push
invariant_of-self-in-Ok-push c =
    opened_whole (held_in c.self.inside.declared_sorts c.self.inside.sorts c.self.inside.symbols c.self.inside.functions c.self.inside.arena c.self.inside.assertions c.self.inside.global c.self.inside.begun) c.args.count _ _ _ _ _ c.self.invariant (subst (λ (h : Held). length h.assertions + c.args.count ≤ 65537) (sym c.self.view_is) c.requires)
    c.in_ok-push_both.ensures.left c.in_ok-push_both.ensures.right c.in-Ok.ensures.left c.in-Ok.ensures.right c.in-Ok-push.ensures.opened

pub returns-in-Ok-push-clause-opened : goal.returns-in-Ok-push-clause-opened
returns-in-Ok-push-clause-opened c =
    opened_is (held_in c.self.inside.declared_sorts c.self.inside.sorts c.self.inside.symbols c.self.inside.functions c.self.inside.arena c.self.inside.assertions c.self.inside.global c.self.inside.begun) c.args.count _ _ _ _ _ c.in_ok-push_both.ensures.left c.in_ok-push_both.ensures.right c.in-Ok.ensures.left c.in-Ok.ensures.right c.in-Ok-push.ensures.opened
    ∙ ap (λ (h : Held). opened (state_of h) c.args.count) c.self.view_is
