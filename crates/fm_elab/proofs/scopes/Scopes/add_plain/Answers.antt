use Rattle.std.proofs.Common.{[], ap, length, subst, sym, ◌∙◌, ◌≤◌}
use Rattle.fm_arena.specs.Meanings.{terms_of}
use Rattle.fm_levels.specs.Levels.{joined}
use Rattle.fm_apply.specs.Scoped.{StandBefore}
use Rattle.fm_elab.specs.Givens.{with_new_assertion}
use Rattle.fm_elab.specs.Held.{Held, held_in, state_of}
use Rattle.fm_elab.proofs.Holding.{plain_is, plain_whole}
use Rattle.fm_elab.proofs.scopes.Scopes.add_plain.Goals as goal

pub invariant_of-self : goal.invariant_of-self
invariant_of-self c =
    let h : Held = held_in c.self.inside.declared_sorts c.self.inside.sorts c.self.inside.symbols c.self.inside.functions c.self.inside.arena c.self.inside.assertions c.self.inside.global c.self.inside.begun in
    plain_whole h c.cut_back.new.self c.insert.new.self c.args.formula c.args.mark c.self.invariant (subst (λ (k : Held). c.args.mark ≤ length (terms_of k.entries)) (sym c.self.view_is) c.requires.mark) c.cut_back.ensures (subst (λ (k : Held). StandBefore c.args.mark (joined k.functions)) (sym c.self.view_is) c.requires.before) c.in-Ok.ensures.added

pub returns-in-Ok-clause-added : goal.returns-in-Ok-clause-added
returns-in-Ok-clause-added c =
    let h : Held = held_in c.self.inside.declared_sorts c.self.inside.sorts c.self.inside.symbols c.self.inside.functions c.self.inside.arena c.self.inside.assertions c.self.inside.global c.self.inside.begun in
    plain_is h c.cut_back.new.self c.insert.new.self c.args.formula c.args.mark c.self.invariant (subst (λ (k : Held). c.args.mark ≤ length (terms_of k.entries)) (sym c.self.view_is) c.requires.mark) c.cut_back.ensures (subst (λ (k : Held). StandBefore c.args.mark (joined k.functions)) (sym c.self.view_is) c.requires.before) c.in-Ok.ensures.added
    ∙ ap (λ (k : Held). with_new_assertion (state_of k) [] c.args.formula) c.self.view_is
