use Rattle.std.proofs.Common.{List, [], subst, sym, true, ℕ}
use Rattle.std.specs.Prelude.{None}
use Rattle.fm_terms.specs.Elaborate.{elaborated}
use Rattle.fm_terms.specs.Scoped.{IsElaborated}
use Rattle.fm_elab.specs.Givens.{new_asserted, read_in}
use Rattle.fm_arena.specs.Meanings.{terms_of}
use Rattle.fm_levels.specs.Levels.{joined}
use Rattle.fm_apply.specs.Scoped.{StandBefore}
use Rattle.fm_apply.specs.declared.entry.Function.{Function}
use Rattle.fm_apply.proofs.Cutting.{stand_before}
use Rattle.fm_elab.specs.Held.{Held, state_of}
use Rattle.fm_elab.specs.Stacks.{State}
use Rattle.fm_elab.specs.Steps.{Applies, Next, context_at}
use Rattle.fm_elab.proofs.FreshNames.{assert_goes}
use Rattle.fm_elab.proofs.Holding.{goes_on}
use Rattle.fm_elab.proofs.scopes.Scopes.assert.Goals as goal

pub returns-in-Ok : goal.returns-in-Ok
returns-in-Ok c =
    let s = state_of c.args.self.now in
    let a = subst (λ (ns : List (List ℕ)). IsElaborated c.elaborate.new.self.entries c.elaborate.result (elaborated (context_at c.args.text.now s c.args.at None true ns []) c.args.item.now)) c.new-names.ensures c.elaborate.ensures.answer in
    let b = subst (λ r. IsElaborated c.elaborate.new.self.entries r (elaborated (context_at c.args.text.now s c.args.at None true [] []) c.args.item.now)) c.in-Ok.is a in
    let r = read_in c.elaborate.new.self.entries b.0 c.in-Ok.term in
    subst (λ (next : Next). Applies c.asserted.result s next (state_of c.asserted.new.self)) (assert_goes c.args.text.now s c.args.at c.args.item.now r b.1)
    (goes_on c.asserted.result s (state_of c.elaborate.new.self) (state_of c.asserted.new.self) _ r (λ (t : State). new_asserted t c.args.at c.args.item.now) b.1 c.elaborate.ensures.same (c.asserted.ensures b.0))

pub asserted-requires-clause-before : goal.asserted-requires-clause-before
asserted-requires-clause-before c =
    let here = stand_before (terms_of c.self.inside.arena) (joined c.self.inside.functions) c.self.invariant.in_force in
    let marked = subst (λ (n : ℕ). StandBefore n (joined c.self.inside.functions)) (sym c.mark-mark.ensures) here in
    subst (λ (ls : List (List (List ℕ × Function))). StandBefore c.mark-mark.result (joined ls)) (sym c.elaborate.ensures.functions)
    (subst (λ (k : Held). StandBefore c.mark-mark.result (joined k.functions)) c.self.view_is marked)
