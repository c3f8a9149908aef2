use Rattle.std.proofs.Common.{ap, length, refl, sym, ◌∙◌, ◌≡◌, List}
use Rattle.std.specs.Prelude.{Ok}
use Rattle.fm_base.specs.declared.signature.Rank.{Rank}
use Rattle.fm_base.specs.declared.signature.Ty.{Ty}
use Rattle.fm_elab.specs.Held.{Held, held_in, state_of}
use Rattle.fm_elab.specs.Stacks.{State, is_function_taken, with_symbol}
use Rattle.fm_elab.specs.Steps.{Next}
use Rattle.fm_elab.proofs.Holding.{function_free, symbol_added, symbol_in_force, whole_by}
use Rattle.fm_elab.proofs.Placing.{length_put}
use Rattle.fm_elab.proofs.scopes.Scopes.add_symbol.Goals as goal

pub insert_both-requires-clause-free : goal.insert_both-requires-clause-free
insert_both-requires-clause-free c = function_free (held_in c.self.inside.declared_sorts c.self.inside.sorts c.self.inside.symbols c.self.inside.functions c.self.inside.arena c.self.inside.assertions c.self.inside.global c.self.inside.begun) c.args.name.now (ap (λ (h : Held). is_function_taken (state_of h) c.args.name.now) c.self.view_is ∙ c.requires.free)

pub invariant_of-self-in-Ok : goal.invariant_of-self-in-Ok
invariant_of-self-in-Ok c =
    whole_by (held_in c.self.inside.declared_sorts c.self.inside.sorts c.self.inside.symbols c.self.inside.functions c.self.inside.arena c.self.inside.assertions c.self.inside.global c.self.inside.begun) _ c.self.invariant
    (symbol_in_force (held_in c.self.inside.declared_sorts c.self.inside.sorts c.self.inside.symbols c.self.inside.functions c.self.inside.arena c.self.inside.assertions c.self.inside.global c.self.inside.begun) c.args.name.now c.insert_both.new.right _ c.in-Some.number c.self.invariant refl c.requires.things c.in-Ok.ensures.right) refl refl refl
    (ap length c.in-Ok.ensures.left ∙ length_put c.self.inside.global c.self.inside.symbols _) (ap length c.in-Ok.ensures.right ∙ length_put c.self.inside.global c.self.inside.functions _)

pub returns-in-Ok : goal.returns-in-Ok
returns-in-Ok c =
    let copied : c.in_ok-copy.copy ≡ c.args.args = c.in_ok-copy.ensures ∙ c.as_slice.ensures in
    ap (λ (s : State). let r : Next = Ok s in r)
    (ap (λ (h : Held). with_symbol (state_of h) c.args.name.now c.args.args c.args.ty) (sym c.self.view_is)
    ∙ symbol_added (held_in c.self.inside.declared_sorts c.self.inside.sorts c.self.inside.symbols c.self.inside.functions c.self.inside.arena c.self.inside.assertions c.self.inside.global c.self.inside.begun) c.args.name.now c.args.args c.args.ty c.in-Some.number c.insert_both.new.left c.insert_both.new.right _ _
    (ap (λ (tys : List Ty). let r : Rank = record { args = tys; result = c.args.ty } in r) copied) refl c.in-Some.ensures.some c.in-Ok.ensures.left c.in-Ok.ensures.right)
