use Rattle.std.proofs.Common.{List, ap, length, subst, sym, true, ◌∙◌}
use Rattle.std.specs.Prelude.{Some}
use Rattle.fm_base.specs.declared.signature.Ty.{Ty}
use Rattle.fm_script.specs.Shown.{name_shown}
use Rattle.fm_terms.specs.Elaborate.{elaborated}
use Rattle.fm_terms.specs.Scoped.{IsElaborated, shown_pairs}
use Rattle.fm_elab.specs.Givens.{new_defined, read_in}
use Rattle.fm_elab.specs.Held.{state_of}
use Rattle.fm_elab.specs.Stacks.{State}
use Rattle.fm_elab.specs.Steps.{Applies, Next, context_at, sort_at}
use Rattle.fm_elab.proofs.FreshNames.{definition_goes}
use Rattle.fm_elab.proofs.Holding.{define_goes, goes_on, names_length}
use Rattle.fm_elab.proofs.scopes.Scopes.define_function.Goals as goal

pub elaborate-requires-clause-types : goal.elaborate-requires-clause-types
elaborate-requires-clause-types c =
    names_length (sort_at c.args.text.now (state_of c.args.self.now)) (shown_pairs c.args.params.now) c.in-Ok-distinct_names.names c.in-Ok.types c.in-Ok-distinct_names.ensures c.in-Ok.ensures ∙ ap length (sym c.as_slice.ensures)

pub returns-in-Ok-elaborate : goal.returns-in-Ok-elaborate
returns-in-Ok-elaborate c =
    let s = state_of c.args.self.now in
    let n = name_shown c.args.name in
    let a = subst (λ (tys : List Ty). IsElaborated c.elaborate.new.self.entries c.elaborate.result (elaborated (context_at c.args.text.now s c.args.at (Some n.bytes) true c.in-Ok-distinct_names.names tys) c.args.body.now)) c.as_slice.ensures c.elaborate.ensures.answer in
    let b = subst (λ r. IsElaborated c.elaborate.new.self.entries r (elaborated (context_at c.args.text.now s c.args.at (Some n.bytes) true c.in-Ok-distinct_names.names c.in-Ok.types) c.args.body.now)) c.in-Ok-elaborate.is a in
    let r = read_in c.elaborate.new.self.entries b.0 c.in-Ok-elaborate.term in
    let free = sym c.is_function_taken.ensures ∙ c.if-is_function_taken.false in
    subst (λ (next : Next). Applies c.defined.result s next (state_of c.defined.new.self))
    (definition_goes c.args.text.now s c.args.at n c.in-Ok-distinct_names.names c.in-Ok.types c.in-Ok-sort.ty c.args.body.now r free b.1
    ∙ sym (define_goes c.args.text.now s c.args.at n (shown_pairs c.args.params.now) c.args.sort.now c.args.body.now c.in-Ok.types c.in-Ok-distinct_names.names c.in-Ok-sort.ty free c.in-Ok.ensures c.in-Ok-distinct_names.ensures c.in-Ok-sort.ensures))
    (goes_on c.defined.result s (state_of c.elaborate.new.self) (state_of c.defined.new.self) _ r (λ (t : State). new_defined t n c.in-Ok.types c.in-Ok-sort.ty c.args.body.now) b.1 c.elaborate.ensures.same (c.defined.ensures b.0))
