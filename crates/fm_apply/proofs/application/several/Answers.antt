use Rattle.std.proofs.Common.{List, ap, arith, sym, ◌∙◌}
use Rattle.fm_base.specs.declared.refusal.Reason.{Reason}
use Rattle.fm_base.specs.declared.signature.Ty.{Ty}
use Rattle.fm_apply.specs.Applied.{first_wrong, refused}
use Rattle.fm_apply.specs.Scoped.{terms_at}
use Rattle.fm_apply.proofs.Adding.{refused_by}
use Rattle.fm_apply.proofs.Chaining.{several_of_kind, several_right, several_wrong}
use Rattle.fm_apply.proofs.application.several.Goals as goal

pub returns-in-Some-clause-wrong : goal.returns-in-Some-clause-wrong
returns-in-Some-clause-wrong c =
    let old = c.args.arena.now in
    let types = c.as_slice.ensures.value ∙ c.in_ok-types.ensures in
    λ go. refused_by (Unit {0}) c.refuse-in-Some.result (refused Reason.SortMismatch c.in-Some.place) _ c.refuse-in-Some.ensures
    (several_wrong old c.args.at c.in-Some.place c.args.items.now c.args.ty go c.args.args.now (omega (arith, c.if-args-lt2.false)) (c.in-Some.ensures ∙ ap (λ (tys : List Ty). first_wrong tys (terms_at old c.args.args.now) c.args.items.now) types))

pub returns-clause-right : goal.returns-clause-right
returns-clause-right c =
    let old = c.args.arena.now in
    let types = c.as_slice.ensures.value ∙ c.in_ok-types.ensures in
    λ go. several_right old c.args.at c.args.items.now c.args.ty go c.args.args.now (omega (arith, c.if-args-lt2.false)) (c.in-None.ensures ∙ ap (λ (tys : List Ty). first_wrong tys (terms_at old c.args.args.now) c.args.items.now) types)

pub returns-clause-kinds : goal.returns-clause-kinds
returns-clause-kinds c =
    let old = c.args.arena.now in
    let types = c.as_slice.ensures.value ∙ c.in_ok-types.ensures in
    several_of_kind old c.args.ty c.args.args.now c.args.items.now c.requires.below c.requires.items (sym (c.in-None.ensures ∙ ap (λ (tys : List Ty). first_wrong tys (terms_at old c.args.args.now) c.args.items.now) types))
