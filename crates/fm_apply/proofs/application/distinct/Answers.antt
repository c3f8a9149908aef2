use Rattle.std.proofs.Common.{Bool, List, map, subst, sym, true, ℕ, ◌≡◌}
use Rattle.std.specs.Prelude.{Err}
use Rattle.fm_base.specs.Truth.{is_bool}
use Rattle.fm_base.specs.declared.signature.Ty.{Ty}
use Rattle.fm_arena.specs.Trees.{takes}
use Rattle.fm_arena.specs.declared.node.Op.{Op}
use Rattle.fm_apply.specs.Applied.{distinct_at}
use Rattle.fm_apply.specs.Scoped.{IsTerm, number_kind, tested}
use Rattle.fm_apply.proofs.Adding.{refused_term}
use Rattle.fm_apply.proofs.Chaining.{distinct_made, distinct_taken}
use Rattle.fm_apply.proofs.application.distinct.Goals as goal

pub returns-in-Err-clause-answer : goal.returns-in-Err-clause-answer
returns-in-Err-clause-answer c =
    let old = c.args.arena.now in
    λ x e. subst (λ (ty : Ty). IsTerm old (Err c.in-Err.fail) (tested c.args.at c.args.items.now ty (distinct_at x) old c.args.args.now)) c.type_among-ty.ensures
    (refused_term (Unit {0}) old c.in-Err.fail (tested c.args.at c.args.items.now c.type_among-ty.result (distinct_at x) old c.args.args.now) (c.in-Err.ensures.wrong (distinct_at x)))

pub make-requires-clause-kinds : goal.make-requires-clause-kinds
make-requires-clause-kinds c =
    let old = c.args.arena.now in
    subst (λ (k : Bool). takes (Op.Distinct k) (map (number_kind old) c.in_ok-parts-in-Ok.parts) ≡ true) (sym c.is_bool.ensures)
    (subst (λ (is : List ℕ). takes (Op.Distinct (is_bool c.type_among-ty.result)) (map (number_kind old) is) ≡ true) (sym c.in_ok-parts-in-Ok.ensures) (distinct_taken (is_bool c.type_among-ty.result) old c.args.args.now c.in-Ok.ensures.kinds))

pub returns-in_ok-parts-in-Ok-clause-answer : goal.returns-in_ok-parts-in-Ok-clause-answer
returns-in_ok-parts-in-Ok-clause-answer c =
    let old = c.args.arena.now in
    λ x e. distinct_made x old c.make.new.arena c.args.args.now c.in_ok-parts-in-Ok.parts c.args.at c.args.items.now c.type_among-ty.result c.is_bool.result c.make.result c.type_among-ty.ensures c.is_bool.ensures c.in_ok-parts-in-Ok.ensures (c.in-Ok.ensures.right (distinct_at x)) (c.make.ensures.answer x e)
