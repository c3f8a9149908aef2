use Rattle.std.proofs.Common.{subst}
use Rattle.std.specs.Prelude.{Err}
use Rattle.fm_base.specs.declared.signature.Ty.{Ty}
use Rattle.fm_apply.specs.Applied.{equal_at}
use Rattle.fm_apply.specs.Scoped.{IsTerm, tested}
use Rattle.fm_apply.proofs.Adding.{refused_term}
use Rattle.fm_apply.proofs.application.equality.Goals as goal

pub returns-in-Err-clause-answer : goal.returns-in-Err-clause-answer
returns-in-Err-clause-answer c =
    let old = c.args.arena.now in
    λ x e. subst (λ (ty : Ty). IsTerm old (Err c.in-Err.fail) (tested c.args.at c.args.items.now ty (equal_at x) old c.args.args.now)) c.type_among-ty.ensures
    (refused_term (Unit {0}) old c.in-Err.fail (tested c.args.at c.args.items.now c.type_among-ty.result (equal_at x) old c.args.args.now) (c.in-Err.ensures.wrong (equal_at x)))
