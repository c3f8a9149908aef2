use Rattle.fm_apply.specs.Applied.{xor_at}
use Rattle.fm_apply.proofs.Adding.{refused_term}
use Rattle.fm_apply.proofs.application.exclusive.Goals as goal

pub returns-in-Err-clause-answer : goal.returns-in-Err-clause-answer
returns-in-Err-clause-answer c = λ x e. refused_term (Unit {0}) c.args.arena.now c.in-Err.fail _ (c.in-Err.ensures.wrong (xor_at x))
