use Rattle.fm_apply.specs.Scoped.{number_term}
use Rattle.fm_apply.proofs.Chaining.{implies_made}
use Rattle.fm_apply.proofs.Growing.{term_stays}
use Rattle.fm_apply.proofs.chains.implies.Goals as goal

pub returns-in-Ok-clause-answer : goal.returns-in-Ok-clause-answer
returns-in-Ok-clause-answer c =
    let old = c.args.arena.now in
    let mid = c.negation.new.arena in
    λ x e. implies_made x (number_term old c.args.left) (number_term old c.args.right) (number_term mid c.in-Ok.number) (number_term mid c.args.right) c.pair.new.arena c.pair.result (c.in-Ok.ensures.answer x e) (term_stays old mid c.args.right c.in-Ok.ensures.grows c.requires.below) (c.pair.ensures.answer x e)
