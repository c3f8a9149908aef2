use Rattle.fm_arena.specs.Meanings.{Making, terms_of, use_made}
use Rattle.fm_apply.proofs.Adding.{fits_within, too_large, use_made_is}
use Rattle.fm_apply.proofs.making.use_definition.Goals as goal

pub returns-in-Ok-None-clause-answer : goal.returns-in-Ok-None-clause-answer
returns-in-Ok-None-clause-answer c =
    let old = c.args.arena.now in
    let made : Making = use_made c.args.body c.args.args in
    λ x e. too_large x c.args.scope.now.command old _ (made (terms_of old)) c.refuse.result c.in-Ok-None.field-0 e (use_made_is old c.args.body c.args.args) c.in-Ok-None.field-0-is c.in-Ok-None.ensures.fit c.refuse.ensures

pub returns-in-Ok-Some-clause-answer : goal.returns-in-Ok-Some-clause-answer
returns-in-Ok-Some-clause-answer c =
    let old = c.args.arena.now in
    let made : Making = use_made c.args.body c.args.args in
    λ x e. fits_within x old c.apply.new.self made _ c.in-Ok-Some.number c.in-Ok-Some.field-0 (use_made_is old c.args.body c.args.args) c.in-Ok-Some.field-0-is c.in-Ok-Some.ensures.fit c.in-Ok-Some.ensures.added c.in-Ok-Some.ensures.number
