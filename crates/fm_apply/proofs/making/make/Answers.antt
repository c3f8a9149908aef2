use Rattle.fm_arena.specs.Meanings.{Making, term_made, terms_of}
use Rattle.fm_apply.proofs.Adding.{fits_within, term_made_is, too_large}
use Rattle.fm_apply.proofs.making.make.Goals as goal

pub returns-in-Ok-None-clause-answer : goal.returns-in-Ok-None-clause-answer
returns-in-Ok-None-clause-answer c =
    let old = c.args.arena.now in
    let made : Making = term_made c.args.op c.args.ty c.args.parts in
    λ x e. too_large x c.args.scope.now.command old _ (made (terms_of old)) c.refuse.result c.in-Ok-None.field-0 e (term_made_is old c.args.op c.args.ty c.args.parts) c.in-Ok-None.field-0-is c.in-Ok-None.ensures.fit c.refuse.ensures

pub returns-in-Ok-Some-clause-answer : goal.returns-in-Ok-Some-clause-answer
returns-in-Ok-Some-clause-answer c =
    let old = c.args.arena.now in
    let made : Making = term_made c.args.op c.args.ty c.args.parts in
    λ x e. fits_within x old c.make.new.self made _ c.in-Ok-Some.number c.in-Ok-Some.field-0 (term_made_is old c.args.op c.args.ty c.args.parts) c.in-Ok-Some.field-0-is c.in-Ok-Some.ensures.fit c.in-Ok-Some.ensures.added c.in-Ok-Some.ensures.number
