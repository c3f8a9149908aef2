use Rattle.std.proofs.Common.{sym}
use Rattle.fm_script.specs.Shown.{name_shown}
use Rattle.fm_arena.specs.Meanings.{terms_of}
use Rattle.fm_apply.specs.Scoped.{context_of, named_in, names_in}
use Rattle.fm_apply.proofs.Growing.{below_stays, named_stays}
use Rattle.fm_terms.proofs.Stepping.{leaves_as, length_bound, unbound_made}
use Rattle.fm_terms.proofs.elaboration.unbound.Goals as goal

pub returns-in-Ok-clause-answer : goal.returns-in-Ok-clause-answer
returns-in-Ok-clause-answer c =
    let old = c.args.arena.now in
    let new = c.constant.new.arena in
    let names = names_in c.args.frame.now in
    unbound_made (context_of (c.args.scope.now, c.args.frame.now) (terms_of old)) (named_in (terms_of old) c.args.given.now) (name_shown c.args.part) (new, c.args.given.now) names c.in-Ok.number c.past_all.result
    (length_bound (terms_of old) names) (sym (named_stays old new c.args.given.now c.in-Ok.ensures.grows c.requires.ready.given)) (c.in-Ok.ensures.answer c.args.frame.now) c.past_all.ensures

pub returns-in-Ok-clause-below : goal.returns-in-Ok-clause-below
returns-in-Ok-clause-below c =
    leaves_as (c.constant.new.arena, c.args.given.now) c.past_all.result _ c.past_all.ensures c.in-Ok.ensures.below (below_stays c.args.arena.now c.constant.new.arena c.args.given.now c.in-Ok.ensures.grows c.requires.ready.given)
