use Rattle.std.proofs.Common.{ap, arith, length, refl, ◌+◌, ◌<◌}
use Rattle.fm_arena.specs.Meanings.{terms_of}
use Rattle.fm_apply.specs.Scoped.{named_in}
use Rattle.fm_terms.specs.Elaborate.{nesting}
use Rattle.fm_terms.proofs.Stepping.{elaborated_as, elaborated_under, top_context, top_ready}
use Rattle.fm_terms.proofs.elaboration.elaborate.Goals as goal

pub term-requires-clause-ready : goal.term-requires-clause-ready
term-requires-clause-ready c =
    top_ready c.args.scope.now _ c.args.names c.in-Ok.numbers (length c.args.types.now) c.args.arena.now c.parameter_names.new.arena c.new-given.result refl c.in-Ok.ensures.grows c.requires.ready c.in-Ok.ensures.below c.new-given.ensures

pub returns-in-Err-term-clause-answer : goal.returns-in-Err-term-clause-answer
returns-in-Err-term-clause-answer c =
    let old = c.args.arena.now in
    let mid = c.parameter_names.new.arena in
    let less : nesting c.args.item.now < nesting c.args.item.now + 1 = omega arith in
    elaborated_under (c.term.new.arena, c.term.new.given) c.in-Err-term.fail _ _ (named_in (terms_of mid) c.new-given.result) c.args.item.now
    (top_context c.args.scope.now _ c.args.names c.in-Ok.numbers c.args.types.now (length c.args.types.now) old mid refl c.in-Ok.ensures.grows c.requires.ready c.in-Ok.ensures.terms refl)
    (ap (named_in (terms_of mid)) c.new-given.ensures) (c.in-Err-term.ensures.answer (nesting c.args.item.now + 1) less)

pub returns-clause-answer : goal.returns-clause-answer
returns-clause-answer c =
    let old = c.args.arena.now in
    let mid = c.parameter_names.new.arena in
    let less : nesting c.args.item.now < nesting c.args.item.now + 1 = omega arith in
    elaborated_as c.term.new.arena c.term.new.given c.in-Ok-term.found _ _ (named_in (terms_of mid) c.new-given.result) c.args.item.now
    (top_context c.args.scope.now _ c.args.names c.in-Ok.numbers c.args.types.now (length c.args.types.now) old mid refl c.in-Ok.ensures.grows c.requires.ready c.in-Ok.ensures.terms refl)
    (ap (named_in (terms_of mid)) c.new-given.ensures) (c.in-Ok-term.ensures.answer (nesting c.args.item.now + 1) less)
