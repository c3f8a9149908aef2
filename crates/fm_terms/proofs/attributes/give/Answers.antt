use Rattle.std.proofs.Common.{[], refl, sym, ◌∙◌}
use Rattle.fm_levels.specs.Levels.{joined}
use Rattle.fm_script.specs.Shown.{name_shown}
use Rattle.fm_arena.specs.Meanings.{terms_of}
use Rattle.fm_apply.specs.Scoped.{context_in, context_of, named_in, names_in, places_in}
use Rattle.fm_levels.specs.Tables.{has}
use Rattle.fm_terms.specs.Scoped.{read_in}
use Rattle.fm_terms.proofs.Attaching.{given_added, given_below, given_refused, not_there, now_given}
use Rattle.fm_terms.proofs.attributes.give.Goals as goal

pub returns-then-is_taken-clause-answer : goal.returns-then-is_taken-clause-answer
returns-then-is_taken-clause-answer c =
    let ts = terms_of c.args.arena.now in
    λ f. given_refused (context_of (c.args.scope.now, f) ts) (name_shown c.args.part) (read_in c.args.arena.now c.args.found (named_in ts c.args.given.now)) (c.args.arena.now, c.args.given.now) c.refuse.result
    (sym (c.is_taken.ensures ts (names_in f) (places_in f)) ∙ c.if-is_taken.true) c.refuse.ensures

pub returns-in-Ok-insert-clause-answer : goal.returns-in-Ok-insert-clause-answer
returns-in-Ok-insert-clause-answer c =
    let ts = terms_of c.args.arena.now in
    let name = c.args.part.bytes.now in
    let free = sym (c.is_taken.ensures ts [] 0) ∙ c.if-is_taken.false in
    let there = not_there (context_in c.args.scope.now [] 0 ts) ts (joined c.args.scope.now.functions.now) c.args.given.now name refl free in
    let added = now_given c.in-Ok-insert.field-0 (has name c.args.given.now) c.args.given.now c.insert.new.self name c.in-Ok.number c.in-Ok-insert.ensures.free there c.in-Ok-insert.ensures.added in
    λ f. given_added c.args.scope.now f c.args.arena.now c.define.new.self c.args.given.now c.insert.new.self (name_shown c.args.part) c.args.found c.in-Ok.number
    (sym (c.is_taken.ensures ts (names_in f) (places_in f)) ∙ c.if-is_taken.false) c.in-Ok.ensures.added c.in-Ok.ensures.number c.requires.given c.requires.number added

pub returns-in-Ok-insert-clause-below : goal.returns-in-Ok-insert-clause-below
returns-in-Ok-insert-clause-below c =
    let ts = terms_of c.args.arena.now in
    let name = c.args.part.bytes.now in
    let free = sym (c.is_taken.ensures ts [] 0) ∙ c.if-is_taken.false in
    let there = not_there (context_in c.args.scope.now [] 0 ts) ts (joined c.args.scope.now.functions.now) c.args.given.now name refl free in
    let added = now_given c.in-Ok-insert.field-0 (has name c.args.given.now) c.args.given.now c.insert.new.self name c.in-Ok.number c.in-Ok-insert.ensures.free there c.in-Ok-insert.ensures.added in
    given_below c.args.arena.now c.define.new.self c.args.given.now c.insert.new.self name c.args.found.number c.in-Ok.number c.in-Ok.ensures.added c.in-Ok.ensures.number c.requires.given c.requires.number added
