use Rattle.std.proofs.Common.{ap, length, refl, sym, ◌∙◌}
use Rattle.std.specs.Prelude.{Ok, Option, Result}
use Rattle.fm_base.specs.declared.refusal.Refusal.{Refusal}
use Rattle.fm_script.specs.Shown.{name_shown}
use Rattle.fm_arena.specs.Meanings.{terms_of}
use Rattle.fm_apply.specs.Scoped.{context_of, named_in, names_in}
use Rattle.fm_apply.specs.declared.scope.Found.{Found}
use Rattle.fm_terms.proofs.Stepping.{found_below, read_by, word_found, word_unbound}
use Rattle.fm_terms.proofs.elaboration.word.Goals as goal

pub returns-in-Ok-Some-clause-answer : goal.returns-in-Ok-Some-clause-answer
returns-in-Ok-Some-clause-answer c =
    let ts = terms_of c.args.arena.now in
    word_found (context_of (c.args.scope.now, c.args.frame.now) ts) (named_in ts c.args.given.now) c.args.at (name_shown c.in-Some.part) _ (c.args.arena.now, c.args.given.now) (names_in c.args.frame.now) c.in-Ok-Some.found refl refl (sym c.in-Some.ensures)
    (c.in-Ok-Some.ensures ∙ ap (λ (o : Option Found). let r : Result (Option Found) Refusal = Ok o in r) c.in-Ok-Some.field-0-is)

pub returns-in-Ok-Some-clause-below : goal.returns-in-Ok-Some-clause-below
returns-in-Ok-Some-clause-below c = (
  found_below (length (terms_of c.args.arena.now)) c.in-Some.part.bytes.now (names_in c.args.frame.now) c.in-Ok-Some.found c.requires.ready.bound
      (c.in-Ok-Some.ensures ∙ ap (λ (o : Option Found). let r : Result (Option Found) Refusal = Ok o in r) c.in-Ok-Some.field-0-is),
  c.requires.ready.given,
)

pub returns-in-Ok-None-clause-answer : goal.returns-in-Ok-None-clause-answer
returns-in-Ok-None-clause-answer c =
    let ts = terms_of c.args.arena.now in
    let x = context_of (c.args.scope.now, c.args.frame.now) ts in
    read_by (c.unbound.new.arena, c.args.given.now) c.unbound.result _ _
    (word_unbound x (named_in ts c.args.given.now) c.args.at (name_shown c.in-Some.part) _ ts (names_in c.args.frame.now) refl (sym c.in-Some.ensures)
    (c.in-Ok-None.ensures ∙ ap (λ (o : Option Found). let r : Result (Option Found) Refusal = Ok o in r) c.in-Ok-None.field-0-is))
    c.unbound.ensures.answer
