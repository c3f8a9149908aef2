use Rattle.std.proofs.Common.{ap, refl, sym, ◌∙◌}
use Rattle.fm_levels.specs.Levels.{joined}
use Rattle.fm_script.specs.Shown.{name_shown}
use Rattle.fm_arena.specs.Meanings.{terms_of}
use Rattle.fm_apply.specs.Applied.{function_at}
use Rattle.fm_apply.specs.Scoped.{context_of, number_term, terms_at}
use Rattle.fm_apply.proofs.Adding.{shown_by}
use Rattle.fm_apply.proofs.Naming.{function_found, function_in_force, function_none, given_functions, given_none, given_takes_none}
use Rattle.fm_levels.proofs.Tabling.{has_none}
use Rattle.fm_apply.proofs.application.function.Goals as goal

pub fits-requires-clause-right : goal.fits-requires-clause-right
fits-requires-clause-right c = function_in_force (terms_of c.args.arena.now) (joined c.args.scope.now.functions.now) c.args.part.bytes.now c.in-Some.found.now c.requires.ready (sym c.in-Some.ensures)

pub returns-in-Some-clause-answer : goal.returns-in-Some-clause-answer
returns-in-Some-clause-answer c =
    let ts = terms_of c.args.arena.now in
    let n = name_shown c.args.part in
    let args = terms_at c.args.arena.now c.args.args in
    λ f. let x = context_of (c.args.scope.now, f) ts in
    let found = function_found ts (joined c.args.scope.now.functions.now) (given_functions ts c.args.given.now) n.bytes c.in-Some.found.now (sym c.in-Some.ensures) in
    shown_by (number_term c.fits.new.arena) c.fits.result _ _ (ap (function_at x c.args.at n c.args.items.now args) found.1) (c.fits.ensures.answer found.0 x refl)

pub returns-then-has-clause-answer : goal.returns-then-has-clause-answer
returns-then-has-clause-answer c =
    let ts = terms_of c.args.arena.now in
    let n = name_shown c.args.part in
    λ f. given_takes_none (context_of (c.args.scope.now, f) ts) c.args.arena.now c.args.arena.now (joined c.args.scope.now.functions.now) c.args.given.now c.args.at n c.args.items.now c.args.args c.refuse.result
    c.requires.some (sym c.in-None.ensures) (sym c.has.ensures ∙ c.if-has.true) c.refuse.ensures

pub returns-else-has-clause-answer : goal.returns-else-has-clause-answer
returns-else-has-clause-answer c =
    let ts = terms_of c.args.arena.now in
    let n = name_shown c.args.part in
    let args = terms_at c.args.arena.now c.args.args in
    λ f. let x = context_of (c.args.scope.now, f) ts in
    shown_by (number_term c.core.new.arena) c.core.result _ _
    (ap (function_at x c.args.at n c.args.items.now args) (function_none ts (joined c.args.scope.now.functions.now) (given_functions ts c.args.given.now) n.bytes (sym c.in-None.ensures) ∙ given_none ts c.args.given.now n.bytes (has_none n.bytes c.args.given.now (sym c.has.ensures ∙ c.if-has.false))))
    (c.core.ensures.answer x refl)
