use Rattle.std.proofs.Common.{List, ap, refl, subst, sym, ℕ, ◌∙◌}
use Rattle.fm_levels.specs.Levels.{joined}
use Rattle.fm_script.specs.Shown.{name_shown}
use Rattle.fm_arena.specs.Meanings.{terms_of}
use Rattle.fm_apply.specs.Applied.{constant_of}
use Rattle.fm_apply.specs.Scoped.{IsTerm, context_of, definition_at, number_term, terms_at}
use Rattle.fm_apply.proofs.Adding.{shown_by}
use Rattle.fm_apply.proofs.Naming.{function_found, function_in_force, function_none, given_found, given_functions, given_none}
use Rattle.fm_apply.proofs.constants.constant.Goals as goal

pub lone-requires : goal.lone-requires
lone-requires c = record { right = function_in_force (terms_of c.args.arena.now) (joined c.args.scope.now.functions.now) c.args.part.bytes.now c.in-Some.function.now c.requires.ready (sym c.in-Some.ensures) }

pub returns-in-Some-clause-answer : goal.returns-in-Some-clause-answer
returns-in-Some-clause-answer c =
    let ts = terms_of c.args.arena.now in
    let n = name_shown c.args.part in
    λ f. let x = context_of (c.args.scope.now, f) ts in
    let found = function_found ts (joined c.args.scope.now.functions.now) (given_functions ts c.args.given.now) n.bytes c.in-Some.function.now (sym c.in-Some.ensures) in
    shown_by (number_term c.lone.new.arena) c.lone.result _ _ (ap (constant_of x n) found.1) (c.lone.ensures.answer found.0 x refl)

pub returns-in-Some-get-clause-answer : goal.returns-in-Some-get-clause-answer
returns-in-Some-get-clause-answer c =
    let ts = terms_of c.args.arena.now in
    let n = name_shown c.args.part in
    λ f. let x = context_of (c.args.scope.now, f) ts in
    let found = given_found ts c.args.given.now n.bytes c.in-Some-get.number.now (sym c.in-Some-get.ensures) in
    shown_by (number_term c.use_definition.new.arena) c.use_definition.result _ _
    (ap (constant_of x n) (function_none ts (joined c.args.scope.now.functions.now) (given_functions ts c.args.given.now) n.bytes (sym c.in-None.ensures) ∙ found.1))
    (subst (λ (is : List ℕ). IsTerm c.use_definition.new.arena c.use_definition.result (definition_at x (number_term c.args.arena.now c.in-Some-get.number.now) (terms_at c.args.arena.now is))) c.new.ensures (c.use_definition.ensures.answer x refl))

pub returns-in-None-get-clause-answer : goal.returns-in-None-get-clause-answer
returns-in-None-get-clause-answer c =
    let ts = terms_of c.args.arena.now in
    let n = name_shown c.args.part in
    λ f. let x = context_of (c.args.scope.now, f) ts in
    shown_by (number_term c.core_word.new.arena) c.core_word.result _ _
    (ap (constant_of x n) (function_none ts (joined c.args.scope.now.functions.now) (given_functions ts c.args.given.now) n.bytes (sym c.in-None.ensures) ∙ given_none ts c.args.given.now n.bytes (sym c.in-None-get.ensures)))
    (c.core_word.ensures.answer x refl)
