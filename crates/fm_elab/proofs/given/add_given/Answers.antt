use Rattle.std.proofs.Common.{List, ap, sym, ◌∙◌}
use Rattle.fm_base.specs.declared.signature.Ty.{Ty}
use Rattle.fm_elab.specs.Givens.{definition_at, given_at, put_function, put_functions}
use Rattle.fm_elab.specs.Held.{functions_at}
use Rattle.fm_elab.proofs.Holding.{body_below, given_next, given_none}
use Rattle.fm_elab.proofs.Placing.{extends_trans}
use Rattle.fm_elab.proofs.given.add_given.Goals as goal
use Rattle.fm_elab.proofs.given.add_given.Goals.{in-Some+in_ok-define, in_default}

pub define-requires-clause-body : goal.define-requires-clause-body
define-requires-clause-body c =
    body_below c.args.arena.now c.loop-place.arena c.args.given.now c.loop-place.place (c.in-Some.name.now, c.in-Some.number.now) c.loop-place.invariant.grows c.requires.given (sym c.in-Some.ensures)

pub returns-in_err-define-clause-extends : goal.returns-in_err-define-clause-extends
returns-in_err-define-clause-extends c = extends_trans c.args.first c.args.functions.now c.loop-place.functions c.define.new.functions c.loop-place.invariant.extends c.define.ensures.extends

pub loop-place-preserved : goal.loop-place-preserved
loop-place-preserved c =
    elim c.match-at.branch [
      | in-Some+in_ok-define w ↦
          let k = given_next c.args.first c.args.arena.now c.loop-place.arena w.define.new.arena c.match-at.arena c.args.functions.now c.loop-place.functions w.define.new.functions c.match-at.functions c.args.given.now c.loop-place.place (w.in-Some.name.now, w.in-Some.number.now)
          (put_functions c.args.first (functions_at c.args.arena.now c.args.functions.now) (given_at c.args.arena.now c.args.given.now))
          w.arena-is w.functions-is c.loop-place.invariant.grows c.requires.given (sym w.in-Some.ensures) c.loop-place.invariant.rest (w.in_ok-define.ensures.added ∙ ap (λ (tys : List Ty). put_function c.args.first (functions_at c.loop-place.arena c.loop-place.functions) (definition_at c.loop-place.arena w.in-Some.name.now tys w.in-Some.number.now)) w.new-none.ensures) w.define.ensures.grows w.define.ensures.in_force c.loop-place.invariant.extends w.define.ensures.extends in
          record { rest = k.0; grows = k.1; in_force = k.2; extends = k.3 }
      | in_default w ↦
          let k = given_none c.args.first c.args.arena.now c.loop-place.arena c.match-at.arena c.args.functions.now c.loop-place.functions c.match-at.functions c.args.given.now c.loop-place.place
          (put_functions c.args.first (functions_at c.args.arena.now c.args.functions.now) (given_at c.args.arena.now c.args.given.now))
          w.arena-is w.functions-is (sym w.in_default.ensures) c.loop-place.invariant.grows c.loop-place.invariant.in_force c.loop-place.invariant.extends c.loop-place.invariant.rest in
          record { rest = k.0; grows = k.1; in_force = k.2; extends = k.3 }
    ]
