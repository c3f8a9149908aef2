use Rattle.std.proofs.Common.{ap, map, refl, sym, ◌∙◌}
use Rattle.fm_levels.specs.Levels.{joined}
use Rattle.fm_elab.specs.Shown.{names_shown}
use Rattle.fm_elab.proofs.Holding.{each_none, each_step, names_push}
use Rattle.fm_elab.proofs.problem.names_in.Goals as goal
use Rattle.fm_elab.proofs.problem.names_in.Goals.{in-Some-at+in_ok-push, in_default-at}

pub loop-place-preserved : goal.loop-place-preserved
loop-place-preserved g c =
    elim c.match-at.branch [
      | in-Some-at+in_ok-push w ↦ each_step (λ e. e.0) (joined c.args.declared.now) c.loop-place.place (names_shown c.loop-place.names.items) (names_shown c.match-at.names.items) (map (λ e. e.0) (joined c.args.declared.now)) _ w.in-Some-at.name.now (sym w.in-Some-at.ensures) refl
          (ap (λ v. names_shown v.items) w.names-is ∙ ap names_shown w.in_ok-push.ensures.items ∙ names_push c.loop-place.names.items w.in-Some-at.name) c.loop-place.invariant
      | in_default-at w ↦ each_none (λ e. e.0) (joined c.args.declared.now) c.loop-place.place (names_shown c.loop-place.names.items) (names_shown c.match-at.names.items) (map (λ e. e.0) (joined c.args.declared.now)) (sym w.in_default-at.ensures)
          (ap (λ v. names_shown v.items) w.names-is) c.loop-place.invariant
    ]
