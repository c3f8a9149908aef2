use Rattle.std.proofs.Common.{◌≤◌, ap, subst, arith}
use Rattle.fm_steps.specs.State.{State}
use Rattle.fm_trail.specs.Trail.{AreLevelled, level_of}
use Rattle.fm_state.proofs.Going.{back_same}
use Rattle.fm_state.proofs.standing.State.go_back.Goals as goal

pub returns-else-level : goal.returns-else-level
returns-else-level c =
    let s = c.args.self.now in
    let levels = subst (λ (x : State). AreLevelled 0 x.trail.entries) c.self.view_is c.entries_are_levelled.ensures.levels in
    let le : level_of s.trail.entries ≤ c.args.level = (let a = c.if-level.false in let b = c.level.ensures in let e = ap (λ (x : State). level_of x.trail.entries) c.self.view_is in omega (arith, a, b, e)) in
    back_same s c.args.level levels le c.requires
