use Rattle.std.proofs.Common.{ap}
use Rattle.fm_steps.specs.State.{State}
use Rattle.fm_trail.specs.Trail.{implied}
use Rattle.fm_machine.proofs.Knowns.{unit_known}
use Rattle.fm_machine.proofs.Staying.{keeps_put, stays_tied}
use Rattle.fm_machine.proofs.events.imply_unit.Goals as goal

pub settle-requires-clause-tied : goal.settle-requires-clause-tied
settle-requires-clause-tied c =
    let s = c.args.search.now in
    let row = c.in_ok-imply_unit.ensures in
    let t = c.imply_unit.new.self in
    stays_tied s.state t s.congruence s.regions c.requires.known (keeps_put s.state t (implied s.state.trail.entries row.lit c.args.clause) c.requires.heads (ap (λ (x : State). x.held) row.after) (ap (λ (x : State). x.trail) row.after)) c.requires.tied

pub settle-requires-clause-known : goal.settle-requires-clause-known
settle-requires-clause-known c = unit_known c.args.search.now.state c.imply_unit.new.self c.args.clause c.requires.known c.requires.explained c.in_ok-imply_unit.ensures
