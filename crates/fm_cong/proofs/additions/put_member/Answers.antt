use Rattle.std.proofs.Common.{List, sym, subst, ◌∙◌}
use Rattle.fm_bank.specs.Closure.{Shape}
use Rattle.fm_cong.specs.Graphs.{cells_of}
use Rattle.fm_cong.specs.Levels.{IsSteady}
use Rattle.fm_cong.specs.Tables.{AreUses}
use Rattle.fm_cong.proofs.Registering.{steady_with}
use Rattle.fm_cong.proofs.additions.put_member.Goals as goal

pub returns-then-state-before-clause-steady : goal.returns-then-state-before-clause-steady
returns-then-state-before-clause-steady c =
    let s = c.args.state.now in
    subst (λ (ss : List Shape). IsSteady ss (cells_of c.args.state.now)) (sym c.in_ok-push.ensures.items) (steady_with c.args.members.now.items c.args.member (cells_of s) c.requires.known c.requires.entered c.requires.steady)

pub settle-requires-clause-steady : goal.settle-requires-clause-steady
settle-requires-clause-steady c =
    let s = c.args.state.now in
    subst (λ (ss : List Shape). IsSteady ss (cells_of c.args.state.now)) (sym (c.as_slice.ensures.value ∙ c.in_ok-push.ensures.items)) (steady_with c.args.members.now.items c.args.member (cells_of s) c.requires.known c.requires.entered c.requires.steady)

pub settle-requires-clause-uses : goal.settle-requires-clause-uses
settle-requires-clause-uses c = subst (λ (ss : List Shape). AreUses ss c.args.uses.now) (sym (c.as_slice.ensures.value ∙ c.in_ok-push.ensures.items)) c.requires.uses
