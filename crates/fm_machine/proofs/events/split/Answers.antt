use Rattle.std.proofs.Common.{true, [], ◌∷◌, ap, sym, subst}
use Rattle.fm_bank.specs.Instances.{equality}
use Rattle.fm_steps.specs.Facts.{AtomsAreKnown}
use Rattle.fm_steps.specs.Sizes.{lit}
use Rattle.fm_steps.specs.State.{State}
use Rattle.fm_machine.proofs.Knowns.{all_known}
use Rattle.fm_machine.proofs.Staying.{keeps_known, stays_tied}
use Rattle.fm_machine.proofs.events.split.Goals as goal

pub settle-requires-clause-tied : goal.settle-requires-clause-tied
settle-requires-clause-tied c =
    let s = c.args.search.now in
    let after = c.in_ok-split.ensures in
    let l = lit true (equality c.args.a.0 c.args.b.0) in
    stays_tied s.state c.split.new.self s.congruence s.regions c.requires.known (keeps_known s.state c.split.new.self (l ∷ []) (ap (λ (x : State). x.held) after) (ap (λ (x : State). x.trail) after)) c.requires.tied

pub settle-requires-clause-known : goal.settle-requires-clause-known
settle-requires-clause-known c = subst AtomsAreKnown (sym c.in_ok-split.ensures) (all_known c.args.search.now.state (lit true (equality c.args.a.0 c.args.b.0) ∷ []) c.requires.known)
