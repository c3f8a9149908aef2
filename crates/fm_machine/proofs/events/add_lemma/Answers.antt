use Rattle.std.proofs.Common.{sym, ap, subst}
use Rattle.fm_steps.specs.Facts.{AtomsAreKnown}
use Rattle.fm_steps.specs.State.{State}
use Rattle.fm_machine.proofs.Knowns.{lemma_known}
use Rattle.fm_machine.proofs.Staying.{keeps_known, stays_tied}
use Rattle.fm_machine.proofs.events.add_lemma.Goals as goal

pub settle-requires-clause-tied : goal.settle-requires-clause-tied
settle-requires-clause-tied c =
    let s = c.args.search.now in
    let after = c.in_ok-add_lemma.ensures in
    stays_tied s.state c.add_lemma.new.self s.congruence s.regions c.requires.known (keeps_known s.state c.add_lemma.new.self c.args.lits.now (ap (λ (x : State). x.held) after) (ap (λ (x : State). x.trail) after)) c.requires.tied

pub settle-requires-clause-known : goal.settle-requires-clause-known
settle-requires-clause-known c = subst AtomsAreKnown (sym c.in_ok-add_lemma.ensures) (lemma_known c.args.search.now.state c.args.lits.now c.requires.known)
