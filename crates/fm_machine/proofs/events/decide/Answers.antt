use Rattle.std.proofs.Common.{[], ◌∷◌, refl, ap, sym, subst}
use Rattle.fm_bank.specs.Interning.{lit_in}
use Rattle.fm_steps.specs.Facts.{AtomsAreKnown}
use Rattle.fm_steps.specs.State.{State, know}
use Rattle.fm_trail.specs.Trail.{decision}
use Rattle.fm_machine.proofs.Knowns.{decided_known}
use Rattle.fm_machine.proofs.Staying.{keeps_both, keeps_known, keeps_put, stays_tied}
use Rattle.fm_machine.proofs.events.decide.Goals as goal

pub settle-requires-clause-tied : goal.settle-requires-clause-tied
settle-requires-clause-tied c =
    let s = c.args.search.now in
    let l = c.args.lit in
    let after = c.in_ok-number.ensures.after in
    let t = c.decide.new.self in
    let m = know l.atom s.state in
    let one = keeps_known s.state m (l ∷ []) refl refl in
    let two = keeps_put m t (decision s.state.trail.entries (lit_in m.held.atoms l)) c.requires.heads (ap (λ (x : State). x.held) after) (ap (λ (x : State). x.trail) after) in
    stays_tied s.state t s.congruence s.regions c.requires.known (keeps_both s.state m t one two) c.requires.tied

pub settle-requires-clause-known : goal.settle-requires-clause-known
settle-requires-clause-known c =
    let h = decided_known c.args.search.now.state c.args.lit c.requires.known in
    subst AtomsAreKnown (sym c.in_ok-number.ensures.after) (record { trail = h.trail; clauses = h.clauses })
