use Rattle.std.proofs.Common.{length, refl, ap, sym, subst}
use Rattle.fm_bank.specs.Interning.{lit_in}
use Rattle.fm_steps.specs.Facts.{AtomsAreKnown}
use Rattle.fm_steps.specs.Lemmas.{is_known}
use Rattle.fm_steps.specs.State.{State, with_literals}
use Rattle.fm_steps.proofs.Due.{all_in}
use Rattle.fm_bank.specs.declared.literal.Literal.{Literal}
use Rattle.fm_trail.specs.Trail.{implied}
use Rattle.fm_machine.proofs.Knowns.{implied_known}
use Rattle.fm_machine.proofs.Staying.{keeps_both, keeps_known, keeps_put, stays_tied}
use Rattle.fm_machine.proofs.events.imply_lemma.Goals as goal

pub settle-requires-clause-tied : goal.settle-requires-clause-tied
settle-requires-clause-tied c =
    let s = c.args.search.now in
    let after = c.in_ok-imply_lemma.ensures in
    let t = c.imply_lemma.new.self in
    let m = with_literals c.args.lits.now s.state in
    let one = keeps_known s.state m c.args.lits.now refl refl in
    let two = keeps_put m t (implied s.state.trail.entries (lit_in s.state.held.atoms c.args.lit) (length s.state.clauses)) c.requires.heads (ap (λ (x : State). x.held) after) (ap (λ (x : State). x.trail) after) in
    stays_tied s.state t s.congruence s.regions c.requires.known (keeps_both s.state m t one two) c.requires.tied

pub settle-requires-clause-known : goal.settle-requires-clause-known
settle-requires-clause-known c =
    let s = c.args.search.now.state in
    let k = all_in (λ (l : Literal). is_known s l.atom) c.args.lits.now c.args.lit c.requires.there c.requires.unit.has in
    subst AtomsAreKnown (sym c.in_ok-imply_lemma.ensures) (implied_known s c.args.lits.now c.args.lit (length s.clauses) c.requires.known k)
