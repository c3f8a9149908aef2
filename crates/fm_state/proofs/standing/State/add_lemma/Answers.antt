use Rattle.std.proofs.Common.{map, sym, ap, subst, ◌∙◌}
use Rattle.fm_base.specs.Resolution.{AreDistinct}
use Rattle.fm_bank.specs.Interning.{lit_in}
use Rattle.fm_steps.specs.State.{State}
use Rattle.fm_state.proofs.Distinct.{numbers_distinct}
use Rattle.fm_state.proofs.standing.State.add_lemma.Goals as goal

pub add-requires : goal.add-requires
add-requires c =
    let s = c.args.self.now in
    let ls = c.args.lits.now in
    let is = c.as_slice.ensures.value ∙ c.in_ok-found.ensures.numbers ∙ ap (λ (x : State). map (lit_in x.held.atoms) ls) c.in_ok-found.ensures.known in
    subst AreDistinct (sym is) (numbers_distinct s.held.atoms ls c.requires.once)
