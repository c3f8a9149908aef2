use Rattle.std.proofs.Common.{◌≡◌, Some, subst}
use Rattle.std.specs.Prelude.{slice_get}
use Rattle.fm_bank.specs.Interning.{Held}
use Rattle.fm_steps.specs.Menu.{free_decision, free_decisions}
use Rattle.fm_state.specs.Offers.{offers_in}
use Rattle.fm_state.proofs.Filling.{flat_on}
use Rattle.fm_state.proofs.choices.put_free_decisions.Goals as goal

pub loop-number-preserved : goal.loop-number-preserved
loop-number-preserved c =
    let s = c.args.state.now in
    let i = c.loop-number.number in
    let a = c.atom_of.result in
    let at : slice_get s.held.atoms i ≡ Some a = subst (λ (h : Held). slice_get h.atoms i ≡ Some a) c.bank-in-loop-number.ensures c.atom_of.ensures in
    flat_on (free_decision s) s.held.atoms i a (offers_in c.loop-number.offers.items) (offers_in c.put_free.new.offers.items) (offers_in c.args.offers.now.items) (free_decisions s) at c.in_ok-put_free.ensures c.loop-number.invariant
