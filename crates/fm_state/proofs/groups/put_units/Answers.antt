use Rattle.std.proofs.Common.{◌≡◌, ◌++◌, List, Some, ap, subst, ◌∙◌}
use Rattle.std.specs.Prelude.{slice_get}
use Rattle.fm_steps.specs.Menu.{unit_at, units_from}
use Rattle.fm_steps.specs.State.{Clause, Trail}
use Rattle.fm_trail.specs.Trail.{unit_of}
use Rattle.fm_state.specs.Offers.{offers_in}
use Rattle.fm_state.proofs.Filling.{units_on}
use Rattle.fm_state.proofs.groups.put_units.Goals as goal

pub loop-number-preserved : goal.loop-number-preserved
loop-number-preserved c =
    let s = c.args.state.now in
    let i = c.loop-number.number in
    let lits = c.clause-lits.result.now in
    let at : slice_get s.clauses i ≡ Some lits = subst (λ (cs : List Clause). slice_get cs i ≡ Some lits) c.store-in-loop-number.ensures c.clause-lits.ensures in
    let put = c.in_ok-put_unit.ensures ∙ ap (λ (t : Trail). offers_in c.loop-number.offers.items ++ unit_at i (unit_of t.entries lits)) c.trail.ensures in
    units_on s.trail.entries s.clauses i lits (offers_in c.loop-number.offers.items) (offers_in c.put_unit.new.offers.items) (offers_in c.args.offers.now.items) (units_from 0 s.trail.entries s.clauses) at put c.loop-number.invariant
