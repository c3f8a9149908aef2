use Rattle.std.proofs.Common.{◌≡◌, List, Some, length, not, subst}
use Rattle.std.specs.Prelude.{slice_get}
use Rattle.fm_steps.specs.Rows.{is_satisfied}
use Rattle.fm_steps.specs.State.{Clause, Trail}
use Rattle.fm_state.specs.Groups.{AreMarkedWhere}
use Rattle.fm_state.proofs.Marking.{far_on}
use Rattle.fm_state.proofs.wanted.wanted.Goals as goal

pub loop-number-preserved : goal.loop-number-preserved
loop-number-preserved c =
    let s = c.args.state.now in
    let i = c.loop-number.number in
    let lits = c.clause-lits.result.now in
    let at : slice_get s.clauses i ≡ Some lits = subst (λ (cs : List Clause). slice_get cs i ≡ Some lits) c.store-in-loop-number.ensures c.clause-lits.ensures in
    let marked : AreMarkedWhere (not (is_satisfied s.trail.entries lits)) lits c.loop-number.marks.items c.mark_open_clause.new.marks.items = subst (λ (t : Trail). AreMarkedWhere (not (is_satisfied t.entries lits)) lits c.loop-number.marks.items c.mark_open_clause.new.marks.items) c.trail.ensures c.mark_open_clause.ensures in
    far_on (length s.held.atoms) s.trail.entries s.clauses i lits c.loop-number.marks.items c.mark_open_clause.new.marks.items at c.loop-number.invariant marked
