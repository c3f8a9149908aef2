use Rattle.std.proofs.Common.{◌≤◌, length, subst, arith}
use Rattle.std.proofs.lemmas.List.{take_all}
use Rattle.fm_steps.specs.State.{Clause}
use Rattle.fm_state.specs.Groups.{AreMarked}
use Rattle.fm_state.proofs.Marking.{marked_next}
use Rattle.fm_state.proofs.wanted.mark_clause.Goals as goal

pub loop-lit-preserved : goal.loop-lit-preserved
loop-lit-preserved c = marked_next c.args.lits.now c.loop-lit.lit-index _ c.args.marks.now.items c.loop-lit.marks.items c.mark.new.marks.items c.loop-lit-test.true c.loop-lit.invariant c.mark.ensures

pub returns : goal.returns
returns c =
    let past : length c.args.lits.now ≤ c.loop-lit.lit-index = omega arith in
    subst (λ (ls : Clause). AreMarked ls c.args.marks.now.items c.loop-lit.marks.items) (take_all c.loop-lit.lit-index c.args.lits.now past) c.loop-lit.invariant
