use Rattle.std.proofs.Common.{◌≡◌, true, false, [], length, sym, subst, ap, ◌∙◌}
use Rattle.std.specs.List.{list_all}
use Rattle.fm_build.specs.Marks.{AreBelow, MarksMore, is_marked}
use Rattle.fm_build.specs.Reached.{pair_of, reached_in}
use Rattle.fm_build.proofs.Marked.{instance_at, marks_none, reach_more, when_chosen}
use Rattle.fm_build.proofs.rounds.reach.Goals as goal
use Rattle.fm_build.proofs.rounds.reach.Goals.{then-are_marked, else-are_marked}

pub mark-requires : goal.mark-requires
mark-requires c =
    let x = c.instance-item.result in
    let here = instance_at (length c.args.marks.now) c.args.added.now c.loop-instance.instance-index x c.requires.added c.loop-instance-test.true c.instance-item.is in
    subst (λ l. AreBelow l (length c.loop-instance.marks)) (sym c.as_slice-then-are_marked.ensures.value) (subst (λ k. AreBelow x.terms.items k) (sym c.loop-instance.invariant.room) here.terms)

pub loop-instance-preserved : goal.loop-instance-preserved
loop-instance-preserved c =
    let x = c.instance-item.result in
    let chosen = c.args.chosen.now in
    let now = c.loop-instance.marks in
    let new = c.if-are_marked.marks in
    let test : list_all (is_marked chosen) x.subst.items ≡ c.are_marked.result = sym (c.are_marked.ensures ∙ ap (list_all (is_marked chosen)) c.as_slice.ensures.value) in
    let one : MarksMore now (reached_in chosen (pair_of x)) new = elim c.if-are_marked.branch [
      | then-are_marked w ↦
          subst (λ ts. MarksMore now ts new) (sym (when_chosen chosen x true (test ∙ w.if-are_marked.true)))
          (subst (λ m. MarksMore now x.terms.items m) (sym w.marks-is) (subst (λ ts. MarksMore now ts w.mark.new.marks) w.as_slice-then-are_marked.ensures.value w.mark.ensures))
      | else-are_marked w ↦
          subst (λ ts. MarksMore now ts new) (sym (when_chosen chosen x false (test ∙ w.if-are_marked.false)))
          (subst (λ m. MarksMore now [] m) (sym w.marks-is) (marks_none now))
    ] in
    reach_more chosen c.args.marks.now now new c.args.added.now c.loop-instance.instance-index x c.loop-instance-test.true c.instance-item.is c.loop-instance.invariant one
