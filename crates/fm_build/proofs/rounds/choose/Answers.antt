use Rattle.std.proofs.Common.{◌≡◌, ◌++◌, length, sym, subst, ap, ◌∙◌}
use Rattle.std.specs.Vec.{with_items}
use Rattle.fm_build.specs.Marks.{AreBelow, AreMarked, AreTaken, MarksMore, new_by}
use Rattle.fm_build.proofs.Marked.{below_grown, chosen_more, refilled}
use Rattle.fm_build.proofs.rounds.choose.Goals as goal

pub mark-requires : goal.mark-requires
mark-requires c =
    let class = c.args.class.now in
    let round = c.args.round.now in
    let n = length class in
    let more = new_by class round.marks.items round.reps.items n in
    let grown : c.add_representatives.new.reps.items ≡ round.reps.items ++ more = c.in_ok-add_representatives.ensures.reps ∙ ap (λ m. round.reps.items ++ new_by class m round.reps.items n) c.as_slice.ensures.value in
    let below = below_grown class round.marks.items round.reps.items n c.requires.kept.below in
    let room : n ≡ length c.as_mut_slice-2.result.now = sym (ap length c.as_mut_slice-2.ensures.value ∙ c.requires.kept.chosen.room) in
    subst (λ l. AreBelow l (length c.as_mut_slice-2.result.now)) (sym (c.as_slice-2.ensures.value ∙ grown)) (subst (λ k. AreBelow (round.reps.items ++ more) k) room below)

pub returns-clause-kept : goal.returns-clause-kept
returns-clause-kept c =
    let class = c.args.class.now in
    let round = c.args.round.now in
    let kept = c.requires.kept in
    let n = length class in
    let more = new_by class round.marks.items round.reps.items n in
    let reps = c.add_representatives.new.reps.items in
    let chosen = c.mark.new.marks in
    let grown : reps ≡ round.reps.items ++ more = c.in_ok-add_representatives.ensures.reps ∙ ap (λ m. round.reps.items ++ new_by class m round.reps.items n) c.as_slice.ensures.value in
    let below = below_grown class round.marks.items round.reps.items n kept.below in
    let marked : MarksMore round.chosen.items reps chosen = subst (λ o. MarksMore o reps chosen) c.as_mut_slice-2.ensures.value (subst (λ ts. MarksMore c.as_mut_slice-2.result.now ts chosen) c.as_slice-2.ensures.value c.mark.ensures) in
    let all = chosen_more round.chosen.items chosen n round.reps.items more kept.chosen (subst (λ ts. MarksMore round.chosen.items ts chosen) grown marked) in
    let taken = c.add_representatives.new.taken in
    let room : length taken ≡ n = c.add_representatives.auto.taken ∙ ap length c.as_mut_slice.ensures.value ∙ kept.room in
    let back : (with_items round.chosen chosen).items ≡ chosen = refilled round.chosen.len chosen round.chosen.items (marked.room ∙ sym round.chosen.ok.0) in
    let again : (with_items round.taken taken).items ≡ taken = refilled round.taken.len taken round.taken.items (room ∙ sym kept.room ∙ sym round.taken.ok.0) in
    record {
      marks = kept.marks;
      chosen = subst (λ m. AreMarked m n reps) (sym back) (subst (λ l. AreMarked chosen n l) (sym grown) all);
      room = ap length again ∙ room;
      taken = subst (λ t. AreTaken class t reps) (sym again) c.in_ok-add_representatives.ensures.taken;
      below = subst (λ l. AreBelow l n) (sym grown) below;
    }
