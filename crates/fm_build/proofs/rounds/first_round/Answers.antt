use Rattle.std.proofs.Common.{◌≡◌, false, length, replicate, sym, subst, ap, ◌∙◌}
use Rattle.std.proofs.lemmas.List.{length-replicate}
use Rattle.std.specs.Vec.{with_items}
use Rattle.fm_build.specs.Marks.{MarksMore}
use Rattle.fm_build.specs.declared.rounds.Reached.{Reached}
use Rattle.fm_build.proofs.Growing.{begins}
use Rattle.fm_build.proofs.Marked.{none_marked, refilled}
use Rattle.fm_build.proofs.rounds.first_round.Goals as goal

pub returns-clause-begins : goal.returns-clause-begins
returns-clause-begins c =
    let class = c.args.class.now in
    let start = c.args.start.now in
    let count = length class in
    let none = replicate count false in
    let marks = c.mark.new.marks in
    let s : Reached = record { marks = with_items c.in_ok-unmarked.field-0 marks; chosen = c.in_ok-unmarked-2.field-0; taken = c.in_ok-unmarked-3.field-0; reps = c.new.result } in
    let more : MarksMore none start marks = subst (λ o. MarksMore o start marks) (c.as_mut_slice.ensures.value ∙ c.in_ok-unmarked.ensures) c.mark.ensures in
    let old = c.in_ok-unmarked.field-0 in
    let back : s.marks.items ≡ marks = refilled old.len marks old.items (more.room ∙ sym (ap length c.in_ok-unmarked.ensures) ∙ sym old.ok.0) in
    begins class start none s c.choose.new.round c.new.ensures.items (none_marked count) (length-replicate count false) (subst (λ m. MarksMore none start m) (sym back) more) c.in_ok-choose.ensures.chosen
