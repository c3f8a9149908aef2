use Rattle.std.proofs.Common.{◌≡◌, refl, sym, subst, ◌∙◌}
use Rattle.std.specs.List.{flat_map}
use Rattle.std.specs.Vec.{with_items}
use Rattle.fm_build.specs.Marks.{MarksMore}
use Rattle.fm_build.specs.Reached.{pairs_of, reached_in}
use Rattle.fm_build.specs.declared.rounds.Reached.{Reached}
use Rattle.fm_build.proofs.Growing.{moves_on}
use Rattle.fm_build.proofs.Marked.{refilled}
use Rattle.fm_build.proofs.rounds.next_round.Goals as goal

pub returns-clause-next : goal.returns-clause-next
returns-clause-next c =
    let class = c.args.class.now in
    let added = c.args.added.now in
    let round = c.args.round.now in
    let marks = c.reach.new.marks in
    let s : Reached = record { marks = with_items round.marks marks; chosen = round.chosen; taken = round.taken; reps = round.reps } in
    let all : MarksMore round.marks.items (flat_map (reached_in round.chosen.items) (pairs_of added)) marks =
    subst (λ o. MarksMore o (flat_map (reached_in round.chosen.items) (pairs_of added)) marks) c.as_mut_slice.ensures.value
    (subst (λ ch. MarksMore c.as_mut_slice.result.now (flat_map (reached_in ch) (pairs_of added)) marks) c.as_slice.ensures.value c.reach.ensures) in
    let back : s.marks.items ≡ marks = refilled round.marks.len marks round.marks.items (all.room ∙ sym round.marks.ok.0) in
    let flat = flat_map (reached_in round.chosen.items) (pairs_of added) in
    moves_on class added round s c.choose.new.round c.requires.kept c.requires.added (subst (λ m. MarksMore round.marks.items flat m) (sym back) all) refl c.in_ok-choose.ensures.chosen
