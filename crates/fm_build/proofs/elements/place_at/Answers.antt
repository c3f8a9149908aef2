use Rattle.std.proofs.Common.{◌≡◌, Some, length, refl, ap, sym, ◌∙◌}
use Rattle.std.specs.Prelude.{slice_get}
use Rattle.std.proofs.lemmas.Option.{slice_get_read}
use Rattle.fm_build.specs.Marks.{class_at}
use Rattle.fm_build.specs.Slots.{slot_at}
use Rattle.fm_build.proofs.Marking.{below_at}
use Rattle.fm_build.proofs.Slotting.{placed_by}
use Rattle.fm_build.proofs.elements.place_at.Goals as goal

pub place_by-requires : goal.place_by-requires
place_by-requires c =
    let class = c.args.class.now in
    let all = c.args.reps.now in
    let n = c.args.term in
    let s = c.args.sort.0 in
    let ts = c.as_slice.result.now in
    let there = c.in-Some.ensures.lookup.3 in
    let at : slice_get all s ≡ Some c.in-Some.reps.now = slice_get_read all (length all) s c.in-Some.reps.now refl there.0 (there.1 c.in-Some.reps.now) in
    let reps : slice_get all s ≡ Some ts = at ∙ ap Some (sym c.as_slice.ensures) in
    let own = c.slot-own.ensures ∙ ap (slot_at c.args.slots.now) c.class_of.ensures in
    placed_by class all ts n s c.slot-own.result (own ∙ c.requires.slots.each (class_at class n) (below_at class (length class) n c.requires.slots.below c.requires.term)) reps
