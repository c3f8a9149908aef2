use Rattle.std.proofs.Common.{List, [], ap, ◌∙◌, arith}
use Rattle.std.proofs.lemmas.List.{get_or_default, take_all}
use Rattle.fm_base.specs.declared.ids.TermId.{TermId}
use Rattle.fm_build.specs.Slots.{or_slot, slot_at, slot_from, slots_from}
use Rattle.fm_build.proofs.Slotting.{slots_next}
use Rattle.fm_build.proofs.slots.slots_of.Goals as goal

pub loop-sort-preserved : goal.loop-sort-preserved
loop-sort-preserved c =
    let inv = c.loop-sort.invariant in
    let cs = c.loop-sort.slots.items in
    let i = c.loop-sort.sort in
    let ts = c.as_slice.ensures ∙ c.index-reps-sort.is ∙ get_or_default c.args.reps.now i c.index-reps-sort.result [] c.loop-sort-test.true in
    record {
      each = λ k lt.
          let e = c.fill_sort.ensures.each k (omega (arith, lt, inv.room)) ∙ ap (λ (us : List TermId). or_slot (slot_at cs k) (slot_from c.args.class.now k i 0 us)) ts in
          slots_next c.args.class.now (slot_at cs k) (slot_at c.fill_sort.new.slots.items k) k i c.args.reps.now c.loop-sort-test.true e (inv.each k lt);
      room = c.fill_sort.ensures.room ∙ inv.room;
    }

pub returns : goal.returns
returns c =
    let reps = c.args.reps.now in
    record {
      below = c.requires;
      each = λ k lt. c.loop-sort.invariant.each k lt ∙ ap (slots_from c.args.class.now k 0) (take_all c.loop-sort.sort reps (omega (arith, c.loop-sort-test.false)));
    }
