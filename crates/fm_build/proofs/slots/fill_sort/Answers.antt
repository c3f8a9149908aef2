use Rattle.std.proofs.Common.{ℕ, ap, ◌∙◌, arith}
use Rattle.fm_base.specs.declared.ids.TermId.{TermId}
use Rattle.fm_build.specs.Slots.{or_slot, slot_at, slot_of}
use Rattle.fm_build.proofs.Slotting.{slot_next}
use Rattle.fm_build.proofs.slots.fill_sort.Goals as goal

pub loop-place-preserved : goal.loop-place-preserved
loop-place-preserved c =
    let inv = c.loop-place.invariant in
    let old = c.args.slots.now.items in
    let cs = c.loop-place.slots.items in
    let i = c.loop-place.place in
    let d : TermId = record { 0 = 0 } in
    record {
      each = λ k lt.
          let e = c.fill.ensures.each k (omega (arith, lt, inv.room)) ∙ ap (λ (n : ℕ). or_slot (slot_at cs k) (slot_of n k (c.args.sort, i))) c.class_of.ensures in
          slot_next c.args.class.now (slot_at old k) (slot_at cs k) (slot_at c.fill.new.slots.items k) k c.args.sort i c.args.reps.now d c.loop-place-test.true e (inv.each k lt);
      room = c.fill.ensures.room ∙ inv.room;
    }
