use Rattle.std.proofs.Common.{◌≡◌, ◌<◌, ℕ, length, take}
use Rattle.fm_build.specs.Slots.{or_slot, slot_at, slot_from}
use Rattle.fm_build.proofs.slots.fill_sort.Given as goal

abbrev pub invariant-loop-place : goal.invariant-loop-place
invariant-loop-place l = record {
  each : (k : ℕ) → k < length l.fn.slots.items → slot_at l.slots.items k ≡ or_slot (slot_at l.fn.slots.items k) (slot_from l.class k l.sort 0 (take l.place l.reps));
  room : length l.slots.items ≡ length l.fn.slots.items;
}
