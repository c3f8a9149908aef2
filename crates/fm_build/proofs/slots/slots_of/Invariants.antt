use Rattle.std.proofs.Common.{◌≡◌, ◌<◌, ℕ, length, take}
use Rattle.fm_build.specs.Slots.{slot_at, slots_from}
use Rattle.fm_build.proofs.slots.slots_of.Given as goal

abbrev pub invariant-loop-sort : goal.invariant-loop-sort
invariant-loop-sort l = record {
  each : (k : ℕ) → k < length l.class → slot_at l.slots.items k ≡ slots_from l.class k 0 (take l.sort l.reps);
  room : length l.slots.items ≡ length l.class;
}
