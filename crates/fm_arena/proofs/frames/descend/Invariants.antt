use Rattle.std.proofs.Common.{◌≡◌, ℕ, ◌+◌, ◌^◌, ◌≤◌, length, take}
use Rattle.fm_arena.specs.Meanings.{meaning_at, terms_of}
use Rattle.fm_arena.specs.Frames.{IsWithin, names_at, room_at, spot_room, spot_tree, wanted}
use Rattle.fm_arena.proofs.frames.descend.Given as goal

abbrev pub invariant-loop-spot : goal.invariant-loop-spot
invariant-loop-spot l = record {
  tree : (d : ℕ) → wanted l.kind (spot_tree l.frames.items l.spot d) ≡ meaning_at (terms_of l.entries) l.number (names_at l.fn.frames.items l.frame) d;
  within : IsWithin (length l.frames.items) l.spot;
  room : spot_room l.frames.items l.spot ≤ 4 ^ length l.entries + room_at l.fn.frames.items l.frame;
  frames : take (length l.fn.frames.items) l.frames.items ≡ l.fn.frames.items;
}

abbrev pub decreases-loop-spot : goal.decreases-loop-spot
decreases-loop-spot l = spot_room l.frames.items l.spot
