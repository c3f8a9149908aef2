use Rattle.std.proofs.Common.{◌≡◌, ℕ, ◌≤◌, length}
use Rattle.fm_arena.specs.Frames.{names_at, room_at}
use Rattle.fm_arena.proofs.frames.named.Given as goal

abbrev pub invariant-loop-number : goal.invariant-loop-number
invariant-loop-number l = record {
  tree : (d : ℕ) → names_at l.frames l.number l.place d ≡ names_at l.frames l.frame l.place d;
  within : l.number ≤ length l.frames;
  room : room_at l.frames l.number ≤ room_at l.frames l.frame;
}

abbrev pub decreases-loop-number : goal.decreases-loop-number
decreases-loop-number l = l.number
