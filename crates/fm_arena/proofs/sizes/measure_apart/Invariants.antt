use Rattle.std.proofs.Common.{◌≡◌, ◌+◌, ◌≤◌, ◌<◌, map, length}
use Rattle.std.specs.Prelude.{max}
use Rattle.fm_arena.specs.Measures.{total, deepest, all_pairs}
use Rattle.fm_arena.specs.Kept.{kept_at}
use Rattle.fm_arena.proofs.sizes.measure_apart.Given as goal

abbrev pub invariant-loop-first : goal.invariant-loop-first
invariant-loop-first l =
    record {
      size : l.sum.size + total (all_pairs (map (kept_at l.entries) l.rest)) ≡ 1 + total (all_pairs (map (kept_at l.entries) l.parts));
      few : l.sum.size ≤ 1000000;
      depth : max l.sum.depth (deepest (all_pairs (map (kept_at l.entries) l.rest))) ≡ deepest (all_pairs (map (kept_at l.entries) l.parts));
      shallow : l.sum.depth < 400;
    }

abbrev pub decreases-loop-first : goal.decreases-loop-first
decreases-loop-first l = length l.rest
