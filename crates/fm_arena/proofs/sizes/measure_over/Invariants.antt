use Rattle.std.proofs.Common.{◌≡◌, ◌+◌, ◌≤◌, map, drop}
use Rattle.std.specs.Prelude.{max}
use Rattle.fm_arena.specs.Measures.{total, deepest}
use Rattle.fm_arena.specs.Kept.{kept_at}
use Rattle.fm_arena.proofs.sizes.measure_over.Given as goal

abbrev pub invariant-loop-part : goal.invariant-loop-part
invariant-loop-part l =
    record {
      size : l.size + total (map (kept_at l.entries) (drop l.part-index l.parts)) ≡ 1 + total (map (kept_at l.entries) l.parts);
      few : l.size ≤ 1000000;
      depth : max l.depth (deepest (map (kept_at l.entries) (drop l.part-index l.parts))) ≡ deepest (map (kept_at l.entries) l.parts);
    }
