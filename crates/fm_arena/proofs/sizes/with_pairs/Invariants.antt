use Rattle.std.proofs.Common.{◌≡◌, ◌+◌, ◌≤◌, ◌<◌, drop}
use Rattle.std.specs.Prelude.{max}
use Rattle.fm_arena.specs.Measures.{total, deepest}
use Rattle.fm_arena.specs.Kept.{pairs_with}
use Rattle.fm_arena.proofs.sizes.with_pairs.Given as goal

abbrev pub invariant-loop-other : goal.invariant-loop-other
invariant-loop-other l =
    record {
      size : l.size + total (pairs_with l.entries l.first (drop l.other-index l.others)) ≡ l.fn.start.size + total (pairs_with l.entries l.first l.others);
      few : l.size ≤ 1000000;
      depth : max l.depth (deepest (pairs_with l.entries l.first (drop l.other-index l.others))) ≡ max l.fn.start.depth (deepest (pairs_with l.entries l.first l.others));
      shallow : l.depth < 400;
    }
