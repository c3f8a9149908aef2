use Rattle.std.proofs.Common.{◌≡◌, ◌++◌, drop}
use Rattle.fm_arena.specs.Pairs.{each_pair}
use Rattle.fm_arena.proofs.building.add_pairs.Given as goal

abbrev pub invariant-loop-other : goal.invariant-loop-other
invariant-loop-other l = l.list.items ++ each_pair l.first (drop l.other-index l.others) ≡ l.fn.list.items ++ each_pair l.first l.others
