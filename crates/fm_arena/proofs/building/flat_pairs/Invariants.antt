use Rattle.std.proofs.Common.{◌≡◌, ◌++◌, length}
use Rattle.fm_arena.specs.Pairs.{flat_pairs}
use Rattle.fm_arena.proofs.building.flat_pairs.Given as goal

abbrev pub invariant-loop-first : goal.invariant-loop-first
invariant-loop-first l = l.list.items ++ flat_pairs l.rest ≡ flat_pairs l.parts

abbrev pub decreases-loop-first : goal.decreases-loop-first
decreases-loop-first l = length l.rest
