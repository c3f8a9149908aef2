use Rattle.std.proofs.Common.{◌≡◌, map}
use Rattle.fm_arena.specs.Trees.{thing_in}
use Rattle.fm_arena.proofs.building.things_in.Given as goal

abbrev pub invariant-loop-tree : goal.invariant-loop-tree
invariant-loop-tree l = l.list.items ≡ map thing_in l.yielded
