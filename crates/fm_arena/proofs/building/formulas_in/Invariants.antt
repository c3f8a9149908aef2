use Rattle.std.proofs.Common.{◌≡◌, map}
use Rattle.fm_arena.specs.Trees.{formula_in}
use Rattle.fm_arena.proofs.building.formulas_in.Given as goal

abbrev pub invariant-loop-tree : goal.invariant-loop-tree
invariant-loop-tree l = l.list.items ≡ map formula_in l.yielded
