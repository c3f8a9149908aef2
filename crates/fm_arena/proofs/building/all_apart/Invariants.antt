use Rattle.std.proofs.Common.{◌≡◌, ◌++◌, List}
use Rattle.fm_arena.specs.Pairs.{held_list, paired}
use Rattle.fm_arena.specs.declared.node.Tree.{Tree}
use Rattle.fm_arena.proofs.building.all_apart.Given as goal

abbrev pub invariant-loop-tree : goal.invariant-loop-tree
invariant-loop-tree l = record {
  whole : (rest : List Tree) → paired l.truth (l.yielded ++ rest) ≡ l.list.items ++ paired l.truth (held_list l.held ++ rest);
  so_far : l.list.items ≡ paired l.truth l.yielded;
}
