use Rattle.std.proofs.Common.{◌≡◌, ◌+◌, ◌*◌, ◌^◌, ◌++◌, length, map, drop}
use Rattle.fm_arena.specs.Meanings.{terms_of, meaning_at, meanings_at}
use Rattle.fm_arena.specs.Frames.{names_at, room_at, spot_room}
use Rattle.fm_arena.proofs.trees.+trees.Given as goal

abbrev pub decreases-tree_of : goal.decreases-tree_of
decreases-tree_of l = 4 * (4 ^ length l.entries.now + room_at l.frames.now.items l.frame) + 3

abbrev pub decreases-tree_at_spot : goal.decreases-tree_at_spot
decreases-tree_at_spot l = 4 * spot_room l.frames.now.items l.spot + 2

abbrev pub decreases-block_tree : goal.decreases-block_tree
decreases-block_tree l = 4 * (4 ^ length l.inner.before.now + 2 + room_at l.frames.now.items l.inner.frame)

abbrev pub decreases-made_tree : goal.decreases-made_tree
decreases-made_tree l = 4 * (4 ^ length l.before.now + 2 + room_at l.frames.now.items l.frame)

abbrev pub decreases-trees_of : goal.decreases-trees_of
decreases-trees_of l = 4 * (4 ^ length l.before.now + 1 + room_at l.frames.now.items l.frame)

abbrev pub invariant-trees_of-loop-part : goal.invariant-trees_of-loop-part
invariant-trees_of-loop-part l = record {
  trees : l.list.items ++ meanings_at (map (meaning_at (terms_of l.before)) (drop l.part-index l.parts)) (names_at l.fn.frames.items l.frame) l.depth ≡ meanings_at (map (meaning_at (terms_of l.before)) l.parts) (names_at l.fn.frames.items l.frame) l.depth;
  frames : l.frames.items ≡ l.fn.frames.items;
}
