use Rattle.std.proofs.Common.{◌≡◌, map, drop}
use Rattle.fm_arena.specs.Meanings.{kind_at, terms_of}
use Rattle.fm_arena.specs.Trees.{all_things}
use Rattle.fm_arena.proofs.taking.are_things.Given as goal

abbrev pub invariant-loop-part : goal.invariant-loop-part
invariant-loop-part l = all_things (map (kind_at (terms_of l.arena)) (drop l.part-index l.parts)) ≡ all_things (map (kind_at (terms_of l.arena)) l.parts)
