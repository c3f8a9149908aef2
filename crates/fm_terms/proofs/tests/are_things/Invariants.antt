use Rattle.std.proofs.Common.{drop, map, ◌≡◌}
use Rattle.fm_base.specs.Truth.{is_bool}
use Rattle.fm_arena.specs.Trees.{all_things}
use Rattle.fm_terms.proofs.tests.are_things.Given as goal

abbrev pub invariant-loop-ty : goal.invariant-loop-ty
invariant-loop-ty l = all_things (map is_bool (drop l.ty-index l.types)) ≡ all_things (map is_bool l.types)
