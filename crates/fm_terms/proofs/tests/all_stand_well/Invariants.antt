use Rattle.std.proofs.Common.{drop}
use Rattle.fm_arena.specs.Meanings.{terms_of}
use Rattle.fm_levels.specs.Levels.{joined}
use Rattle.fm_apply.specs.Scoped.{AreInForce}
use Rattle.fm_terms.proofs.tests.all_stand_well.Given as goal

abbrev pub invariant-loop-place : goal.invariant-loop-place
invariant-loop-place l = AreInForce (terms_of l.arena) (drop l.place (joined l.functions)) → AreInForce (terms_of l.arena) (joined l.functions)
