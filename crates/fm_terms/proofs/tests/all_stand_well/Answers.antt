use Rattle.std.proofs.Common.{sym}
use Rattle.fm_arena.specs.Meanings.{terms_of}
use Rattle.fm_levels.specs.Levels.{joined}
use Rattle.fm_terms.proofs.Checking.{force_step}
use Rattle.fm_terms.proofs.tests.all_stand_well.Goals as goal

pub loop-place-preserved : goal.loop-place-preserved
loop-place-preserved c =
    force_step (terms_of c.args.arena.now) (joined c.args.functions.now) c.loop-place.place (c.in-Some-at.field-0-0.now, c.in-Some-at.function.now) (sym c.in-Some-at.ensures) (c.stands_well.ensures c.if-not-stands_well.false) c.loop-place.invariant
