use Rattle.fm_build.specs.Parts.{AreTypes}
use Rattle.fm_build.proofs.classes.types_of.Given as goal

abbrev pub invariant-loop-term : goal.invariant-loop-term
invariant-loop-term l = AreTypes l.bank l.term l.types.items
