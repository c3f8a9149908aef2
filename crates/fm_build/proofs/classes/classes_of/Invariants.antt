use Rattle.fm_build.specs.Parts.{AreClasses}
use Rattle.fm_build.proofs.classes.classes_of.Given as goal

abbrev pub invariant-loop-term : goal.invariant-loop-term
invariant-loop-term l = AreClasses l.graph l.term l.class.items
