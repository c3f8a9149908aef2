use Rattle.fm_build.specs.Parts.{AreTruths}
use Rattle.fm_build.proofs.classes.truths_of.Given as goal

abbrev pub invariant-loop-term : goal.invariant-loop-term
invariant-loop-term l = AreTruths l.graph l.term l.holds.items
