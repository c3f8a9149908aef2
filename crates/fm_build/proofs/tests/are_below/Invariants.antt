use Rattle.std.proofs.Common.{drop}
use Rattle.fm_build.specs.Marks.{AreBelow}
use Rattle.fm_build.proofs.tests.are_below.Given as goal

-- where the rest is below, all are
abbrev pub invariant-loop-term : goal.invariant-loop-term
invariant-loop-term l = AreBelow (drop l.term-index l.terms) l.count → AreBelow l.terms l.count
