use Rattle.std.proofs.Common.{take}
use Rattle.fm_build.specs.Marks.{MarksMore}
use Rattle.fm_build.proofs.marks.mark.Given as goal

abbrev pub invariant-loop-term : goal.invariant-loop-term
invariant-loop-term l = MarksMore l.fn.marks (take l.term-index l.terms) l.marks
