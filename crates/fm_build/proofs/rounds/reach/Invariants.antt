use Rattle.std.proofs.Common.{take}
use Rattle.std.specs.List.{flat_map}
use Rattle.fm_build.specs.Marks.{MarksMore}
use Rattle.fm_build.specs.Reached.{pairs_of, reached_in}
use Rattle.fm_build.proofs.rounds.reach.Given as goal

abbrev pub invariant-loop-instance : goal.invariant-loop-instance
invariant-loop-instance l = MarksMore l.fn.marks (flat_map (reached_in l.chosen) (pairs_of (take l.instance-index l.added))) l.marks
