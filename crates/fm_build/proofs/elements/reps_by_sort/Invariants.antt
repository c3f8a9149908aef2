use Rattle.std.proofs.Common.{◌≡◌}
use Rattle.fm_rounds.specs.Failing.{numbered_reps}
use Rattle.fm_build.specs.Elements.{all_reps_by}
use Rattle.fm_build.proofs.elements.reps_by_sort.Given as goal

abbrev pub invariant-loop-sort : goal.invariant-loop-sort
invariant-loop-sort l = numbered_reps l.all ≡ all_reps_by l.types l.reps l.sort
