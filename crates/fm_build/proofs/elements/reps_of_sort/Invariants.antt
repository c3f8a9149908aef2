use Rattle.std.proofs.Common.{◌≡◌, take}
use Rattle.fm_bank.specs.Terms.{numbers}
use Rattle.fm_build.specs.Elements.{reps_by}
use Rattle.fm_build.proofs.elements.reps_of_sort.Given as goal

abbrev pub invariant-loop-rep : goal.invariant-loop-rep
invariant-loop-rep l = numbers l.found ≡ reps_by l.types (take l.rep-index l.reps) l.sort.0
