use Rattle.std.proofs.Common.{◌≡◌, map}
use Rattle.std.specs.List.{range_with_len}
use Rattle.fm_build.specs.Elements.{element_by}
use Rattle.fm_build.proofs.elements.all_elements.Given as goal

abbrev pub invariant-loop-term : goal.invariant-loop-term
invariant-loop-term l = l.elements.items ≡ map (element_by l.class l.types l.holds l.reps) (range_with_len 0 l.term)
