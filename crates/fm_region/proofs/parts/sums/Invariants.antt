use Rattle.std.proofs.Common.{◌≡◌, map, take}
use Rattle.fm_region.specs.Parts.{sum_at}
use Rattle.fm_region.proofs.parts.sums.Given as goal

abbrev pub invariant-loop-c : goal.invariant-loop-c
invariant-loop-c l = l.sums ≡ map (sum_at l.a l.b) (take l.c-index l.classes)
