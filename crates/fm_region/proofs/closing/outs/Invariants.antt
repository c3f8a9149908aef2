use Rattle.std.proofs.Common.{◌≡◌, ◌-◌, map, take}
use Rattle.fm_region.specs.Parts.{count_at}
use Rattle.fm_region.proofs.closing.outs.Given as goal

abbrev pub invariant-loop-c : goal.invariant-loop-c
invariant-loop-c l = l.counts.items ≡ map (λ c. count_at l.degrees c - count_at l.part.inside c) (take l.c-index l.part.classes)
