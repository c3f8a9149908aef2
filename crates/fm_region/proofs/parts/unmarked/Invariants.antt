use Rattle.std.proofs.Common.{◌≡◌, false, map, take}
use Rattle.fm_region.proofs.parts.unmarked.Given as goal

abbrev pub invariant-loop-c : goal.invariant-loop-c
invariant-loop-c l = l.marks.items ≡ map (λ c. false) (take l._c-index l.classes)
