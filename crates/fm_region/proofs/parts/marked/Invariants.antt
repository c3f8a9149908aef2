use Rattle.std.proofs.Common.{◌≡◌, false, take, get_or}
use Rattle.std.specs.List.{filter}
use Rattle.fm_region.proofs.parts.marked.Given as goal

abbrev pub invariant-loop-c : goal.invariant-loop-c
invariant-loop-c l = l.both ≡ filter (λ c. get_or l.marks c false) (take l.c-index l.classes)
