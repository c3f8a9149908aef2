use Rattle.std.proofs.Common.{◌≡◌, drop, not}
use Rattle.std.specs.List.{find}
use Rattle.fm_region.specs.Rows.{apart_in}
use Rattle.fm_region.proofs.strong.open_with.Given as goal

abbrev pub invariant-loop-d : goal.invariant-loop-d
invariant-loop-d l = find (λ d. not (apart_in l.near l.c d)) (drop l.d-index l.others) ≡ find (λ d. not (apart_in l.near l.c d)) l.fn.others
