use Rattle.std.proofs.Common.{◌≡◌, map, take}
use Rattle.std.specs.Prelude.{if◌then◌else◌}
use Rattle.fm_region.specs.Rows.{apart_in}
use Rattle.fm_region.proofs.parts.column.Given as goal

abbrev pub invariant-loop-d : goal.invariant-loop-d
invariant-loop-d l = l.column ≡ map (λ d. if apart_in l.near d l.c then 1 else 0) (take l.d-index l.classes)
