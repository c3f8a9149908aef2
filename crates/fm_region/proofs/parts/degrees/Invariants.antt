use Rattle.std.proofs.Common.{◌≡◌, map, take}
use Rattle.fm_region.specs.Parts.{apart_from}
use Rattle.fm_region.specs.Rows.{apart_in}
use Rattle.fm_region.proofs.parts.degrees.Given as goal

abbrev pub invariant-loop-c : goal.invariant-loop-c
invariant-loop-c l = l.degrees ≡ map (apart_from (apart_in l.near) l.classes) (take l.c-index l.classes)
