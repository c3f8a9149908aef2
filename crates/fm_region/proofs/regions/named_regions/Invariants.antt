use Rattle.std.proofs.Common.{◌≡◌, map, take}
use Rattle.fm_bank.specs.Terms.{numbers}
use Rattle.fm_region.specs.Parts.{regions_of}
use Rattle.fm_region.specs.Rows.{number_at}
use Rattle.fm_region.proofs.regions.named_regions.Given as goal

abbrev pub invariant-loop-part : goal.invariant-loop-part
invariant-loop-part l = l.named ≡ map (map (number_at (numbers l.terms))) (regions_of (take l.part-index l.parts))
