use Rattle.std.proofs.Common.{◌≡◌, drop}
use Rattle.fm_region.specs.Parts.{regions_of}
use Rattle.fm_bank.specs.Regions.{first_large}
use Rattle.fm_region.proofs.strong.large_region.Given as goal

abbrev pub invariant-loop-part : goal.invariant-loop-part
invariant-loop-part l = first_large l.k (regions_of (drop l.part-index l.parts)) ≡ first_large l.k (regions_of l.fn.parts)
