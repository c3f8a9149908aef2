use Rattle.std.proofs.Common.{◌≡◌, drop}
use Rattle.fm_bank.specs.Regions.{first_large}
use Rattle.fm_region.proofs.picking.large_region.Given as goal

abbrev pub invariant-loop-region : goal.invariant-loop-region
invariant-loop-region l = first_large l.k (drop l.region-index l.regions) ≡ first_large l.k l.regions
