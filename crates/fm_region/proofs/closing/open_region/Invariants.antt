use Rattle.std.proofs.Common.{◌≡◌, ◌<◌, ℕ, false, not}
use Rattle.fm_region.specs.Parts.{regions_of}
use Rattle.fm_bank.specs.Regions.{is_closed_at, region_at}
use Rattle.fm_region.specs.Rows.{apart_in}
use Rattle.fm_region.proofs.closing.open_region.Given as goal

abbrev pub invariant-loop-i : goal.invariant-loop-i
invariant-loop-i l = (m : ℕ) → m < l.i → not (is_closed_at (apart_in l.near) l.classes l.k (region_at (regions_of l.parts) m)) ≡ false
