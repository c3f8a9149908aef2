use Rattle.std.proofs.Common.{◌≡◌, ◌<◌, ℕ, false, not, ◌&&◌}
use Rattle.std.specs.Prelude.{◌==◌}
use Rattle.fm_region.specs.Parts.{regions_of}
use Rattle.fm_bank.specs.Regions.{region_at, touches}
use Rattle.fm_region.specs.Rows.{apart_in}
use Rattle.fm_region.proofs.closing.touching_region.Given as goal

abbrev pub invariant-loop-j : goal.invariant-loop-j
invariant-loop-j l = (m : ℕ) → m < l.j → (not (m == l.i) && touches (apart_in l.near) (region_at (regions_of l.parts) l.i) (region_at (regions_of l.parts) m)) ≡ false
