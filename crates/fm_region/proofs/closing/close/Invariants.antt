use Rattle.std.proofs.Common.{◌≡◌, ◌-◌, ◌<◌, ℕ, true, length}
use Rattle.fm_region.specs.Parts.{AreKept, regions_of}
use Rattle.fm_bank.specs.Regions.{closed, closed_within, is_closed_at, region_at}
use Rattle.fm_region.specs.Rows.{apart_in}
use Rattle.fm_region.proofs.closing.close.Given as goal

abbrev pub invariant-loop-round : goal.invariant-loop-round
invariant-loop-round l = record {
  rest : closed_within (apart_in l.near) l.classes l.k (length l.fn.parts - l._round) (regions_of l.parts) ≡ closed (apart_in l.near) l.classes l.k (regions_of l.fn.parts);
  front : (m : ℕ) → m < l.from → is_closed_at (apart_in l.near) l.classes l.k (region_at (regions_of l.parts) m) ≡ true;
  kept : AreKept (apart_in l.near) l.classes l.parts;
}
