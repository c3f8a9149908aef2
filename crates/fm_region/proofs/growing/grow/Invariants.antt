use Rattle.std.proofs.Common.{◌≡◌, ◌-◌, length}
use Rattle.fm_region.specs.Parts.{AreKept, regions_of}
use Rattle.fm_bank.specs.Regions.{Cover, grown, grown_within}
use Rattle.fm_region.specs.Rows.{apart_in}
use Rattle.fm_region.proofs.growing.grow.Given as goal

abbrev pub invariant-loop-round : goal.invariant-loop-round
invariant-loop-round l = record {
  rest : grown_within (apart_in l.near) l.classes l.k (length l.fn.parts - l._round) (regions_of l.parts) ≡ grown (apart_in l.near) l.classes l.k (regions_of l.fn.parts);
  cover : Cover (regions_of l.parts) l.classes;
  kept : AreKept (apart_in l.near) l.classes l.parts;
}
