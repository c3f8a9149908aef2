use Rattle.std.proofs.Common.{◌≡◌, drop}
use Rattle.std.specs.List.{list_any}
use Rattle.fm_region.specs.Parts.{regions_of}
use Rattle.fm_bank.specs.Regions.{is_large}
use Rattle.fm_region.proofs.growing.has_large.Given as goal

abbrev pub invariant-loop-part : goal.invariant-loop-part
invariant-loop-part l = list_any (λ r. is_large l.k r) (regions_of (drop l.part-index l.parts)) ≡ list_any (λ r. is_large l.k r) (regions_of l.fn.parts)
