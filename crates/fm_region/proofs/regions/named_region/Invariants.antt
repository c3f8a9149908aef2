use Rattle.std.proofs.Common.{◌≡◌, map, take}
use Rattle.fm_bank.specs.Terms.{numbers}
use Rattle.fm_region.specs.Rows.{number_at}
use Rattle.fm_region.proofs.regions.named_region.Given as goal

abbrev pub invariant-loop-c : goal.invariant-loop-c
invariant-loop-c l = l.named ≡ map (number_at (numbers l.terms)) (take l.c-index l.region)
