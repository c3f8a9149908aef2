use Rattle.std.proofs.Common.{◌≡◌, map, drop}
use Rattle.std.specs.Prelude.{max}
use Rattle.fm_inst.specs.Depths.{depth_of, largest}
use Rattle.fm_inst.proofs.depths.+depths.Given as goal

abbrev pub invariant-terms_depth-loop-term : goal.invariant-terms_depth-loop-term
invariant-terms_depth-loop-term l = max l.depth (largest (map depth_of (drop l.term-index l.terms))) ≡ largest (map depth_of l.terms)
