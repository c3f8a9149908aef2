use Rattle.std.proofs.Common.{◌≡◌, drop}
use Rattle.std.specs.Prelude.{◌==◌}
use Rattle.fm_blocks.specs.Endings.{sum_of}
use Rattle.fm_blocks.proofs.ending.add_up.Given as goal

abbrev pub invariant-loop-size : goal.invariant-loop-size
invariant-loop-size l = (sum_of l.sizes == l.sum) ≡ (sum_of (drop l.size-index l.sizes) == l.left)
