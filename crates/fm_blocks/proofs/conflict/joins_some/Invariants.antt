use Rattle.std.proofs.Common.{◌≡◌, drop}
use Rattle.fm_closure.specs.Asked.{test_of}
use Rattle.fm_blocks.specs.Conflicts.{joins_some_by}
use Rattle.fm_blocks.proofs.conflict.joins_some.Given as goal

abbrev pub invariant-loop-lit : goal.invariant-loop-lit
invariant-loop-lit l = joins_some_by (test_of l.closed) l.lits ≡ joins_some_by (test_of l.closed) (drop l.lit-index l.lits)
