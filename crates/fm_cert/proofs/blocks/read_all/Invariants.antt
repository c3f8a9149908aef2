use Rattle.std.proofs.Common.{length}
use Rattle.fm_cert.specs.Reading.{GoesOn}
use Rattle.fm_cert.proofs.blocks.read_all.Given as goal

abbrev pub invariant-loop-alloc : goal.invariant-loop-alloc
invariant-loop-alloc l = GoesOn l.fn.reader l.fn.blocks.items l.reader l.blocks.items

abbrev pub decreases-loop-alloc : goal.decreases-loop-alloc
decreases-loop-alloc l = length l.reader.rest
