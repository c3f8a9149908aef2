use Rattle.std.proofs.Common.{length}
use Rattle.fm_cert.specs.Reading.{IsPartRead, rows_so_far}
use Rattle.fm_cert.proofs.reader.take_block.Given as goal

abbrev pub invariant-loop-alloc : goal.invariant-loop-alloc
invariant-loop-alloc l = IsPartRead l.text l.rest (rows_so_far l.reading) l.reading.place l.from l.line

abbrev pub decreases-loop-alloc : goal.decreases-loop-alloc
decreases-loop-alloc l = length l.rest
