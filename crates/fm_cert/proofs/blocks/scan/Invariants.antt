use Rattle.std.proofs.Common.{length}
use Rattle.fm_cert.specs.Reading.{IsScanned}
use Rattle.fm_cert.proofs.blocks.scan.Given as goal

abbrev pub invariant-loop-rest : goal.invariant-loop-rest
invariant-loop-rest l = IsScanned l.behind l.rest l.place l.line

abbrev pub decreases-loop-rest : goal.decreases-loop-rest
decreases-loop-rest l = length l.rest
