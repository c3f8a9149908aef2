use Rattle.fm_build.specs.Written.{AreWritten}
use Rattle.fm_build.proofs.tables.all_tables.Given as goal

abbrev pub invariant-loop-symbol : goal.invariant-loop-symbol
invariant-loop-symbol l = AreWritten l.bank l.marks l.elements l.symbol l.tables
