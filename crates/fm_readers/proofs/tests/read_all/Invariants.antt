use Rattle.fm_readers.specs.Tested.{HasReadSome}
use Rattle.fm_readers.proofs.tests.read_all.Given as goal

abbrev pub invariant-loop-item : goal.invariant-loop-item
invariant-loop-item g l = HasReadSome l.bank l.graph
