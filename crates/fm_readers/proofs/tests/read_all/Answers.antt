use Rattle.fm_readers.proofs.Reading.{reads_some}
use Rattle.fm_readers.proofs.tests.read_all.Goals as goal

pub loop-item-preserved : goal.loop-item-preserved
loop-item-preserved g c =
    reads_some c.args.bank.now c.entry-entry.result c.loop-item.graph c.read.new.graph c.entry-entry.ensures.level c.entry-entry.ensures.why c.loop-item.invariant c.in_ok-read.ensures.terms c.in_ok-read.ensures.read
