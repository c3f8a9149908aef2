use Rattle.fm_readers.proofs.Graphs.{reads_on}
use Rattle.fm_readers.proofs.graph.read.Goals as goal

pub returns-clause-read : goal.returns-clause-read
returns-clause-read c = reads_on c.args.bank.now c.args.entry c.args.graph.now c.open_level.new.graph c.read_literal.new.graph c.in_ok-open_level.ensures.facts c.in_ok-open_level.ensures.levels c.in_ok-read_literal.ensures.facts c.in_ok-read_literal.ensures.levels
