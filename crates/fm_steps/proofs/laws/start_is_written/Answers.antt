use Rattle.fm_steps.proofs.Begun.{settling_writes_nothing, start_is_written}
use Rattle.fm_steps.proofs.laws.start_is_written.Goals as goal

pub returns-clause-lines : goal.returns-clause-lines
returns-clause-lines c = start_is_written

pub returns-clause-settled : goal.returns-clause-settled
returns-clause-settled c = settling_writes_nothing
