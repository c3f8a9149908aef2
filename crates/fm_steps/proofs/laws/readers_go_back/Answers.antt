use Rattle.fm_steps.proofs.Readers.{levels_close, read_back, read_stays}
use Rattle.fm_steps.proofs.laws.readers_go_back.Goals as goal

pub returns-clause-read : goal.returns-clause-read
returns-clause-read c = read_back

pub returns-clause-closed : goal.returns-clause-closed
returns-clause-closed c = levels_close

pub returns-clause-same : goal.returns-clause-same
returns-clause-same c = read_stays
