use Rattle.fm_steps.proofs.Written.{rows_are_written}
use Rattle.fm_steps.proofs.laws.rows_are_written.Goals as goal

pub returns : goal.returns
returns c = rows_are_written
