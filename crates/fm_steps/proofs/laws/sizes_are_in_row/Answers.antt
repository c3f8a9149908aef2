use Rattle.fm_steps.proofs.InRow.{reached_in_row}
use Rattle.fm_steps.proofs.Offered.{reached_hold}
use Rattle.fm_steps.proofs.laws.sizes_are_in_row.Goals as goal

pub returns-clause-row : goal.returns-clause-row
returns-clause-row c = reached_in_row

pub returns-clause-tests : goal.returns-clause-tests
returns-clause-tests c = reached_hold
