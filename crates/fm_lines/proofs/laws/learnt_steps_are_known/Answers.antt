use Rattle.fm_lines.proofs.Resolved.{learnt_known, rows_known}
use Rattle.fm_lines.proofs.laws.learnt_steps_are_known.Goals as goal

pub returns-clause-learnt : goal.returns-clause-learnt
returns-clause-learnt c = learnt_known

pub returns-clause-rows : goal.returns-clause-rows
returns-clause-rows c = rows_known
