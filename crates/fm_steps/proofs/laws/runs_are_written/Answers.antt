use Rattle.fm_steps.proofs.Numbered.{bounds_are_written}
use Rattle.fm_steps.proofs.Runs.{runs_follow, runs_have_lines}
use Rattle.fm_steps.proofs.laws.runs_are_written.Goals as goal

pub returns-clause-lines : goal.returns-clause-lines
returns-clause-lines c = runs_have_lines

pub returns-clause-follow : goal.returns-clause-follow
returns-clause-follow c = runs_follow

pub returns-clause-numbers : goal.returns-clause-numbers
returns-clause-numbers c = bounds_are_written
