use Rattle.fm_steps.proofs.Running.{answered_last, offered_only}
use Rattle.fm_steps.proofs.laws.runs_follow_the_menu.Goals as goal

pub returns-clause-offered : goal.returns-clause-offered
returns-clause-offered c = offered_only

pub returns-clause-answered : goal.returns-clause-answered
returns-clause-answered c = answered_last
