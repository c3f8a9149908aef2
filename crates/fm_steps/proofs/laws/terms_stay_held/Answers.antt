use Rattle.fm_steps.proofs.Begun.{starts_held}
use Rattle.fm_steps.proofs.Held.{steps_stay_held}
use Rattle.fm_steps.proofs.Runs.{runs_stay_held}
use Rattle.fm_steps.proofs.laws.terms_stay_held.Goals as goal

pub returns-clause-start : goal.returns-clause-start
returns-clause-start c = starts_held

pub returns-clause-steps : goal.returns-clause-steps
returns-clause-steps c = steps_stay_held

pub returns-clause-runs : goal.returns-clause-runs
returns-clause-runs c = runs_stay_held
