use Rattle.fm_steps.proofs.Ending.{runs_spend, steps_leave_less, stretches_end, turns_are_few}
use Rattle.fm_steps.proofs.laws.steps_leave_less.Goals as goal

pub returns-clause-steps : goal.returns-clause-steps
returns-clause-steps c = steps_leave_less

pub returns-clause-stretches : goal.returns-clause-stretches
returns-clause-stretches c = stretches_end

pub returns-clause-turns : goal.returns-clause-turns
returns-clause-turns c = turns_are_few

pub returns-clause-budgets : goal.returns-clause-budgets
returns-clause-budgets c = runs_spend
