use Rattle.fm_steps.proofs.Going.{menus_are_not_empty, runs_are_within_budget, steps_go_on}
use Rattle.fm_steps.proofs.Paid.{bounds_are_counted}
use Rattle.fm_steps.proofs.Settled.{runs_begin, states_settle, steps_exist}
use Rattle.fm_steps.proofs.laws.steps_go_on.Goals as goal

pub returns-clause-menu : goal.returns-clause-menu
returns-clause-menu c = menus_are_not_empty

pub returns-clause-budget : goal.returns-clause-budget
returns-clause-budget c = runs_are_within_budget

pub returns-clause-rows : goal.returns-clause-rows
returns-clause-rows c = steps_go_on

pub returns-clause-settled : goal.returns-clause-settled
returns-clause-settled c = states_settle

pub returns-clause-start : goal.returns-clause-start
returns-clause-start c = runs_begin

pub returns-clause-steps : goal.returns-clause-steps
returns-clause-steps c = steps_exist

pub returns-clause-bounds : goal.returns-clause-bounds
returns-clause-bounds c = bounds_are_counted
