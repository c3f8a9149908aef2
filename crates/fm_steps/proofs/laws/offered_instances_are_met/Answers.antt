use Rattle.fm_steps.proofs.Truths.{instance_is_met, instances_hold, last_stands_alone}
use Rattle.fm_steps.proofs.laws.offered_instances_are_met.Goals as goal

pub returns-clause-alone : goal.returns-clause-alone
returns-clause-alone c = last_stands_alone

pub returns-clause-added : goal.returns-clause-added
returns-clause-added c = instances_hold

pub returns-clause-instance : goal.returns-clause-instance
returns-clause-instance c = instance_is_met
