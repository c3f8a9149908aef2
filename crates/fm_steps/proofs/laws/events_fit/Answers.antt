use Rattle.fm_steps.proofs.Fitting.{decisions_are_atoms, instances_are_typed, splits_are_atoms}
use Rattle.fm_steps.proofs.laws.events_fit.Goals as goal

pub returns-clause-instances : goal.returns-clause-instances
returns-clause-instances c = instances_are_typed

pub returns-clause-splits : goal.returns-clause-splits
returns-clause-splits c = splits_are_atoms

pub returns-clause-decisions : goal.returns-clause-decisions
returns-clause-decisions c = decisions_are_atoms
