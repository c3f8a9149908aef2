use Rattle.fm_elab.proofs.NamedStates.{problem_named, start_named, steps_keep_names}
use Rattle.fm_elab.proofs.laws.names_stay_distinct.Goals as goal

pub returns : goal.returns
returns c = record { start = start_named; steps = steps_keep_names; problems = problem_named }
