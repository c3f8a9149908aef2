use Rattle.fm_elab.proofs.SortedStates.{problem_sorted, start_sorted, steps_stay}
use Rattle.fm_elab.proofs.laws.stacks_stay_sorted.Goals as goal

pub returns : goal.returns
returns c = record { start = start_sorted; steps = steps_stay; problems = problem_sorted }
