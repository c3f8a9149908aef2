use Rattle.fm_steps.proofs.Bounded.{reached_bounded}
use Rattle.fm_steps.proofs.Staying.{move_stays, start_stays}
use Rattle.fm_steps.proofs.laws.the_start_stays.Goals as goal

pub returns-clause-start : goal.returns-clause-start
returns-clause-start c = start_stays

pub returns-clause-moves : goal.returns-clause-moves
returns-clause-moves c = move_stays

pub returns-clause-runs : goal.returns-clause-runs
returns-clause-runs c = λ p b es s h. (reached_bounded p b es s h).stays
