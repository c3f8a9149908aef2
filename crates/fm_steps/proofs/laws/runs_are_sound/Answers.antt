use Rattle.fm_steps.proofs.Sounding.{none_is_refuted, sum_is_reached, zero_is_true}
use Rattle.fm_steps.proofs.laws.runs_are_sound.Goals as goal

pub returns-clause-zero_level : goal.returns-clause-zero_level
returns-clause-zero_level c = zero_is_true

pub returns-clause-sum : goal.returns-clause-sum
returns-clause-sum c = sum_is_reached

pub returns-clause-refuted : goal.returns-clause-refuted
returns-clause-refuted c = none_is_refuted
