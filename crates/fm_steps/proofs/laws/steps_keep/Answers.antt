use Rattle.fm_steps.proofs.Freely.{step_assumed}
use Rattle.fm_steps.proofs.laws.steps_keep.Goals as goal

pub returns : goal.returns
returns c = step_assumed
