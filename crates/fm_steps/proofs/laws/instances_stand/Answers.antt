use Rattle.fm_steps.proofs.Adding.{instances_stand}
use Rattle.fm_steps.proofs.laws.instances_stand.Goals as goal

pub returns : goal.returns
returns c = instances_stand
