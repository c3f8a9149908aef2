use Rattle.fm_steps.proofs.Known.{settled_picks}
use Rattle.fm_steps.proofs.Starts.{start_assumed, start_lawful}
use Rattle.fm_steps.proofs.laws.start_is_lawful.Goals as goal

pub returns-clause-lawful : goal.returns-clause-lawful
returns-clause-lawful c = start_lawful

pub returns-clause-sizes : goal.returns-clause-sizes
returns-clause-sizes c = start_assumed

pub returns-clause-picks : goal.returns-clause-picks
returns-clause-picks c = λ p s h. settled_picks _ s h
