use Rattle.fm_steps.proofs.Counts.{reached_counted}
use Rattle.fm_steps.proofs.Running.{reached_good}
use Rattle.fm_steps.proofs.laws.runs_are_lawful.Goals as goal

pub returns-clause-trail : goal.returns-clause-trail
returns-clause-trail c = λ p b es s h. (reached_good p b es s h).lawful.trail

pub returns-clause-heads : goal.returns-clause-heads
returns-clause-heads c = λ p b es s h. (reached_good p b es s h).lawful.heads

pub returns-clause-instances : goal.returns-clause-instances
returns-clause-instances c = λ p b es s h. (reached_good p b es s h).lawful.instances

pub returns-clause-atoms : goal.returns-clause-atoms
returns-clause-atoms c = λ p b es s h. (reached_good p b es s h).lawful.atoms

pub returns-clause-bounds : goal.returns-clause-bounds
returns-clause-bounds c = λ p b es s h. (reached_good p b es s h).lawful.bounds

pub returns-clause-guards : goal.returns-clause-guards
returns-clause-guards c = λ p b es s h. (reached_good p b es s h).lawful.guards

pub returns-clause-sizes : goal.returns-clause-sizes
returns-clause-sizes c = λ p b es s h. (reached_good p b es s h).sizes

pub returns-clause-picks : goal.returns-clause-picks
returns-clause-picks c = λ p b es s h. (reached_good p b es s h).picks

pub returns-clause-counts : goal.returns-clause-counts
returns-clause-counts c = reached_counted
