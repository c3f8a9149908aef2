use Rattle.fm_steps.proofs.Running.{move_lawful, move_picks}
use Rattle.fm_steps.proofs.laws.events_keep.Goals as goal

pub returns-clause-trail : goal.returns-clause-trail
returns-clause-trail c = λ p b s k o t h m. (move_lawful p b s k o t h m).trail

pub returns-clause-heads : goal.returns-clause-heads
returns-clause-heads c = λ p b s k o t h m. (move_lawful p b s k o t h m).heads

pub returns-clause-instances : goal.returns-clause-instances
returns-clause-instances c = λ p b s k o t h m. (move_lawful p b s k o t h m).instances

pub returns-clause-atoms : goal.returns-clause-atoms
returns-clause-atoms c = λ p b s k o t h m. (move_lawful p b s k o t h m).atoms

pub returns-clause-bounds : goal.returns-clause-bounds
returns-clause-bounds c = λ p b s k o t h m. (move_lawful p b s k o t h m).bounds

pub returns-clause-guards : goal.returns-clause-guards
returns-clause-guards c = λ p b s k o t h m. (move_lawful p b s k o t h m).guards

pub returns-clause-picks : goal.returns-clause-picks
returns-clause-picks c = move_picks
