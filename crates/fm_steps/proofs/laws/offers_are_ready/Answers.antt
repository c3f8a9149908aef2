use Rattle.fm_steps.proofs.Deciding.{decide_ready, split_ready}
use Rattle.fm_steps.proofs.Ready.{instance_ready, learn_ready, raise_ready, sat_ready, take_ready, turn_ready, unit_ready, unsat_ready}
use Rattle.fm_steps.proofs.laws.offers_are_ready.Goals as goal

pub returns-clause-learn : goal.returns-clause-learn
returns-clause-learn c = learn_ready

pub returns-clause-unsat : goal.returns-clause-unsat
returns-clause-unsat c = unsat_ready

pub returns-clause-unit : goal.returns-clause-unit
returns-clause-unit c = unit_ready

pub returns-clause-take : goal.returns-clause-take
returns-clause-take c = take_ready

pub returns-clause-turn : goal.returns-clause-turn
returns-clause-turn c = turn_ready

pub returns-clause-instance : goal.returns-clause-instance
returns-clause-instance c = instance_ready

pub returns-clause-sat : goal.returns-clause-sat
returns-clause-sat c = sat_ready

pub returns-clause-raise : goal.returns-clause-raise
returns-clause-raise c = raise_ready

pub returns-clause-decide : goal.returns-clause-decide
returns-clause-decide c = decide_ready

pub returns-clause-split : goal.returns-clause-split
returns-clause-split c = split_ready
