use Rattle.fm_sat.proofs.Explaining.{explains_add, explains_back, explains_decide, explains_imply, unit_reason}
use Rattle.fm_sat.proofs.laws.trails_stay_explained.Goals as goal

pub returns-clause-units : goal.returns-clause-units
returns-clause-units c = unit_reason

pub returns-clause-implied : goal.returns-clause-implied
returns-clause-implied c = explains_imply

pub returns-clause-decided : goal.returns-clause-decided
returns-clause-decided c = explains_decide

pub returns-clause-back : goal.returns-clause-back
returns-clause-back c = explains_back

pub returns-clause-added : goal.returns-clause-added
returns-clause-added c = explains_add
