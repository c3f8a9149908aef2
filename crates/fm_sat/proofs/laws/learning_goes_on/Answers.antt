use Rattle.fm_sat.proofs.Asserting.{asserting_goes_on, false_use, learning_goes_on'}
use Rattle.fm_sat.proofs.laws.learning_goes_on.Goals as goal

pub returns-clause-which : goal.returns-clause-which
returns-clause-which c = false_use

pub returns-clause-added : goal.returns-clause-added
returns-clause-added c = learning_goes_on'

pub returns-clause-same : goal.returns-clause-same
returns-clause-same c = asserting_goes_on
