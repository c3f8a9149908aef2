use Rattle.fm_sat.proofs.Chains.{chain_of}
use Rattle.fm_sat.proofs.Determined.{determined}
use Rattle.fm_sat.proofs.laws.learning_is_resolution.Goals as goal

pub returns-clause-chains : goal.returns-clause-chains
returns-clause-chains c = chain_of

pub returns-clause-determined : goal.returns-clause-determined
returns-clause-determined c = determined
