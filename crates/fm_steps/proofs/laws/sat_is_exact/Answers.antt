use Rattle.fm_steps.proofs.Exact.{sat_is_exact, sum_is_within}
use Rattle.fm_steps.proofs.laws.sat_is_exact.Goals as goal

pub returns-clause-within : goal.returns-clause-within
returns-clause-within c = sum_is_within

pub returns-clause-exact : goal.returns-clause-exact
returns-clause-exact c = sat_is_exact
