use Rattle.fm_steps.proofs.Bounded.{bound_first, bound_open, reached_bounded, zero_implied}
use Rattle.fm_steps.proofs.laws.runs_decide_the_bound.Goals as goal

pub returns-clause-zero_level : goal.returns-clause-zero_level
returns-clause-zero_level c = λ p b es s h. zero_implied s (reached_bounded p b es s h).good.lawful.trail

pub returns-clause-large : goal.returns-clause-large
returns-clause-large c = λ p b es s h. (reached_bounded p b es s h).large

pub returns-clause-first : goal.returns-clause-first
returns-clause-first c = λ p b es s h. bound_first p s (reached_bounded p b es s h)

pub returns-clause-bound : goal.returns-clause-bound
returns-clause-bound c = λ p b es s h. bound_open p s (reached_bounded p b es s h)
