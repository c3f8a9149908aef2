use Rattle.std.proofs.Common.{◌≡◌}
use Rattle.fm_sum.proofs.tests.adds_least_numbers_up.Given as goal

abbrev pub invariant-loop-step : goal.invariant-loop-step
invariant-loop-step g l = l.bounds.sorts ≡ 2
