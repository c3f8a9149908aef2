use Rattle.std.proofs.Common.{◌≡◌}
use Rattle.fm_thin.specs.Certified.{zero_steps}
use Rattle.fm_thin.proofs.certify.steps_for.Given as goal

abbrev pub invariant-loop-sort : goal.invariant-loop-sort
invariant-loop-sort l = l.steps.items ≡ zero_steps 0 l.sort
