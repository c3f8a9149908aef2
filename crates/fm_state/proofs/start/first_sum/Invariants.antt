use Rattle.std.proofs.Common.{◌≡◌, ℕ, true, map}
use Rattle.std.specs.List.{range_with_len}
use Rattle.fm_steps.specs.Sizes.{card, lit}
use Rattle.fm_state.proofs.start.first_sum.Given as goal

abbrev pub invariant-loop-sort : goal.invariant-loop-sort
invariant-loop-sort l = l.found.items ≡ map (λ (u : ℕ). lit true (card u 0)) (range_with_len 0 l.sort)
