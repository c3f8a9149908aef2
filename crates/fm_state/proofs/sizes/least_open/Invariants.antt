use Rattle.std.proofs.Common.{◌≡◌, ◌<◌, ◌+◌, ℕ, true, false}
use Rattle.fm_steps.specs.Sizes.{card, holds}
use Rattle.fm_state.proofs.sizes.least_open.Given as goal

abbrev pub invariant-loop-number : goal.invariant-loop-number
invariant-loop-number l = record {
  next : l.found ≡ l._number + 1;
  before : (j : ℕ) → j < l._number → holds l.state false (card l.sort.0 (j + 1)) ≡ true;
}
