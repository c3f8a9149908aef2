use Rattle.std.proofs.Common.{◌≡◌, ◌-◌}
use Rattle.fm_steps.specs.Lemmas.{bounds_from}
use Rattle.fm_state.proofs.Summing.{before}
use Rattle.fm_state.proofs.lemmas.bounds.Given as goal

abbrev pub invariant-loop-sort : goal.invariant-loop-sort
invariant-loop-sort l = before l.numbers.items (bounds_from l.state l.sort (l.state.held.sig.sorts - l.sort)) ≡ bounds_from l.state 0 l.state.held.sig.sorts
