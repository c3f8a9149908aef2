use Rattle.std.proofs.Common.{◌≡◌, drop, nat_lt}
use Rattle.fm_steps.specs.Lemmas.{total_above}
use Rattle.fm_state.proofs.lemmas.pass.Given as goal

abbrev pub invariant-loop-number : goal.invariant-loop-number
invariant-loop-number l = nat_lt l.left (total_above (drop l.number-index l.numbers)) ≡ nat_lt l.n (total_above l.numbers)
