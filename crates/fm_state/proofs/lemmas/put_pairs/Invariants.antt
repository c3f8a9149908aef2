use Rattle.std.proofs.Common.{◌≡◌, ◌++◌, length}
use Rattle.fm_bank.specs.Terms.{numbers}
use Rattle.fm_steps.specs.Picks.{pair_literals}
use Rattle.fm_state.proofs.lemmas.put_pairs.Given as goal

abbrev pub invariant-loop-a : goal.invariant-loop-a
invariant-loop-a l = l.literals.items ++ pair_literals (numbers l.rest) ≡ l.fn.literals.items ++ pair_literals (numbers l.terms)

abbrev pub decreases-loop-a : goal.decreases-loop-a
decreases-loop-a l = length l.rest
