use Rattle.std.proofs.Common.{◌≡◌, ◌++◌, length}
use Rattle.fm_bank.specs.Terms.{numbers}
use Rattle.fm_steps.specs.Picks.{pair_literals}
use Rattle.fm_machine.proofs.settling.put_pairs.Given as goal

-- what the rest has goes behind
abbrev pub invariant-loop-a : goal.invariant-loop-a
invariant-loop-a l = l.lits.items ++ pair_literals (numbers l.rest) ≡ l.fn.lits.items ++ pair_literals (numbers l.terms)

abbrev pub decreases-loop-a : goal.decreases-loop-a
decreases-loop-a l = length l.rest
