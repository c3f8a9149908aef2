use Rattle.std.proofs.Common.{◌≡◌, ◌++◌, drop}
use Rattle.fm_steps.specs.Lemmas.{sum_literals}
use Rattle.fm_state.proofs.lemmas.sum_lemma.Given as goal

abbrev pub invariant-loop-sort : goal.invariant-loop-sort
invariant-loop-sort l = l.literals.items ++ sum_literals l.state l.sort (drop l.sort l.numbers) ≡ sum_literals l.state 0 l.numbers
