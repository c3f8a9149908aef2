use Rattle.fm_sat.specs.Learning.{Explains}
use Rattle.fm_sat.proofs.tests.trail_of.Given as goal

abbrev pub invariant-loop-number : goal.invariant-loop-number
invariant-loop-number l = Explains l.store.clauses l.trail.entries
