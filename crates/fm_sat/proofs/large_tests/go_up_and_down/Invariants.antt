use Rattle.fm_sat.specs.Learning.{Explains}
use Rattle.fm_sat.proofs.large_tests.go_up_and_down.Given as goal

abbrev pub invariant-loop : goal.invariant-loop
invariant-loop l = Explains l.store.clauses l.trail.entries
