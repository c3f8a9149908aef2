use Rattle.fm_sat.specs.Learning.{Explains}
use Rattle.fm_sat.proofs.checked.propagate.Given as goal

abbrev pub invariant-loop : goal.invariant-loop
invariant-loop l = Explains l.store.clauses l.trail.entries
