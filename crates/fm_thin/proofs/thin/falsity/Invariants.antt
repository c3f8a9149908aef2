use Rattle.std.proofs.Common.{◌≤◌}
use Rattle.fm_thin.proofs.Counting.{Counts}
use Rattle.fm_thin.proofs.thin.falsity.Given as goal

abbrev pub invariant-loop-formula : goal.invariant-loop-formula
invariant-loop-formula l = record {
  counts : Counts l.sig l.assertions l.formula-index l.clauses;
  few : l.clauses ≤ l.formula-index;
}
