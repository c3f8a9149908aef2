use Rattle.std.proofs.Common.{◌≡◌, ◌++◌}
use Rattle.fm_clauses.specs.Assertions.{fresh_constants}
use Rattle.fm_clauses.specs.Marked.{marked}
use Rattle.fm_clauses.proofs.fresh.push_all_unmarked.Given as goal

abbrev pub invariant-loop-sort : goal.invariant-loop-sort
invariant-loop-sort l = l.ranks.items ≡ l.fn.ranks.items ++ fresh_constants l.sort (marked l.marks)
