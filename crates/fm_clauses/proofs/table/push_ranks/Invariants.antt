use Rattle.std.proofs.Common.{◌≡◌, ◌++◌, drop}
use Rattle.fm_clauses.proofs.table.push_ranks.Given as goal

abbrev pub invariant-loop-rank : goal.invariant-loop-rank
invariant-loop-rank l = l.ranks.items ++ drop l.rank-index l.more ≡ l.fn.ranks.items ++ l.more
