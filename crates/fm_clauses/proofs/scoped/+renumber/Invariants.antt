use Rattle.std.proofs.Common.{◌≡◌, ◌++◌, ◌+◌, ◌*◌, map, drop}
use Rattle.fm_nnf.specs.NormalSize.{term_nodes, total}
use Rattle.fm_clauses.specs.Listed.{below}
use Rattle.fm_clauses.specs.Narrow.{all_renamed}
use Rattle.fm_clauses.proofs.scoped.+renumber.Given as goal

abbrev pub invariant-renumbered_all-loop-term : goal.invariant-renumbered_all-loop-term
invariant-renumbered_all-loop-term l = l.made.items ++ all_renamed (drop l.term-index l.terms) (below l.used) ≡ all_renamed l.terms (below l.used)

abbrev pub decreases-renumbered : goal.decreases-renumbered
decreases-renumbered l = 2 * term_nodes l.term.now

abbrev pub decreases-renumbered_all : goal.decreases-renumbered_all
decreases-renumbered_all l = 1 + 2 * total (map term_nodes l.terms.now)
