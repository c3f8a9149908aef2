use Rattle.std.proofs.Common.{ℕ, ◌+◌, ◌*◌, List, map, drop}
use Rattle.fm_nnf.specs.NormalSize.{term_nodes, total}
use Rattle.fm_clauses.specs.Listed.{Lists}
use Rattle.fm_clauses.specs.Narrow.{any_of, occurs_in_term}
use Rattle.fm_clauses.proofs.scoped.+list.Given as goal

abbrev pub invariant-list_terms-loop-term : goal.invariant-list_terms-loop-term
invariant-list_terms-loop-term l = (last : List ℕ) → Lists (any_of occurs_in_term (drop l.term-index l.terms)) l.found.items last → Lists (any_of occurs_in_term l.terms) l.fn.found.items last

abbrev pub decreases-list_term : goal.decreases-list_term
decreases-list_term l = 2 * term_nodes l.term.now

abbrev pub decreases-list_terms : goal.decreases-list_terms
decreases-list_terms l = 1 + 2 * total (map term_nodes l.terms.now)
