use Rattle.std.proofs.Common.{◌≡◌, ◌+◌, ◌*◌, ◌&&◌, Bool, List, map, drop}
use Rattle.fm_nnf.specs.NormalSize.{term_nodes, total}
use Rattle.fm_clauses.specs.Assertions.{all_ground, all_grounds, some_of_sort}
use Rattle.fm_clauses.specs.Marked.{Marks}
use Rattle.fm_clauses.proofs.fresh.+mark.Given as goal

abbrev pub invariant-mark_terms-loop-term : goal.invariant-mark_terms-loop-term
invariant-mark_terms-loop-term l = record {
  ground : (l.all && all_ground (all_grounds l.sig (drop l.term-index l.terms))) ≡ all_ground (all_grounds l.sig l.terms);
  sorts : (last : List Bool) → Marks (some_of_sort (all_grounds l.sig (drop l.term-index l.terms))) l.marks.items last → Marks (some_of_sort (all_grounds l.sig l.terms)) l.fn.marks.items last;
}

abbrev pub decreases-mark_term : goal.decreases-mark_term
decreases-mark_term l = 2 * term_nodes l.term.now

abbrev pub decreases-mark_terms : goal.decreases-mark_terms
decreases-mark_terms l = 1 + 2 * total (map term_nodes l.terms.now)
