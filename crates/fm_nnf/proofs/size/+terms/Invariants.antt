use Rattle.std.proofs.Common.{◌≡◌, ◌+◌, ◌≤◌, map, drop}
use Rattle.fm_nnf.specs.NormalSize.{total}
use Rattle.fm_nnf.specs.Counting.{term_counts, term_count}
use Rattle.fm_nnf.specs.Counting.{sizes_of}
use Rattle.fm_nnf.proofs.Weights.{term_weight}
use Rattle.fm_nnf.proofs.size.+terms.Given as goal

abbrev pub invariant-count_terms-loop-term : goal.invariant-count_terms-loop-term
invariant-count_terms-loop-term l = record {
  below : l.sum ≤ l.left;
  rest : l.sum + term_counts (map term_count (drop l.term-index l.terms)) (sizes_of l.frame) ≡ term_counts (map term_count l.terms) (sizes_of l.frame);
}

abbrev pub decreases-count_term : goal.decreases-count_term
decreases-count_term l = term_weight l.term.now

abbrev pub decreases-count_terms : goal.decreases-count_terms
decreases-count_terms l = 1 + total (map term_weight l.terms.now)
