use Rattle.std.proofs.Common.{[], drop, ◌++◌, ◌≡◌}
use Rattle.fm_terms.specs.Elaborate.{repeated}
use Rattle.fm_terms.specs.Scoped.{names_of, shown_pairs}
use Rattle.fm_terms.proofs.pairs.distinct_names.Given as goal

abbrev pub invariant-loop-pair : goal.invariant-loop-pair
invariant-loop-pair l = record {
  rest : repeated l.names (shown_pairs (drop l.pair-index l.pairs)) ≡ repeated [] (shown_pairs l.pairs);
  names : l.names ++ names_of (shown_pairs (drop l.pair-index l.pairs)) ≡ names_of (shown_pairs l.pairs);
}
