use Rattle.std.proofs.Common.{drop, map, ◌++◌, ◌≡◌}
use Rattle.fm_terms.specs.Elaborate.{items_in}
use Rattle.fm_terms.specs.Scoped.{shown_pairs}
use Rattle.fm_terms.proofs.pairs.items_of.Given as goal

abbrev pub invariant-loop-pair : goal.invariant-loop-pair
invariant-loop-pair l = map (λ i. i.now) l.list.items ++ items_in (shown_pairs (drop l.pair-index l.pairs)) ≡ items_in (shown_pairs l.pairs)
