use Rattle.std.proofs.Common.{List, drop, length, true, ◌++◌, ◌≡◌}
use Rattle.std.specs.Prelude.{Ok}
use Rattle.fm_levels.specs.Levels.{joined}
use Rattle.fm_base.specs.declared.ids.SortId.{SortId}
use Rattle.fm_sexp.specs.Items.{all_within}
use Rattle.fm_apply.specs.Applied.{and_then}
use Rattle.fm_apply.specs.Scoped.{sorts_in}
use Rattle.fm_terms.specs.Elaborate.{items_in, variable_sorts}
use Rattle.fm_terms.specs.Scoped.{shown_pairs}
use Rattle.fm_terms.proofs.variables.sorts_of.Given as goal

abbrev pub invariant-loop-pair : goal.invariant-loop-pair
invariant-loop-pair l = record {
  rest : variable_sorts l.scope.text.now (sorts_in (joined l.scope.sorts.now)) (shown_pairs l.pairs) ≡ and_then (variable_sorts l.scope.text.now (sorts_in (joined l.scope.sorts.now)) (shown_pairs (drop l.pair-index l.pairs))) (λ (ss : List SortId). Ok (l.sorts.items ++ ss));
  within : all_within (length l.scope.text.now) (items_in (shown_pairs (drop l.pair-index l.pairs))) ≡ true;
}
