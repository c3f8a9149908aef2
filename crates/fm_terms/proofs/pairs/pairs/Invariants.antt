use Rattle.std.proofs.Common.{drop, length, true, ◌++◌, ◌≡◌, ◌≤◌}
use Rattle.std.specs.Option.{option_map}
use Rattle.fm_sexp.specs.Items.{all_within}
use Rattle.fm_terms.specs.Elaborate.{items_in, nesting_all, pairs_of}
use Rattle.fm_terms.specs.Scoped.{shown_pairs}
use Rattle.fm_terms.proofs.pairs.pairs.Given as goal

abbrev pub invariant-loop-item : goal.invariant-loop-item
invariant-loop-item l = record {
  so_far : option_map (λ rest. shown_pairs l.list.items ++ rest) (pairs_of l.text (drop l.item-index l.items)) ≡ pairs_of l.text l.items;
  made : all_within (length l.text) (items_in (shown_pairs l.list.items)) ≡ true;
  nests : nesting_all (items_in (shown_pairs l.list.items)) ≤ nesting_all l.items;
  within : all_within (length l.text) (drop l.item-index l.items) ≡ true;
}
