use Rattle.std.proofs.Common.{length, true, ◌++◌, ◌≡◌}
use Rattle.std.specs.Option.{option_map}
use Rattle.fm_sexp.specs.Items.{all_within}
use Rattle.fm_terms.specs.Elaborate.{attributes_of}
use Rattle.fm_terms.specs.Scoped.{AreValuesWithin, attributes_shown}
use Rattle.fm_terms.proofs.attributes.attributes.Given as goal

abbrev pub invariant-loop-first : goal.invariant-loop-first
invariant-loop-first l = record {
  so_far : option_map (λ more. attributes_shown l.list.items ++ more) (attributes_of l.text l.rest) ≡ attributes_of l.text l.items;
  values : AreValuesWithin l.text (attributes_shown l.list.items);
  within : all_within (length l.text) l.rest ≡ true;
}

abbrev pub decreases-loop-first : goal.decreases-loop-first
decreases-loop-first l = length l.rest
