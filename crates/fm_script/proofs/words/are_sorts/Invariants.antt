use Rattle.std.proofs.Common.{◌≡◌, drop, length, true}
use Rattle.std.specs.List.{list_all}
use Rattle.fm_sexp.specs.Items.{all_within}
use Rattle.fm_script.specs.Commands.{is_sort}
use Rattle.fm_script.proofs.words.are_sorts.Given as goal

abbrev pub invariant-loop-item : goal.invariant-loop-item
invariant-loop-item l = record {
  so_far : list_all (is_sort l.text) (drop l.item-index l.items) ≡ list_all (is_sort l.text) l.items;
  within : all_within (length l.text) (drop l.item-index l.items) ≡ true;
}
