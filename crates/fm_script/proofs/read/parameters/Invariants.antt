use Rattle.std.proofs.Common.{◌≡◌, ◌++◌, drop, length, map, true}
use Rattle.std.specs.Option.{option_map}
use Rattle.fm_sexp.specs.Items.{all_within}
use Rattle.fm_script.specs.Commands.{parameters_of}
use Rattle.fm_script.specs.Shown.{name_shown}
use Rattle.fm_script.specs.Within.{parameters_within}
use Rattle.fm_script.proofs.read.parameters.Given as goal

abbrev pub invariant-loop-item : goal.invariant-loop-item
invariant-loop-item l = record {
  so_far : option_map (λ rest. map (λ p. (name_shown p.0, p.1.now)) l.list.items ++ rest) (parameters_of l.text (drop l.item-index l.items)) ≡ parameters_of l.text l.items;
  made : parameters_within (length l.text) (map (λ p. (name_shown p.0, p.1.now)) l.list.items) ≡ true;
  within : all_within (length l.text) (drop l.item-index l.items) ≡ true;
}
