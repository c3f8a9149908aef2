use Rattle.std.proofs.Common.{List, drop, length, true, ◌++◌, ◌≡◌}
use Rattle.std.specs.Prelude.{Ok}
use Rattle.fm_base.specs.declared.signature.Ty.{Ty}
use Rattle.fm_sexp.specs.Items.{all_within}
use Rattle.fm_apply.specs.Applied.{and_then}
use Rattle.fm_elab.specs.Held.{state_of}
use Rattle.fm_elab.specs.Shown.{items_shown}
use Rattle.fm_elab.specs.Steps.{argument_sort, each_sort}
use Rattle.fm_elab.proofs.scopes.Scopes.arguments.Given as goal

abbrev pub invariant-loop-item : goal.invariant-loop-item
invariant-loop-item l = record {
  rest : each_sort (argument_sort l.text (state_of l.self)) (items_shown l.items) ≡ and_then (each_sort (argument_sort l.text (state_of l.self)) (items_shown (drop l.item-index l.items))) (λ (tys : List Ty). Ok (l.types.items ++ tys));
  within : all_within (length l.text) (items_shown (drop l.item-index l.items)) ≡ true;
}
