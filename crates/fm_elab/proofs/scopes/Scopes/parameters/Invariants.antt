use Rattle.std.proofs.Common.{List, drop, length, true, ◌++◌, ◌≡◌}
use Rattle.std.specs.Prelude.{Ok}
use Rattle.fm_base.specs.declared.signature.Ty.{Ty}
use Rattle.fm_sexp.specs.Items.{all_within}
use Rattle.fm_apply.specs.Applied.{and_then}
use Rattle.fm_terms.specs.Elaborate.{items_in}
use Rattle.fm_terms.specs.Scoped.{shown_pairs}
use Rattle.fm_elab.specs.Held.{state_of}
use Rattle.fm_elab.specs.Steps.{each_sort, sort_at}
use Rattle.fm_elab.proofs.scopes.Scopes.parameters.Given as goal

abbrev pub invariant-loop-pair : goal.invariant-loop-pair
invariant-loop-pair l = record {
  rest : each_sort (sort_at l.text (state_of l.self)) (items_in (shown_pairs l.pairs)) ≡ and_then (each_sort (sort_at l.text (state_of l.self)) (items_in (shown_pairs (drop l.pair-index l.pairs)))) (λ (tys : List Ty). Ok (l.types.items ++ tys));
  within : all_within (length l.text) (items_in (shown_pairs (drop l.pair-index l.pairs))) ≡ true;
}
