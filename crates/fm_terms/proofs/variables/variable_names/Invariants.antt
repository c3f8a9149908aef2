use Rattle.std.proofs.Common.{drop, ◌++◌, ◌≡◌}
use Rattle.fm_apply.specs.Scoped.{AllAreThere, Grows, terms_at}
use Rattle.fm_terms.specs.Scoped.{variables_from}
use Rattle.fm_terms.proofs.variables.variable_names.Given as goal

abbrev pub invariant-loop-sort : goal.invariant-loop-sort
invariant-loop-sort l = record {
  terms : terms_at l.arena l.numbers.items ++ variables_from l.place (drop l.sort-index l.sorts) ≡ variables_from l.fn.from l.sorts;
  grows : Grows l.fn.arena l.arena;
  below : AllAreThere l.arena l.numbers.items;
}
