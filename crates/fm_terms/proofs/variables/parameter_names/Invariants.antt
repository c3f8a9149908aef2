use Rattle.std.proofs.Common.{drop, ◌++◌, ◌≡◌}
use Rattle.fm_apply.specs.Scoped.{AllAreThere, Grows, terms_at}
use Rattle.fm_terms.specs.Scoped.{parameters_from}
use Rattle.fm_terms.proofs.variables.parameter_names.Given as goal

abbrev pub invariant-loop-place : goal.invariant-loop-place
invariant-loop-place l = record {
  terms : terms_at l.arena l.numbers.items ++ parameters_from l.place (drop l.place l.types) ≡ parameters_from 0 l.types;
  grows : Grows l.fn.arena l.arena;
  below : AllAreThere l.arena l.numbers.items;
}
