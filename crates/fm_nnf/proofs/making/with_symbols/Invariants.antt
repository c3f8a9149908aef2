use Rattle.std.proofs.Common.{◌≡◌, ◌++◌, ◌+◌, length, drop}
use Rattle.fm_nnf.specs.Bindings.{terms_of}
use Rattle.fm_nnf.specs.NormalForm.{skolem_ranks, skolem_terms}
use Rattle.fm_nnf.proofs.making.with_symbols.Given as goal

abbrev pub invariant-loop-sort : goal.invariant-loop-sort
invariant-loop-sort l = record {
  terms : terms_of l.all.items ++ skolem_terms l.scope (l.first + length l.ranks.items) (drop l.sort-index l.vars) ≡ terms_of l.bindings ++ skolem_terms l.scope (l.first + length l.fn.ranks.items) l.vars;
  ranks : l.ranks.items ++ skolem_ranks l.scope (drop l.sort-index l.vars) ≡ l.fn.ranks.items ++ skolem_ranks l.scope l.vars;
}
