use Rattle.std.proofs.Common.{◌≡◌, ◌++◌, map, drop}
use Rattle.fm_base.specs.declared.ids.SortId.{SortId}
use Rattle.fm_base.specs.declared.signature.Ty.{Ty}
use Rattle.fm_clauses.proofs.members.rank_of_proxy.Given as goal

abbrev pub invariant-loop-sort : goal.invariant-loop-sort
invariant-loop-sort l = l.args.items ++ map (λ (s : SortId). Ty.Of s) (drop l.sort-index l.scope) ≡ map (λ (s : SortId). Ty.Of s) l.scope
