use Rattle.std.proofs.Common.{◌≡◌, ◌++◌, drop}
use Rattle.fm_clauses.specs.Listed.{reads}
use Rattle.fm_clauses.proofs.scoped.sorts_at.Given as goal

abbrev pub invariant-loop-v : goal.invariant-loop-v
invariant-loop-v l = l.sorts.items ++ reads l.scope (drop l.v-index l.used) ≡ reads l.scope l.used
