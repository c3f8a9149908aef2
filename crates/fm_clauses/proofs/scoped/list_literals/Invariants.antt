use Rattle.std.proofs.Common.{ℕ, List, drop}
use Rattle.fm_clauses.specs.Listed.{Lists}
use Rattle.fm_clauses.specs.Narrow.{occurs}
use Rattle.fm_clauses.proofs.scoped.list_literals.Given as goal

abbrev pub invariant-loop-lit : goal.invariant-loop-lit
invariant-loop-lit l = (last : List ℕ) → Lists (occurs (drop l.lit-index l.lits)) l.found.items last → Lists (occurs l.lits) l.fn.found.items last
