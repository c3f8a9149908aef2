use Rattle.std.proofs.Common.{◌≡◌, ◌++◌, map, drop}
use Rattle.fm_clauses.specs.Listed.{below}
use Rattle.fm_clauses.specs.Narrow.{renamed_literal}
use Rattle.fm_clauses.proofs.scoped.renumbered_literals.Given as goal

abbrev pub invariant-loop-lit : goal.invariant-loop-lit
invariant-loop-lit l = l.made.items ++ map (renamed_literal (below l.used)) (drop l.lit-index l.lits) ≡ map (renamed_literal (below l.used)) l.lits
