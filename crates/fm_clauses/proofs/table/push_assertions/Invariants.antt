use Rattle.std.proofs.Common.{List, drop}
use Rattle.fm_base.specs.declared.signature.Rank.{Rank}
use Rattle.fm_bank.specs.declared.clause.Clause.{Clause}
use Rattle.fm_clauses.specs.Adding.{Adds}
use Rattle.fm_clauses.specs.Assertions.{assertions_made}
use Rattle.fm_clauses.proofs.table.push_assertions.Given as goal

abbrev pub invariant-loop-formula : goal.invariant-loop-formula
invariant-loop-formula l = (clauses : List Clause) (ranks : List Rank) → Adds (assertions_made l.sig (drop l.formula-index l.formulas)) l.first l.clauses.items l.ranks.items clauses ranks → Adds (assertions_made l.sig l.formulas) l.first l.fn.clauses.items l.fn.ranks.items clauses ranks
