use Rattle.std.proofs.Common.{List, drop}
use Rattle.fm_base.specs.declared.signature.Rank.{Rank}
use Rattle.fm_bank.specs.declared.clause.Clause.{Clause}
use Rattle.fm_clauses.specs.Adding.{Adds}
use Rattle.fm_clauses.specs.Assertions.{forms_made}
use Rattle.fm_clauses.proofs.table.push_forms.Given as goal

abbrev pub invariant-loop-formula : goal.invariant-loop-formula
invariant-loop-formula l = (clauses : List Clause) (ranks : List Rank) → Adds (forms_made (drop l.formula-index l.formulas)) l.first l.clauses.items l.ranks.items clauses ranks → Adds (forms_made l.formulas) l.first l.fn.clauses.items l.fn.ranks.items clauses ranks
