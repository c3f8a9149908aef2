use Rattle.std.proofs.Common.{Bool, List, drop}
use Rattle.fm_clauses.specs.Marked.{Marks, clauses_have}
use Rattle.fm_clauses.proofs.fresh.mark_clauses.Given as goal

abbrev pub invariant-loop-clause : goal.invariant-loop-clause
invariant-loop-clause l = (last : List Bool) → Marks (clauses_have l.sig (drop l.clause-index l.clauses)) l.marks.items last → Marks (clauses_have l.sig l.clauses) l.fn.marks.items last
