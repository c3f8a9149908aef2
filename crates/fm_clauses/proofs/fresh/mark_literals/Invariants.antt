use Rattle.std.proofs.Common.{Bool, List, drop}
use Rattle.fm_clauses.specs.Marked.{Marks, literals_have}
use Rattle.fm_clauses.proofs.fresh.mark_literals.Given as goal

abbrev pub invariant-loop-lit : goal.invariant-loop-lit
invariant-loop-lit l = (last : List Bool) → Marks (literals_have l.sig (drop l.lit-index l.lits)) l.marks.items last → Marks (literals_have l.sig l.lits) l.fn.marks.items last
