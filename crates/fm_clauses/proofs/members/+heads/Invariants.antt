use Rattle.std.proofs.Common.{◌+◌, List, map, drop}
use Rattle.fm_base.specs.declared.signature.Rank.{Rank}
use Rattle.fm_bank.specs.declared.clause.Plit.{Plit}
use Rattle.fm_nnf.specs.NormalSize.{total}
use Rattle.fm_clauses.specs.Table.{node, all_parts}
use Rattle.fm_clauses.specs.Adding.{AddsHeads, weight}
use Rattle.fm_clauses.proofs.members.+heads.Given as goal

abbrev pub invariant-push_all_heads-loop-formula : goal.invariant-push_all_heads-loop-formula
invariant-push_all_heads-loop-formula l = (lits : List Plit) (ranks : List Rank) → AddsHeads (all_parts (map node (drop l.formula-index l.formulas))) l.scope l.first l.lits.items l.ranks.items lits ranks → AddsHeads (all_parts (map node l.formulas)) l.scope l.first l.fn.lits.items l.fn.ranks.items lits ranks

abbrev pub decreases-push_heads : goal.decreases-push_heads
decreases-push_heads l = weight l.formula.now

abbrev pub decreases-push_all_heads : goal.decreases-push_all_heads
decreases-push_all_heads l = 1 + total (map weight l.formulas.now)
