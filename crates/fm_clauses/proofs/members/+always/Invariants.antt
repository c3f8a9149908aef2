use Rattle.std.proofs.Common.{◌≡◌, ◌+◌, map, drop}
use Rattle.fm_nnf.specs.NormalSize.{total}
use Rattle.fm_clauses.specs.Table.{node, has_always, all_parts}
use Rattle.fm_clauses.specs.Adding.{weight}
use Rattle.fm_clauses.proofs.members.+always.Given as goal

abbrev pub invariant-some_always-loop-formula : goal.invariant-some_always-loop-formula
invariant-some_always-loop-formula l = has_always (all_parts (map node (drop l.formula-index l.formulas))) ≡ has_always (all_parts (map node l.formulas))

abbrev pub decreases-is_always : goal.decreases-is_always
decreases-is_always l = weight l.formula.now

abbrev pub decreases-some_always : goal.decreases-some_always
decreases-some_always l = 1 + total (map weight l.formulas.now)
