use Rattle.std.proofs.Common.{ℕ, ◌+◌, ◌≤◌, List, length, map, drop}
use Rattle.fm_base.specs.declared.signature.Rank.{Rank}
use Rattle.fm_bank.specs.declared.clause.Clause.{Clause}
use Rattle.fm_nnf.specs.NormalSize.{total}
use Rattle.fm_clauses.specs.Table.{node, all_parts, run_all, proxy_ranks}
use Rattle.fm_clauses.specs.Adding.{Adds, AddsBehind, weight}
use Rattle.fm_clauses.proofs.making.+clauses.Given as goal

abbrev pub invariant-clausify_all-loop-formula : goal.invariant-clausify_all-loop-formula
invariant-clausify_all-loop-formula l = (clauses : List Clause) (ranks : List Rank) → Adds (run_all (map node (drop l.formula-index l.formulas)) l.scope l.sofar) l.first l.clauses.items l.ranks.items clauses ranks → Adds (run_all (map node l.formulas) l.scope l.sofar) l.first l.fn.clauses.items l.fn.ranks.items clauses ranks

abbrev pub invariant-behind_all-loop-formula : goal.invariant-behind_all-loop-formula
invariant-behind_all-loop-formula l = record {
  known : l.next + length (proxy_ranks (all_parts (map node (drop l.formula-index l.formulas))) l.scope) ≤ l.first + length l.ranks.items;
  rest : (clauses : List Clause) (ranks : List Rank) (last : ℕ) → AddsBehind (all_parts (map node (drop l.formula-index l.formulas))) l.scope l.next l.first l.clauses.items l.ranks.items clauses ranks last → AddsBehind (all_parts (map node l.formulas)) l.scope l.symbol l.first l.fn.clauses.items l.fn.ranks.items clauses ranks last;
}

abbrev pub decreases-clausify : goal.decreases-clausify
decreases-clausify l = weight l.formula.now

abbrev pub decreases-guarded : goal.decreases-guarded
decreases-guarded l = 1 + weight l.formula.now

abbrev pub decreases-behind : goal.decreases-behind
decreases-behind l = 2 + weight l.formula.now

abbrev pub decreases-behind_all : goal.decreases-behind_all
decreases-behind_all l = 3 + total (map weight l.formulas.now)

abbrev pub decreases-clausify_some : goal.decreases-clausify_some
decreases-clausify_some l = 4 + total (map weight l.formulas.now)

abbrev pub decreases-clausify_all : goal.decreases-clausify_all
decreases-clausify_all l = 1 + total (map weight l.formulas.now)
