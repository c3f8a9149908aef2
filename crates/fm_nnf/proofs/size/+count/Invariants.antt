use Rattle.std.proofs.Common.{◌≡◌, ◌+◌, ◌≤◌, map, drop}
use Rattle.fm_nnf.specs.NormalSize.{total}
use Rattle.fm_nnf.specs.Counting.{count_all, normal_count}
use Rattle.fm_nnf.specs.Counting.{sizes_of}
use Rattle.fm_nnf.proofs.Weights.{formula_weight}
use Rattle.fm_nnf.proofs.size.+count.Given as goal

abbrev pub invariant-count_all-loop-formula : goal.invariant-count_all-loop-formula
invariant-count_all-loop-formula l = record {
  below : l.sum ≤ l.left;
  rest : l.sum + count_all l.positive (map normal_count (drop l.formula-index l.formulas)) (sizes_of l.frame) l.universal ≡ count_all l.positive (map normal_count l.formulas) (sizes_of l.frame) l.universal;
}

abbrev pub decreases-count : goal.decreases-count
decreases-count l = formula_weight l.formula.now

abbrev pub decreases-count_all : goal.decreases-count_all
decreases-count_all l = 1 + total (map formula_weight l.formulas.now)

abbrev pub decreases-count_or : goal.decreases-count_or
decreases-count_or l = 1 + (formula_weight l.one.now + formula_weight l.other.now)

abbrev pub decreases-count_block : goal.decreases-count_block
decreases-count_block l = 1 + formula_weight l.body.now
