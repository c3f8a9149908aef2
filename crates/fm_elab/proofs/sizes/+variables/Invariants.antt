use Rattle.std.proofs.Common.{◌≡◌, ◌+◌, map, drop}
use Rattle.fm_nnf.specs.Counting.{variables_of}
use Rattle.fm_nnf.specs.NormalSize.{total}
use Rattle.fm_nnf.proofs.Weights.{formula_weight}
use Rattle.fm_elab.proofs.sizes.+variables.Given as goal

abbrev pub invariant-all_variables-loop-formula : goal.invariant-all_variables-loop-formula
invariant-all_variables-loop-formula l = l.sum + total (map variables_of (drop l.formula-index l.formulas)) ≡ total (map variables_of l.formulas)

abbrev pub decreases-variables : goal.decreases-variables
decreases-variables l = formula_weight l.formula.now

abbrev pub decreases-all_variables : goal.decreases-all_variables
decreases-all_variables l = 1 + total (map formula_weight l.formulas.now)
