use Rattle.std.proofs.Common.{◌≡◌, ◌+◌, map, drop}
use Rattle.fm_nnf.specs.Counting.{variables_of}
use Rattle.fm_nnf.specs.NormalSize.{total}
use Rattle.fm_nnf.proofs.bounds.+variables.Given as goal

abbrev pub invariant-all_variables-loop-formula : goal.invariant-all_variables-loop-formula
invariant-all_variables-loop-formula l = l.sum + total (map variables_of (drop l.formula-index l.formulas)) ≡ total (map variables_of l.formulas)
