use Rattle.std.proofs.Common.{◌≡◌, ◌+◌, map, drop}
use Rattle.fm_base.specs.Truth.{is_well_sorted, sort_of, all_sorted, are_arguments}
use Rattle.fm_truth.proofs.Weights.{total, formula_weight, term_weight}
use Rattle.fm_truth.proofs.sorted.+sorted.Given as goal

abbrev pub decreases-formula_sorted : goal.decreases-formula_sorted
decreases-formula_sorted l = formula_weight l.formula.now

abbrev pub decreases-term_sort : goal.decreases-term_sort
decreases-term_sort l = term_weight l.term.now

abbrev pub decreases-formulas_sorted : goal.decreases-formulas_sorted
decreases-formulas_sorted l = 1 + total (map formula_weight l.formulas.now)

abbrev pub decreases-terms_fit : goal.decreases-terms_fit
decreases-terms_fit l = 1 + total (map term_weight l.terms.now)

abbrev pub invariant-formulas_sorted-loop-formula : goal.invariant-formulas_sorted-loop-formula
invariant-formulas_sorted-loop-formula l = all_sorted (map is_well_sorted (drop l.formula-index l.formulas)) l.sig l.scope ≡ all_sorted (map is_well_sorted l.formulas) l.sig l.scope

-- the test of what is left is the test of the whole
abbrev pub invariant-terms_fit-loop-i : goal.invariant-terms_fit-loop-i
invariant-terms_fit-loop-i l = are_arguments (map sort_of (drop l.i l.terms)) (drop l.i l.types) l.sig l.scope ≡ are_arguments (map sort_of l.terms) l.types l.sig l.scope
