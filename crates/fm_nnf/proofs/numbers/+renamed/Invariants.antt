use Rattle.std.proofs.Common.{◌≡◌, ◌++◌, ◌+◌, map, drop}
use Rattle.fm_nnf.specs.Lifting.{all_renamed, formula_renamed, term_renamed}
use Rattle.fm_nnf.specs.Marked.{new_number}
use Rattle.fm_nnf.specs.NormalSize.{total}
use Rattle.fm_nnf.proofs.Weights.{formula_weight, term_weight}
use Rattle.fm_nnf.proofs.numbers.+renamed.Given as goal

abbrev pub invariant-renamed_all-loop-formula : goal.invariant-renamed_all-loop-formula
invariant-renamed_all-loop-formula l = l.made.items ++ all_renamed (map formula_renamed (drop l.formula-index l.formulas)) (new_number l.numbers l.dropped) ≡ all_renamed (map formula_renamed l.formulas) (new_number l.numbers l.dropped)

abbrev pub invariant-renamed_terms-loop-term : goal.invariant-renamed_terms-loop-term
invariant-renamed_terms-loop-term l = l.made.items ++ all_renamed (map term_renamed (drop l.term-index l.terms)) (new_number l.numbers l.dropped) ≡ all_renamed (map term_renamed l.terms) (new_number l.numbers l.dropped)

abbrev pub decreases-renamed : goal.decreases-renamed
decreases-renamed l = formula_weight l.formula.now

abbrev pub decreases-renamed_box : goal.decreases-renamed_box
decreases-renamed_box l = 1 + formula_weight l.formula.now

abbrev pub decreases-renamed_all : goal.decreases-renamed_all
decreases-renamed_all l = 1 + total (map formula_weight l.formulas.now)

abbrev pub decreases-renamed_term : goal.decreases-renamed_term
decreases-renamed_term l = term_weight l.term.now

abbrev pub decreases-renamed_terms : goal.decreases-renamed_terms
decreases-renamed_terms l = 1 + total (map term_weight l.terms.now)
