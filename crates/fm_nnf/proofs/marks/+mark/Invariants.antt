use Rattle.std.proofs.Common.{◌+◌, List, Bool, map, drop}
use Rattle.fm_nnf.specs.Lifting.{any_has, formula_has, term_has}
use Rattle.fm_nnf.specs.Marked.{Marks}
use Rattle.fm_nnf.specs.NormalSize.{total}
use Rattle.fm_nnf.proofs.Weights.{formula_weight, term_weight}
use Rattle.fm_nnf.proofs.marks.+mark.Given as goal

abbrev pub invariant-mark_all-loop-formula : goal.invariant-mark_all-loop-formula
invariant-mark_all-loop-formula l = (last : List Bool) → Marks (any_has (map formula_has (drop l.formula-index l.formulas))) l.marks.items last → Marks (any_has (map formula_has l.formulas)) l.fn.marks.items last

abbrev pub invariant-mark_terms-loop-term : goal.invariant-mark_terms-loop-term
invariant-mark_terms-loop-term l = (last : List Bool) → Marks (any_has (map term_has (drop l.term-index l.terms))) l.marks.items last → Marks (any_has (map term_has l.terms)) l.fn.marks.items last

abbrev pub decreases-mark : goal.decreases-mark
decreases-mark l = formula_weight l.formula.now

abbrev pub decreases-mark_all : goal.decreases-mark_all
decreases-mark_all l = 1 + total (map formula_weight l.formulas.now)

abbrev pub decreases-mark_term : goal.decreases-mark_term
decreases-mark_term l = term_weight l.term.now

abbrev pub decreases-mark_terms : goal.decreases-mark_terms
decreases-mark_terms l = 1 + total (map term_weight l.terms.now)
