use Rattle.std.proofs.Common.{◌++◌, ◌+◌, List, map, drop}
use Rattle.fm_base.specs.declared.formula.Formula.{Formula}
use Rattle.fm_base.specs.declared.formula.Fterm.{Fterm}
use Rattle.fm_nnf.specs.declared.lifting.Made.{Made}
use Rattle.fm_nnf.specs.Made.{Lifts, formulas_of, terms_of}
use Rattle.fm_nnf.specs.NormalSize.{total}
use Rattle.fm_nnf.proofs.Weights.{formula_weight, term_weight}
use Rattle.fm_nnf.proofs.lifting.+lift.Given as goal

abbrev pub invariant-lift_formulas-loop-formula : goal.invariant-lift_formulas-loop-formula
invariant-lift_formulas-loop-formula l = (last : Made) (rest : List Formula) →
    Lifts (formulas_of l.sig (drop l.formula-index l.formulas)) l.scope l.first l.made last rest →
    Lifts (formulas_of l.sig l.formulas) l.scope l.first l.fn.made last (l.list.items ++ rest)

abbrev pub invariant-lift_terms-loop-term : goal.invariant-lift_terms-loop-term
invariant-lift_terms-loop-term l = (last : Made) (rest : List Fterm) →
    Lifts (terms_of l.sig (drop l.term-index l.terms)) l.scope l.first l.made last rest →
    Lifts (terms_of l.sig l.terms) l.scope l.first l.fn.made last (l.list.items ++ rest)

abbrev pub decreases-lift_formula : goal.decreases-lift_formula
decreases-lift_formula l = formula_weight l.formula.now

abbrev pub decreases-lift_equal : goal.decreases-lift_equal
decreases-lift_equal l = 1 + (term_weight l.left.now + term_weight l.right.now)

abbrev pub decreases-lift_iff : goal.decreases-lift_iff
decreases-lift_iff l = 1 + (formula_weight l.left.now + formula_weight l.right.now)

abbrev pub decreases-lift_ite : goal.decreases-lift_ite
decreases-lift_ite l = 1 + (formula_weight l.test.now + (formula_weight l.left.now + formula_weight l.right.now))

abbrev pub decreases-choose : goal.decreases-choose
decreases-choose l = 1 + (formula_weight l.test.now + (term_weight l.left.now + term_weight l.right.now))

abbrev pub decreases-lift_formulas : goal.decreases-lift_formulas
decreases-lift_formulas l = 1 + total (map formula_weight l.formulas.now)

abbrev pub decreases-lift_term : goal.decreases-lift_term
decreases-lift_term l = term_weight l.term.now

abbrev pub decreases-lift_terms : goal.decreases-lift_terms
decreases-lift_terms l = 1 + total (map term_weight l.terms.now)
