use Rattle.std.proofs.Common.{arith}
use Rattle.fm_nnf.specs.Lifting.{formula_has, term_has}
use Rattle.fm_nnf.proofs.Renumbering.{marks_end, marks_more}
use Rattle.fm_nnf.proofs.Weights.{formula_weight, item-weight, term_weight}
use Rattle.fm_nnf.proofs.marks.+mark.Goals as goal

pub mark_all-mark-requires : goal.mark_all-mark-requires
mark_all-mark-requires t c =
    let w = item-weight formula_weight c.args.formulas.now c.loop-formula.formula-index c.formula-item.result c.loop-formula-test.true c.formula-item.is in
    (omega (arith, c.decreases, w), tt)

pub mark_all-loop-formula-preserved : goal.mark_all-loop-formula-preserved
mark_all-loop-formula-preserved t c = λ last rest.
    c.loop-formula.invariant last (marks_more formula_has c.args.formulas.now c.loop-formula.formula-index c.formula-item.result c.loop-formula-test.true c.formula-item.is c.loop-formula.marks.items c.mark.new.marks.items last c.mark.ensures rest)

pub mark_all-returns : goal.mark_all-returns
mark_all-returns t c = c.loop-formula.invariant c.loop-formula.marks.items (marks_end formula_has c.args.formulas.now c.loop-formula.formula-index c.loop-formula-test.false c.loop-formula.marks.items)

pub mark_terms-mark_term-requires : goal.mark_terms-mark_term-requires
mark_terms-mark_term-requires t c =
    let w = item-weight term_weight c.args.terms.now c.loop-term.term-index c.term-item.result c.loop-term-test.true c.term-item.is in
    (omega (arith, c.decreases, w), tt)

pub mark_terms-loop-term-preserved : goal.mark_terms-loop-term-preserved
mark_terms-loop-term-preserved t c = λ last rest.
    c.loop-term.invariant last (marks_more term_has c.args.terms.now c.loop-term.term-index c.term-item.result c.loop-term-test.true c.term-item.is c.loop-term.marks.items c.mark_term.new.marks.items last c.mark_term.ensures rest)

pub mark_terms-returns : goal.mark_terms-returns
mark_terms-returns t c = c.loop-term.invariant c.loop-term.marks.items (marks_end term_has c.args.terms.now c.loop-term.term-index c.loop-term-test.false c.loop-term.marks.items)
