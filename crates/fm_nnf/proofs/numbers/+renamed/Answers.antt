use Rattle.std.proofs.Common.{arith}
use Rattle.fm_nnf.proofs.Weights.{formula_weight, item-weight, term_weight}
use Rattle.fm_nnf.proofs.numbers.+renamed.Goals as goal

pub renamed_all-renamed-requires : goal.renamed_all-renamed-requires
renamed_all-renamed-requires t c =
    let w = item-weight formula_weight c.args.formulas.now c.loop-formula.formula-index c.formula-item.result c.loop-formula-test.true c.formula-item.is in
    omega (arith, c.decreases, w)

pub renamed_terms-renamed_term-requires : goal.renamed_terms-renamed_term-requires
renamed_terms-renamed_term-requires t c =
    let w = item-weight term_weight c.args.terms.now c.loop-term.term-index c.term-item.result c.loop-term-test.true c.term-item.is in
    omega (arith, c.decreases, w)
