use Rattle.std.proofs.Common.{◌<◌, ◌≤◌, length, map, arith}
use Rattle.fm_truth.proofs.Arguments.{arguments_differ}
use Rattle.fm_truth.proofs.Weights.{total, formula_weight, term_weight, item-weight}
use Rattle.fm_truth.proofs.sorted.+sorted.Goals as goal

pub formulas_sorted-formula_sorted-requires : goal.formulas_sorted-formula_sorted-requires
formulas_sorted-formula_sorted-requires t c =
    let fs = c.args.formulas.now in
    let i = c.loop-formula.formula-index in
    let x = c.formula-item.result in
    let lt : i < length fs = omega arith in
    let w : formula_weight x ≤ total (map formula_weight fs) = item-weight formula_weight fs i x lt c.formula-item.is in
    omega (arith, c.decreases, w)

pub terms_fit-returns-then-terms-types : goal.terms_fit-returns-then-terms-types
terms_fit-returns-then-terms-types t c = arguments_differ c.args.terms.now c.args.types.now c.args.sig.now c.args.scope.now c.if-terms-types.true

pub terms_fit-term_sort-requires : goal.terms_fit-term_sort-requires
terms_fit-term_sort-requires t c =
    let ts = c.args.terms.now in
    let i = c.loop-i.i in
    let x = c.index-terms-i.result in
    let lt : i < length ts = omega arith in
    let w : term_weight x ≤ total (map term_weight ts) = item-weight term_weight ts i x lt c.index-terms-i.is in
    (omega (arith, c.decreases, w), tt)
