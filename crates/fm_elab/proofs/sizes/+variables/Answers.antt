use Rattle.std.proofs.Common.{arith}
use Rattle.fm_nnf.proofs.Weights.{formula_weight, item-weight}
use Rattle.fm_elab.proofs.sizes.+variables.Goals as goal

pub all_variables-variables-requires : goal.all_variables-variables-requires
all_variables-variables-requires t c =
    let w = item-weight formula_weight c.args.formulas.now c.loop-formula.formula-index c.formula-item.result c.loop-formula-test.true c.formula-item.is in
    omega (arith, c.decreases, w)
