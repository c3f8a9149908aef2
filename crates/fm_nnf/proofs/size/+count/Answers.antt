use Rattle.std.proofs.Common.{arith}
use Rattle.fm_nnf.specs.Counting.{variables_of}
use Rattle.fm_nnf.proofs.Weights.{formula_weight}
use Rattle.fm_nnf.proofs.Weights.{item-weight}
use Rattle.fm_nnf.proofs.size.+count.Goals as goal

pub count_all-count-sum-requires : goal.count_all-count-sum-requires
count_all-count-sum-requires t c =
    let fs = c.args.formulas.now in
    let w = item-weight formula_weight fs c.loop-formula.formula-index c.formula-item.result c.loop-formula-test.true c.formula-item.is in
    let v = item-weight variables_of fs c.loop-formula.formula-index c.formula-item.result c.loop-formula-test.true c.formula-item.is in
    (omega (arith, c.decreases, w), (c.requires.depth, (omega (arith, c.requires.room, v), c.requires.within)))
