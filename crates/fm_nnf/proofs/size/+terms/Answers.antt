use Rattle.std.proofs.Common.{arith}
use Rattle.fm_nnf.proofs.Weights.{term_weight}
use Rattle.fm_nnf.proofs.Weights.{item-weight}
use Rattle.fm_nnf.proofs.size.+terms.Goals as goal

pub count_terms-count_term-sum-requires : goal.count_terms-count_term-sum-requires
count_terms-count_term-sum-requires t c =
    let ts = c.args.terms.now in
    let w = item-weight term_weight ts c.loop-term.term-index c.term-item.result c.loop-term-test.true c.term-item.is in
    (omega (arith, c.decreases, w), c.requires)
