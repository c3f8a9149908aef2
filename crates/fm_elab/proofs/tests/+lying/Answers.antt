use Rattle.std.proofs.Common.{arith}
use Rattle.fm_terms.specs.Elaborate.{nesting}
use Rattle.fm_terms.proofs.Nesting.{item_nests}
use Rattle.fm_elab.proofs.tests.+lying.Goals as goal

pub all_lie_within-lies_within-requires : goal.all_lie_within-lies_within-requires
all_lie_within-lies_within-requires t c =
    let w = item_nests nesting c.args.items.now c.loop-item.item-index c.item-item.result (omega (arith, c.loop-item-test.true)) c.item-item.is in
    (omega (arith, c.decreases, w), tt)
