use Rattle.std.proofs.Common.{arith, length, ◌<◌}
use Rattle.fm_terms.proofs.Naming.{distinct_stopped, names_next, repeated_here, repeated_next}
use Rattle.fm_terms.proofs.pairs.distinct_names.Goals as goal

pub returns-in-Ok-false : goal.returns-in-Ok-false
returns-in-Ok-false c =
    distinct_stopped c.refuse.result _ c.pair-item.result.0.at _ c.refuse.ensures
    (repeated_here c.args.pairs.now c.loop-pair.pair-index c.pair-item.result c.loop-pair.names c.in-Ok-false.field-0 _ (omega (arith, c.loop-pair-test.true)) c.pair-item.is c.in-Ok-false.ensures.free c.in-Ok-false.field-0-test c.loop-pair.invariant.rest)

pub loop-pair-preserved : goal.loop-pair-preserved
loop-pair-preserved c =
    let lt : c.loop-pair.pair-index < length c.args.pairs.now = omega (arith, c.loop-pair-test.true) in
    let added = c.in-Ok-true.ensures.added c.in-Ok-true.field-0-test in
    record {
      rest = repeated_next c.args.pairs.now c.loop-pair.pair-index c.pair-item.result c.loop-pair.names c.insert.new.self c.in-Ok-true.field-0 _ lt c.pair-item.is c.in-Ok-true.ensures.free c.in-Ok-true.field-0-test added c.loop-pair.invariant.rest;
      names = names_next c.args.pairs.now c.loop-pair.pair-index c.pair-item.result c.loop-pair.names c.insert.new.self _ lt c.pair-item.is added c.loop-pair.invariant.names;
    }
