use Rattle.std.proofs.Common.{◌+◌, ◌-◌, ◌/◌, ◌<◌, arith, get_or, length}
use Rattle.fm_base.specs.declared.ids.TermId.{TermId}
use Rattle.fm_cells.proofs.Placing.{above_half, below_half, same_at}
use Rattle.fm_cells.proofs.ascending.place.Goals as goal

pub loop-low-preserved-then-terms-middle : goal.loop-low-preserved-then-terms-middle
loop-low-preserved-then-terms-middle c =
    let inv = c.loop-low.invariant in
    let terms = c.args.terms.now in
    let middle = c.loop-low.low + (c.loop-low.high - c.loop-low.low) / 2 in
    let within : middle < length terms = omega (arith, c.loop-low-test.true, inv.ordered, inv.inside) in
    let d : TermId = record { 0 = 0 } in
    let t = get_or terms middle d in
    record {
      ordered = omega (arith, c.loop-low-test.true, inv.ordered);
      inside = inv.inside;
      below = below_half terms c.requires c.args.number middle t within (same_at terms middle d t within) c.if-terms-middle.true;
      above = inv.above;
    }

pub loop-low-preserved : goal.loop-low-preserved
loop-low-preserved c =
    let inv = c.loop-low.invariant in
    let terms = c.args.terms.now in
    let middle = c.loop-low.low + (c.loop-low.high - c.loop-low.low) / 2 in
    let within : middle < length terms = omega (arith, c.loop-low-test.true, inv.ordered, inv.inside) in
    let d : TermId = record { 0 = 0 } in
    let t = get_or terms middle d in
    record {
      ordered = omega (arith, c.loop-low-test.true, inv.ordered);
      inside = omega (arith, c.loop-low-test.true, inv.ordered, inv.inside);
      below = inv.below;
      above = above_half terms c.requires c.args.number middle t within (same_at terms middle d t within) c.if-terms-middle.false;
    }
