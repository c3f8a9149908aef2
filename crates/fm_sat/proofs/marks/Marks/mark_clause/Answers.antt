use Rattle.std.proofs.Common.{arith, false}
use Rattle.fm_sat.proofs.Joins.{joined_more, low_at}
use Rattle.fm_sat.proofs.marks.Marks.mark_clause.Goals as goal

pub mark_literal-requires-clause-low : goal.mark_literal-requires-clause-low
mark_literal-requires-clause-low c = low_at c.args.trail.now.entries c.args.lits.now c.args.bound c.args.top c.loop-lit.lit-index (record { atom = record { 0 = 0 }; positive = false }) c.requires.low c.loop-lit-test.true

pub loop-lit-preserved : goal.loop-lit-preserved
loop-lit-preserved c = record {
  counted = c.in_ok-mark_literal.ensures.counted;
  joined = joined_more c.args.trail.now.entries c.args.lits.now c.loop-lit.lit-index (record { atom = record { 0 = 0 }; positive = false }) c.args.bound c.args.self.now.marks.items c.loop-lit.self.marks.items c.mark_literal.new.self.marks.items c.loop-lit-test.true c.loop-lit.invariant.joined c.in_ok-mark_literal.ensures.joined;
  more = omega (arith, c.in_ok-mark_literal.ensures.more);
}
