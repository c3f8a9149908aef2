use Rattle.std.proofs.Common.{◌-◌, length, refl, arith}
use Rattle.fm_arena.specs.Weights.{weighed_of}
use Rattle.fm_arena.proofs.Passing.{mark_gains, part_past_gains}
use Rattle.fm_arena.proofs.passes.Pass.add_part.Goals as goal

pub returns-then-part-before : goal.returns-then-part-before
returns-then-part-before c = part_past_gains c.args.before.now (length c.args.before.now) c.args.self.now c.add_own.new.self c.args.reads c.args.part c.add_own.result c.if-part-before.true c.add_own.ensures

pub returns : goal.returns
returns c =
    let fs = weighed_of c.args.before.now in
    let n = length c.args.before.now in
    mark_gains fs n (n - 1 - c.args.part) c.args.self.now _ c.reach_back.new.marks.items c.args.reads c.index.result.now c.in_ok-mark.mark c.args.part refl refl refl (c.in_ok-reach_back.ensures.weight fs n)
    (λ le. c.in_ok-reach_back.ensures.few n le (omega (arith, c.if-part-before.false))) c.in_ok-reach_back.ensures.long c.index.ensures c.in_ok-mark.ensures (omega (arith, c.if-part-before.false))
