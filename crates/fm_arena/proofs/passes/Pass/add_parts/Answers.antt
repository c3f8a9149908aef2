use Rattle.std.proofs.Common.{length, refl}
use Rattle.std.specs.Prelude.{get_or}
use Rattle.fm_arena.specs.Weights.{weighed_of}
use Rattle.fm_arena.proofs.Passing.{parts_end, parts_step}
use Rattle.fm_arena.proofs.passes.Pass.add_parts.Goals as goal

pub loop-part-preserved : goal.loop-part-preserved
loop-part-preserved c = λ p g.
    c.loop-part.invariant p (parts_step (weighed_of c.args.before.now) (length c.args.before.now) c.loop-part.self c.add_part.new.self p c.args.reads c.args.parts.now c.loop-part.part-index (get_or c.args.parts.now c.loop-part.part-index 0) c.loop-part-test.true refl c.in_ok-add_part.ensures g)

pub returns : goal.returns
returns c = c.loop-part.invariant c.loop-part.self (parts_end (weighed_of c.args.before.now) (length c.args.before.now) c.loop-part.self c.args.reads c.args.parts.now c.loop-part.part-index c.loop-part-test.false)
