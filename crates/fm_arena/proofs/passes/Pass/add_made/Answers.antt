use Rattle.std.proofs.Common.{length}
use Rattle.fm_arena.specs.Weights.{weighed_of}
use Rattle.fm_arena.proofs.Passing.{made_result}
use Rattle.fm_arena.proofs.passes.Pass.add_made.Goals as goal

pub returns-in_ok-deeper-in-None : goal.returns-in_ok-deeper-in-None
returns-in_ok-deeper-in-None c =
    made_result (weighed_of c.args.before.now) (length c.args.before.now) c.args.self.now c.add_own.new.self c.add_parts.new.self c.args.reads c.in_ok-deeper-in-None.field-0 c.args.op c.args.parts.now c.add_parts.result c.in_ok-add_own-in-None.ensures c.add_parts.ensures c.requires c.in_ok-deeper-in-None.ensures c.in-None.ensures
