use Rattle.fm_arena.proofs.Growing.{type_read}
use Rattle.fm_arena.proofs.arena.Arena.ty.Goals as goal

pub returns : goal.returns
returns c = type_read c.as_slice.result.now c.self.inside.entries.items c.args.self.now c.args.number c.type_of.result c.as_slice.ensures.value c.self.view_is c.self.invariant.0 c.type_of.ensures
