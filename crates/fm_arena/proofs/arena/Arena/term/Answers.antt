use Rattle.fm_arena.proofs.Closing.{term_closed}
use Rattle.fm_arena.proofs.arena.Arena.term.Goals as goal

pub returns : goal.returns
returns c = term_closed c.as_slice.result.now c.self.inside.entries.items c.args.self.now c.args.number c.in_ok-tree.tree c.thing_in.result c.as_slice.ensures.value c.self.view_is c.self.invariant.0 c.requires c.in_ok-tree.ensures c.thing_in.ensures
