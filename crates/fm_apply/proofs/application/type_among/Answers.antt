use Rattle.fm_apply.proofs.Applying.{type_among_at, type_among_past}
use Rattle.fm_apply.proofs.application.type_among.Goals as goal

pub returns-in-None : goal.returns-in-None
returns-in-None c = type_among_past c.args.arena.now c.args.args.now c.args.place c.in-None.ensures.lookup.3

pub returns-in-Some : goal.returns-in-Some
returns-in-Some c = type_among_at c.args.arena.now c.args.args.now c.args.place c.in-Some.number.now 0 c.ty.result c.in-Some.ensures.lookup.3.0 (c.in-Some.ensures.lookup.3.1 0) c.ty.ensures
