use Rattle.fm_arena.proofs.Weighing.{name_follows}
use Rattle.fm_arena.proofs.Growing.{name_is_measured}
use Rattle.fm_arena.proofs.arena.Arena.name.Goals as goal

pub invariant_of-self-2 : goal.invariant_of-self-2
invariant_of-self-2 c = c.in_ok-number.ensures.kept c.self.invariant (name_is_measured c.args.place c.args.ty c.is_bool-truth.result c.is_bool-truth.ensures, name_follows _ _ c.args.place c.is_bool-truth.result c.args.ty _)
