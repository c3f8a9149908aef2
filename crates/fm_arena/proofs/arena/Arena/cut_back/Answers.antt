use Rattle.fm_arena.proofs.Weighing.{cut_weighed}
use Rattle.fm_arena.proofs.Cutting.{cut_measured, cut_terms}
use Rattle.fm_arena.proofs.arena.Arena.cut_back.Goals as goal

pub invariant_of-self : goal.invariant_of-self
invariant_of-self c =
    (cut_measured c.self.inside.entries.items c.truncate.new.self.items c.args.mark c.truncate.ensures.items c.self.invariant.0, cut_weighed c.self.inside.entries.items c.truncate.new.self.items c.args.mark c.truncate.ensures.items c.self.invariant.1)

pub returns : goal.returns
returns c = cut_terms c.self.inside.entries.items c.args.self.now c.truncate.new.self.items c.args.mark c.self.view_is c.truncate.ensures.items
