use Rattle.fm_levels.proofs.Leveling.{count_is, count_is_over}
use Rattle.fm_levels.proofs.layers.Layers.count.Goals as goal

pub returns-in-Some-clause-some : goal.returns-in-Some-clause-some
returns-in-Some-clause-some g c = count_is _ _ c.self.inside.marks.items _ c.count-below.result c.count-above.result c.in-Some.count c.self.view_is c.self.invariant c.count-below.ensures c.count-above.ensures c.in-Some.ensures.1

pub returns-in-None-clause-none : goal.returns-in-None-clause-none
returns-in-None-clause-none g c = count_is_over _ _ c.self.inside.marks.items _ c.count-below.result c.count-above.result c.self.view_is c.self.invariant c.count-below.ensures c.count-above.ensures c.in-None.ensures
