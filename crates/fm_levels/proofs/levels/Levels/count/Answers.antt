use Rattle.fm_levels.proofs.Leveling.{count_is, count_is_over}
use Rattle.fm_levels.proofs.levels.Levels.count.Goals as goal

pub returns-in-Some-clause-some : goal.returns-in-Some-clause-some
returns-in-Some-clause-some g c = count_is _ _ c.self.inside.marks.items _ c.len.result c.len-2.result c.in-Some.count c.self.view_is c.self.invariant c.len.ensures c.len-2.ensures c.in-Some.ensures.1

pub returns-in-None-clause-none : goal.returns-in-None-clause-none
returns-in-None-clause-none g c = count_is_over _ _ c.self.inside.marks.items _ c.len.result c.len-2.result c.self.view_is c.self.invariant c.len.ensures c.len-2.ensures c.in-None.ensures
