use Rattle.fm_levels.proofs.Leveling.{has_above, has_below}
use Rattle.fm_levels.proofs.levels.Levels.has.Goals as goal

pub returns-then-has : goal.returns-then-has
returns-then-has g c = has_below c.args.name.now _ _ c.self.inside.marks.items _ c.has.result c.self.view_is c.self.invariant c.has.ensures c.if-has.true

pub returns-else-has : goal.returns-else-has
returns-else-has g c = has_above c.args.name.now _ _ c.self.inside.marks.items _ c.has.result c.has-else-has.result c.self.view_is c.self.invariant c.has.ensures c.if-has.false c.has-else-has.ensures
