use Rattle.std.proofs.Common.{◌∙◌, sym}
use Rattle.fm_levels.proofs.Leveling.{found_above, found_below}
use Rattle.fm_levels.proofs.levels.Levels.get.Goals as goal

pub returns-in-Some : goal.returns-in-Some
returns-in-Some g c = found_below c.args.name.now _ _ c.self.inside.marks.items _ _ c.self.view_is c.self.invariant c.in-Some.ensures

pub returns-in-None : goal.returns-in-None
returns-in-None g c = c.get-in-None.ensures ∙ found_above c.args.name.now _ _ c.self.inside.marks.items _ c.self.view_is c.self.invariant c.in-None.ensures
