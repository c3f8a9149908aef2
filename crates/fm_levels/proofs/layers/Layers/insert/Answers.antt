use Rattle.std.proofs.Common.{◌∙◌, sym}
use Rattle.fm_levels.specs.Tables.{named_values}
use Rattle.fm_levels.proofs.Leveling.{put_is_above}
use Rattle.fm_levels.proofs.layers.Layers.insert.Goals as goal

pub invariant_of-self-in-Continue-branch-2 : goal.invariant_of-self-in-Continue-branch-2
invariant_of-self-in-Continue-branch-2 g c = (put_is_above c.args.first (named_values c.self.inside.first.items) _ _ c.self.inside.marks.items _ (c.args.name.now, c.args.value) c.self.view_is c.self.invariant (sym c.is_below.ensures ∙ c.if-is_below.false) c.in_ok-push_entry-2.ensures.added).1

pub returns-in_ok-push_entry-2-clause-added : goal.returns-in_ok-push_entry-2-clause-added
returns-in_ok-push_entry-2-clause-added g c = (put_is_above c.args.first (named_values c.self.inside.first.items) _ _ c.self.inside.marks.items _ (c.args.name.now, c.args.value) c.self.view_is c.self.invariant (sym c.is_below.ensures ∙ c.if-is_below.false) c.in_ok-push_entry-2.ensures.added).0
