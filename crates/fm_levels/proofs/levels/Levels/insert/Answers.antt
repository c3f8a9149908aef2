use Rattle.std.proofs.Common.{◌∙◌, sym}
use Rattle.fm_levels.proofs.Leveling.{fresh_above, fresh_below, put_is_above, put_is_below}
use Rattle.fm_levels.proofs.levels.Levels.insert.Goals as goal

pub invariant_of-self-else-is_below : goal.invariant_of-self-else-is_below
invariant_of-self-else-is_below g c = (put_is_above c.args.first c.self.inside.first _ _ c.self.inside.marks.items _ (c.args.name.now, c.args.value) c.self.view_is c.self.invariant (sym c.is_below.ensures ∙ c.if-is_below.false) (c.in_ok-insert-2.ensures.added (fresh_above c.args.name.now c.self.inside.first _ c.self.inside.marks.items _ c.in_ok-insert-2.field-0 c.has.result c.self.view_is c.self.invariant c.has.ensures c.if-has.false c.in_ok-insert-2.ensures.free))).1

pub returns-in_ok-insert-clause-added : goal.returns-in_ok-insert-clause-added
returns-in_ok-insert-clause-added g c = λ t. put_is_below c.args.first _ _ _ c.self.inside.marks.items _ (c.args.name.now, c.args.value) c.self.view_is (sym c.is_below.ensures ∙ c.if-is_below.true) (c.in_ok-insert.ensures.added (fresh_below c.args.name.now _ c.self.inside.upper c.self.inside.marks.items _ c.in_ok-insert.field-0 c.has.result c.self.view_is c.self.invariant c.has.ensures c.if-has.false c.in_ok-insert.ensures.free))

pub returns-in_ok-insert-2-clause-added : goal.returns-in_ok-insert-2-clause-added
returns-in_ok-insert-2-clause-added g c = λ t. (put_is_above c.args.first c.self.inside.first _ _ c.self.inside.marks.items _ (c.args.name.now, c.args.value) c.self.view_is c.self.invariant (sym c.is_below.ensures ∙ c.if-is_below.false) (c.in_ok-insert-2.ensures.added (fresh_above c.args.name.now c.self.inside.first _ c.self.inside.marks.items _ c.in_ok-insert-2.field-0 c.has.result c.self.view_is c.self.invariant c.has.ensures c.if-has.false c.in_ok-insert-2.ensures.free))).0
