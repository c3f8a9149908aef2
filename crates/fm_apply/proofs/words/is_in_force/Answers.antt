use Rattle.std.proofs.Common.{sym, ◌∙◌}
use Rattle.fm_levels.specs.Levels.{joined}
use Rattle.fm_levels.specs.Tables.{has}
use Rattle.fm_apply.proofs.Naming.{or_left, or_right, any_in_force}
use Rattle.fm_apply.proofs.words.is_in_force.Goals as goal

pub returns-then-has : goal.returns-then-has
returns-then-has c =
    let name = c.args.name.now in
    λ ts bound places. c.has.ensures ∙ or_left (has name (joined c.args.scope.now.functions.now)) (has name c.args.given.now) (sym c.has.ensures ∙ c.if-has.true)
    ∙ sym (any_in_force ts (joined c.args.scope.now.functions.now) c.args.given.now name)

pub returns-else-has : goal.returns-else-has
returns-else-has c =
    let name = c.args.name.now in
    λ ts bound places. c.has-else-has.ensures ∙ or_right (has name (joined c.args.scope.now.functions.now)) (has name c.args.given.now) (sym c.has.ensures ∙ c.if-has.false)
    ∙ sym (any_in_force ts (joined c.args.scope.now.functions.now) c.args.given.now name)
