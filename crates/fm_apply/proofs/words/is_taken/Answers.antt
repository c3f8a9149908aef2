use Rattle.std.proofs.Common.{sym, ◌∙◌}
use Rattle.std.specs.Prelude.{◌||◌}
use Rattle.std.specs.Option.{option_map}
use Rattle.fm_apply.specs.Applied.{is_core, is_kept_for_solvers, is_own}
use Rattle.fm_apply.proofs.Naming.{or_right}
use Rattle.fm_apply.proofs.words.is_taken.Goals as goal

pub returns-else-is_own : goal.returns-else-is_own
returns-else-is_own c =
    λ ts bound places. c.is_in_force.ensures ts bound places
    ∙ or_right (is_own (option_map (λ n. n.now) c.args.scope.now.own) c.args.name.now) _ (sym c.is_own.ensures ∙ c.if-is_own.false)
    ∙ or_right (is_core c.args.name.now || is_kept_for_solvers c.args.name.now) _ (sym c.is_barred.ensures ∙ c.if-is_barred.false)
