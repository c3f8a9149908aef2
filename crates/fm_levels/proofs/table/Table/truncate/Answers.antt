use Rattle.std.proofs.Common.{ap, sym, ◌∙◌}
use Rattle.std.specs.Prelude.{take}
use Rattle.std.proofs.lemmas.List.{take-map}
use Rattle.fm_levels.specs.Tables.{named_values}
use Rattle.fm_levels.proofs.Tabling.{apart_values}
use Rattle.fm_levels.proofs.table.Table.truncate.Goals as goal

pub invariant_of-self : goal.invariant_of-self
invariant_of-self g c = apart_values c.truncate.new.self.entries c.truncate.ensures.unique

pub returns : goal.returns
returns g c =
    ap named_values c.truncate.ensures.entries
    ∙ sym (take-map (λ e. (e.0.now, e.1)) c.args.len c.self.inside.map.entries)
    ∙ ap (take c.args.len) c.self.view_is
