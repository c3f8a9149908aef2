use Rattle.std.proofs.Common.{ap, ◌∙◌}
use Rattle.std.specs.Prelude.{is_some}
use Rattle.std.specs.Str.{bytes_eq}
use Rattle.fm_levels.specs.Tables.{has}
use Rattle.fm_levels.proofs.Tabling.{lookup_named, tests_flip}
use Rattle.fm_levels.proofs.table.Table.has.Goals as goal

pub returns : goal.returns
returns g c =
    let name = c.args.name.now in
    c.contains_key.ensures ∙ ap is_some (lookup_named (λ k. bytes_eq name k.now) name c.self.inside.map.entries (tests_flip name)) ∙ ap (has name) c.self.view_is
