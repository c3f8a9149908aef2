use Rattle.std.proofs.Common.{ap, ◌∙◌}
use Rattle.std.specs.Str.{bytes_eq}
use Rattle.fm_levels.specs.Tables.{looked_up}
use Rattle.fm_levels.proofs.Tabling.{lookup_named, tests_flip}
use Rattle.fm_levels.proofs.table.Table.get.Goals as goal

pub returns : goal.returns
returns g c =
    let name = c.args.name.now in
    c.get.ensures.value ∙ lookup_named (λ k. bytes_eq name k.now) name c.self.inside.map.entries (tests_flip name) ∙ ap (looked_up name) c.self.view_is
