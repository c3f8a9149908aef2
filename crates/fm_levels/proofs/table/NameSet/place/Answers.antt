use Rattle.std.proofs.Common.{ap, ◌∙◌}
use Rattle.std.specs.Str.{bytes_eq}
use Rattle.fm_levels.specs.Tables.{newest_among}
use Rattle.fm_levels.proofs.Tabling.{place_is, tests_flip}
use Rattle.fm_levels.proofs.table.NameSet.place.Goals as goal

pub returns-clause-place : goal.returns-clause-place
returns-clause-place c =
    let name = c.args.name.now in
    place_is (λ k. bytes_eq name k.now) name c.self.inside.set.keys c.get_index_of.result (tests_flip name) c.self.invariant c.get_index_of.ensures.index
    ∙ ap (newest_among 0 name) c.self.view_is
