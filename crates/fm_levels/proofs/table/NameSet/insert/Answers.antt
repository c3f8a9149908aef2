use Rattle.std.proofs.Common.{ap, ◌∙◌}
use Rattle.std.specs.Prelude.{not}
use Rattle.std.specs.Str.{bytes_eq}
use Rattle.fm_levels.specs.Tables.{is_among_names}
use Rattle.fm_levels.proofs.Tabling.{any_named, distinct_texts, tests_flip}
use Rattle.fm_levels.proofs.table.NameSet.insert.Goals as goal

pub invariant_of-self-2 : goal.invariant_of-self-2
invariant_of-self-2 c = distinct_texts c.insert.new.self.keys c.in_ok-is_new.ensures.unique

pub returns-clause-free : goal.returns-clause-free
returns-clause-free c =
    let name = c.args.name.now in
    c.in_ok-is_new.ensures.added ∙ ap not (any_named (λ k. bytes_eq name k.now) name c.self.inside.set.keys (tests_flip name) ∙ ap (is_among_names name) c.self.view_is)
