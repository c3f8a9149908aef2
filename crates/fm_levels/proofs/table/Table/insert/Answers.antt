use Rattle.std.proofs.Common.{[], ap, sym, ◌++◌, ◌∙◌, ◌∷◌, ◌≡◌}
use Rattle.std.specs.Prelude.{None}
use Rattle.fm_levels.specs.Tables.{looked_up, named_values}
use Rattle.fm_levels.proofs.Tabling.{apart_values, has_none, insert_new}
use Rattle.fm_levels.proofs.table.Table.insert.Goals as goal

pub invariant_of-self-2 : goal.invariant_of-self-2
invariant_of-self-2 g c = apart_values c.insert.new.self.entries c.in_ok-insert.ensures.unique

pub returns-clause-added : goal.returns-clause-added
returns-clause-added g c =
    let name = c.args.name.now in
    let none : looked_up name c.args.self.now ≡ None = has_none name c.args.self.now (sym c.has.ensures ∙ c.if-has.false) in
    λ e. ap named_values c.in_ok-insert.ensures.entries
    ∙ insert_new c.self.inside.map.entries c.args.name c.args.value (ap (looked_up name) c.self.view_is ∙ none)
    ∙ ap (λ es. es ++ (name, c.args.value) ∷ []) c.self.view_is
