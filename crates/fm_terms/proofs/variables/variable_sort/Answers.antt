use Rattle.std.proofs.Common.{false, sym, ◌∙◌, ◌≡◌}
use Rattle.std.specs.Prelude.{codes}
use Rattle.std.specs.Option.{option_copied}
use Rattle.std.specs.Str.{bytes_eq}
use Rattle.fm_levels.specs.Levels.{joined}
use Rattle.fm_script.specs.Commands.{place_of_item}
use Rattle.fm_script.specs.Shown.{name_shown}
use Rattle.fm_apply.specs.Scoped.{sorts_in}
use Rattle.fm_terms.proofs.Naming.{sort_by, sort_is}
use Rattle.fm_terms.proofs.variables.variable_sort.Goals as goal

pub returns-else-eq : goal.returns-else-eq
returns-else-eq c =
    let q = c.eq.ensures in
    let k = c.if-eq.false in
    let s = c.as_slice.ensures in
    let e : bytes_eq c.in-Some.part.bytes.now (codes "Bool") ≡ false = cc in
    sort_by (sorts_in (joined c.args.scope.now.sorts.now)) (place_of_item c.args.item.now) (name_shown c.in-Some.part) _ (option_copied c.get.result) c.sort_found.result (sym c.in-Some.ensures) e
    (c.get.ensures ∙ sym (sort_is c.in-Some.part.bytes.now (joined c.args.scope.now.sorts.now))) c.sort_found.ensures
