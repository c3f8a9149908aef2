use Rattle.std.proofs.Common.{◌≡◌, subst, sym, ap, ◌∙◌}
use Rattle.fm_bank.specs.Terms.{application}
use Rattle.fm_build.specs.Entries.{IsPut, tuple_at}
use Rattle.fm_build.proofs.entries.put_term.Goals as goal

pub returns : goal.returns
returns c = λ t stands.
    let elements = c.args.elements.now in
    let old = c.args.entries.now.items in
    let new = c.put.new.entries.items in
    let same : application c.term.result.0 c.term.result.1.now ≡ t = cc (sym c.term.ensures ∙ stands) in
    subst (λ v. IsPut old (tuple_at elements t) v new) c.element_in-value.ensures (subst (λ xs. IsPut old xs c.element_in-value.result new) (c.in_ok-tuple.ensures ∙ ap (tuple_at elements) same) c.in_ok-put.ensures)
