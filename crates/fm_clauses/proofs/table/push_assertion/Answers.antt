use Rattle.std.specs.Vec.{vec_len}
use Rattle.std.proofs.Common.{◌≡◌, length, arith, ℕ, List, ◌+◌, ◌++◌, ap, subst, ◌∙◌}
use Rattle.fm_base.specs.declared.formula.Formula.{Formula}
use Rattle.fm_base.specs.declared.signature.Rank.{Rank}
use Rattle.fm_clauses.specs.Adding.{Adds}
use Rattle.fm_clauses.specs.Assertions.{form_made, forms_made}
use Rattle.fm_clauses.proofs.Problems.{assertion_adds}
use Rattle.fm_clauses.proofs.table.push_assertion.Goals as goal

pub returns : goal.returns
returns c =
    let c0 = c.args.clauses.now.items in
    let c1 = c.push_form.new.clauses.items in
    let c2 = c.push_forms.new.clauses.items in
    let r0 = c.args.ranks.now.items in
    let r1 = c.push_ranks.new.ranks.items in
    let r2 = c.push_form.new.ranks.items in
    let r3 = c.push_forms.new.ranks.items in
    let first = c.args.first in
    let count : vec_len c.args.ranks.now ≡ length r0 = omega arith in
    let made = c.in_ok-lifted.ensures in
    assertion_adds c.args.sig.now c.args.formula.now first c.in_ok-next.next c0 c1 c2 r0 r1 r2 r3
    (c.in_ok-next.ensures.0 ∙ ap (λ (n : ℕ). first + n) (c.len.ensures ∙ count))
    (c.in_ok-push_ranks.ensures ∙ ap (λ (rs : List Rank). r0 ++ rs) (c.as_slice.ensures ∙ made.ranks))
    (subst (λ (f : Formula). Adds (form_made f) first c0 r1 c1 r2) made.formula c.in_ok-push_form.ensures)
    (subst (λ (fs : List Formula). Adds (forms_made fs) first c1 r2 c2 r3) (c.as_slice-2.ensures ∙ made.definitions) c.in_ok-push_forms.ensures)
