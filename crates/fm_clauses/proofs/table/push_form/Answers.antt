use Rattle.std.specs.Vec.{vec_len}
use Rattle.std.proofs.Common.{◌≡◌, length, arith, ℕ, List, ◌+◌, ◌++◌, [], ap, subst, ◌∙◌}
use Rattle.fm_base.specs.declared.formula.Nnf.{Nnf}
use Rattle.fm_base.specs.declared.signature.Rank.{Rank}
use Rattle.fm_clauses.specs.Adding.{Adds}
use Rattle.fm_clauses.specs.Table.{node}
use Rattle.fm_clauses.proofs.Problems.{form_adds}
use Rattle.fm_clauses.proofs.table.push_form.Goals as goal

pub returns : goal.returns
returns c =
    let c0 = c.args.clauses.now.items in
    let c2 = c.clausify.new.clauses.items in
    let r0 = c.args.ranks.now.items in
    let r1 = c.push_ranks.new.ranks.items in
    let r2 = c.clausify.new.ranks.items in
    let first = c.args.first in
    let count : vec_len c.args.ranks.now ≡ length r0 = omega arith in
    let made = c.in_ok-tree.ensures in
    form_adds c.args.formula.now first c.in_ok-next.next c0 c2 r0 r1 r2
    (c.in_ok-next.ensures.0 ∙ ap (λ (n : ℕ). first + n) (c.len.ensures ∙ count))
    (c.in_ok-push_ranks.ensures ∙ ap (λ (rs : List Rank). r0 ++ rs) (c.as_slice.ensures ∙ ap (λ p. p.1) made))
    (subst (λ (t : Nnf). Adds ((node t).run [] []) first c0 r1 c2 r2) (ap (λ p. p.0) made) c.in_ok-clausify.ensures)
