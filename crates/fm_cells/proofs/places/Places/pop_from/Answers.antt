use Rattle.std.proofs.Common.{◌≡◌, ◌-◌, ℕ, List, subst, ap, arith, ◌∙◌}
use Rattle.fm_cells.specs.Apart.{popped_from}
use Rattle.fm_cells.proofs.Keying.{popped_empty, popped_high, popped_low}
use Rattle.fm_cells.proofs.places.Places.pop_from.Goals as goal
use Rattle.fm_cells.proofs.places.Places.pop_from.Goals.{else-count-gt0-via-else-count-gt0, else-count-gt0-via-then-count-gt0+else-index-bound}

pub returns-then-index-bound : goal.returns-then-index-bound
returns-then-index-bound c =
    let v = c.self.inside.places in
    c.truncate.ensures.items
    ∙ (popped_high c.args.bound v.items (c.len-count.result - 1) c.index.result.now (omega (arith, c.len-count.ensures, c.if-count-gt0.true, v.ok.0)) c.index.ensures c.if-index-bound.true
    ∙ ap (popped_from c.args.bound) c.self.view_is)

pub returns-else-count-gt0 : goal.returns-else-count-gt0
returns-else-count-gt0 c =
    let v = c.self.inside.places in
    subst (λ (xs : List ℕ). xs ≡ popped_from c.args.bound xs) c.self.view_is (elim c.else-count-gt0.branch [
      | else-count-gt0-via-then-count-gt0+else-index-bound w ↦ popped_low c.args.bound v.items (c.len-count.result - 1) w.index.result.now (omega (arith, c.len-count.ensures, w.if-count-gt0.true, v.ok.0)) w.index.ensures (omega (arith, w.if-index-bound.false))
      | else-count-gt0-via-else-count-gt0 w ↦ popped_empty c.args.bound v.items (omega (arith, c.len-count.ensures, w.if-count-gt0.false, v.ok.0))
    ])
