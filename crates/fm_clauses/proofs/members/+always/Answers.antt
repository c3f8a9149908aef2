use Rattle.std.proofs.Common.{◌≡◌, ◌||◌, true, Bool, map, drop, arith, ap, sym, ◌∙◌, ◌+◌}
use Rattle.std.proofs.lemmas.Bool.{or_left}
use Rattle.fm_clauses.specs.Table.{node, all_parts, has_always}
use Rattle.fm_clauses.specs.Adding.{weight}
use Rattle.fm_clauses.proofs.Weights.{item-weight}
use Rattle.fm_clauses.proofs.Walks.{always_step}
use Rattle.fm_clauses.proofs.members.+always.Goals as goal

pub some_always-is_always-requires : goal.some_always-is_always-requires
some_always-is_always-requires t c =
    let w = item-weight weight c.args.formulas.now c.loop-formula.formula-index c.formula-item.result c.loop-formula-test.true c.formula-item.is in
    omega (arith, c.decreases, w)

pub some_always-returns-then-is_always : goal.some_always-returns-then-is_always
some_always-returns-then-is_always t c =
    let fs = c.args.formulas.now in
    let i = c.loop-formula.formula-index in
    let x = c.formula-item.result in
    let here : has_always (node x).parts ≡ true = sym c.is_always.ensures ∙ c.if-is_always.true in
    sym (sym c.loop-formula.invariant ∙ always_step fs i x c.loop-formula-test.true c.formula-item.is ∙ or_left (has_always (node x).parts) (has_always (all_parts (map node (drop (i + 1) fs)))) here)

pub some_always-loop-formula-preserved : goal.some_always-loop-formula-preserved
some_always-loop-formula-preserved t c =
    let fs = c.args.formulas.now in
    let i = c.loop-formula.formula-index in
    let x = c.formula-item.result in
    let here = sym c.is_always.ensures ∙ c.if-is_always.false in
    sym (ap (λ (b : Bool). b || has_always (all_parts (map node (drop (i + 1) fs)))) here) ∙ sym (always_step fs i x c.loop-formula-test.true c.formula-item.is) ∙ c.loop-formula.invariant
