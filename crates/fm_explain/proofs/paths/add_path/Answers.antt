use Rattle.std.proofs.Common.{◌≡◌, ℕ, suc, ◌-◌, List, sym, subst, arith}
use Rattle.fm_explain.specs.Meant.{with_node}
use Rattle.fm_cells.proofs.Heights.{height_next}
use Rattle.fm_explain.proofs.Adding.{IsClimbing, climb_left, climb_right, climbing_end, left_linked}
use Rattle.fm_explain.proofs.paths.add_path.Goals as goal

pub loop-left-preserved-then-high-low : goal.loop-left-preserved-then-high-low
loop-left-preserved-then-high-low c =
    let links = c.args.links.now in
    let to = c.in_ok-right.ensures.to in
    let inv = c.loop-left.invariant in
    let next = height_next links c.requires.ended c.loop-left.right to.0 to.1 in
    let rest : c.loop-left.low ≡ suc (c.loop-left.low - 1) = omega (arith, inv.low_is, next) in
    let step = climb_right links c.args.met.now.keys c.args.u c.args.v c.loop-left.met.keys c.loop-left.left c.loop-left.right c.loop-left.high c.loop-left.low c.requires.ended inv c.loop-left-test.true c.if-high-low.true to.0 to.1 (c.loop-left.low - 1) rest in
    subst (λ (ks : List ℕ). IsClimbing links c.args.met.now.keys c.args.u c.args.v ks c.loop-left.left c.in_ok-right.right c.loop-left.high (c.loop-left.low - 1)) (sym c.in_ok-right.ensures.keys)
    (subst (λ (r : ℕ). IsClimbing links c.args.met.now.keys c.args.u c.args.v (with_node c.loop-left.met.keys c.loop-left.right) c.loop-left.left r c.loop-left.high (c.loop-left.low - 1)) to.2 step)

pub climb-requires-else-high-low : goal.climb-requires-else-high-low
climb-requires-else-high-low c =
    let inv = c.loop-left.invariant in
    left_linked c.args.links.now c.loop-left.left c.loop-left.right inv.tree c.loop-left-test.true (omega (arith, inv.high_is, inv.low_is, c.if-high-low.false))

pub loop-left-preserved : goal.loop-left-preserved
loop-left-preserved c =
    let links = c.args.links.now in
    let to = c.in_ok-left.ensures.to in
    let inv = c.loop-left.invariant in
    let next = height_next links c.requires.ended c.loop-left.left to.0 to.1 in
    let rest : c.loop-left.high ≡ suc (c.loop-left.high - 1) = omega (arith, inv.high_is, next) in
    let step = climb_left links c.args.met.now.keys c.args.u c.args.v c.loop-left.met.keys c.loop-left.left c.loop-left.right c.loop-left.high c.loop-left.low c.requires.ended inv c.loop-left-test.true c.if-high-low.false to.0 to.1 (c.loop-left.high - 1) rest in
    subst (λ (ks : List ℕ). IsClimbing links c.args.met.now.keys c.args.u c.args.v ks c.in_ok-left.left c.loop-left.right (c.loop-left.high - 1) c.loop-left.low) (sym c.in_ok-left.ensures.keys)
    (subst (λ (r : ℕ). IsClimbing links c.args.met.now.keys c.args.u c.args.v (with_node c.loop-left.met.keys c.loop-left.left) r c.loop-left.right (c.loop-left.high - 1) c.loop-left.low) to.2 step)

pub returns-clause-has : goal.returns-clause-has
returns-clause-has c =
    λ e. climbing_end c.args.links.now c.args.met.now.keys c.args.u c.args.v c.loop-left.met.keys c.loop-left.left c.loop-left.right c.loop-left.high c.loop-left.low c.loop-left.invariant c.loop-left-test.false e
