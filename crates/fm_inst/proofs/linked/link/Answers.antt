use Rattle.std.proofs.Common.{◌≡◌, ℕ, ◌+◌, ◌-◌, ◌<◌, length, get_or, set, sym, subst, arith}
use Rattle.fm_inst.specs.Levels.{AreLinked}
use Rattle.fm_inst.proofs.Linking.{at_most, linked_more}
use Rattle.fm_inst.proofs.linked.link.Goals as goal

pub put_first-requires-clause-depth : goal.put_first-requires-clause-depth
put_first-requires-clause-depth c =
    let k : ℕ = c.loop-left.left - 1 in
    let lt : k < length c.args.depths.now = omega (arith, c.loop-left.invariant.within, c.loop-left-test.true) in
    omega (arith, at_most c.args.depths.now c.args.count k c.requires.depths lt, c.loop-left.invariant.linked.levels)

pub loop-left-preserved : goal.loop-left-preserved
loop-left-preserved c =
    let es = c.args.depths.now in
    let count = c.args.count in
    let first = c.loop-left.first in
    let next = c.loop-left.next in
    let k : ℕ = c.loop-left.left - 1 in
    let one : c.loop-left.left ≡ k + 1 = omega (arith, c.loop-left-test.true) in
    let lt : k < length es = omega (arith, c.loop-left.invariant.within, c.loop-left-test.true) in
    let more = linked_more es count k first next c.requires.depths lt (subst (λ n. AreLinked es count n first next) one c.loop-left.invariant.linked) in
    record {
      within = omega (arith, lt);
      linked = subst (λ f. AreLinked es count k f c.put_first.new.next) (sym c.put_first.ensures.first) (subst (λ n. AreLinked es count k (set first (get_or es k 0) k) n) (sym c.put_first.ensures.next) more);
    }
