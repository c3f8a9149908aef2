use Rattle.std.proofs.Common.{List, arith, length, subst, sym, true, ℕ, ◌<◌, ◌∙◌}
use Rattle.fm_apply.specs.Scoped.{AreOfKind}
use Rattle.fm_apply.proofs.Chaining.{neighbours_step, neighbours_stopped, next_kind, next_of_kind, of_kind_below, of_kind_push, of_kind_stays}
use Rattle.fm_apply.proofs.Growing.{grows_trans, kind_stays}
use Rattle.fm_apply.proofs.chains.neighbours.Goals as goal

pub same-requires : goal.same-requires
same-requires c =
    let old = c.args.arena.now in
    let mid = c.loop-right.arena in
    let lt : c.loop-right.right-index < length c.args.args.now = omega (arith, c.loop-right-test.true) in
    kind_stays old mid c.loop-right.left c.loop-right.invariant.grows c.loop-right.invariant.left ∙ c.loop-right.invariant.kind ∙ sym (next_kind c.args.truth old mid c.args.args.now c.loop-right.right-index 0 lt c.loop-right.invariant.grows c.loop-right.invariant.kinds)

pub returns-in-Err-clause-answer : goal.returns-in-Err-clause-answer
returns-in-Err-clause-answer c =
    let old = c.args.arena.now in
    let mid = c.loop-right.arena in
    let lt : c.loop-right.right-index < length c.args.args.now = omega (arith, c.loop-right-test.true) in
    let next = next_of_kind c.args.truth old c.args.args.now c.loop-right.right-index 0 lt c.loop-right.invariant.kinds in
    λ x e. neighbours_stopped x old mid c.same.new.arena c.args.args.now c.loop-right.right-index 0 c.loop-right.left c.loop-right.made.items _ c.in-Err.fail lt c.loop-right.invariant.grows c.loop-right.invariant.left next.0 (c.loop-right.invariant.rest x e) (c.in-Err.ensures.answer x e)

pub loop-right-preserved : goal.loop-right-preserved
loop-right-preserved c =
    let old = c.args.arena.now in
    let mid = c.loop-right.arena in
    let new = c.same.new.arena in
    let lt : c.loop-right.right-index < length c.args.args.now = omega (arith, c.loop-right-test.true) in
    let next = next_of_kind c.args.truth old c.args.args.now c.loop-right.right-index 0 lt c.loop-right.invariant.kinds in
    let pushed = c.in_ok-push-in-Ok.ensures.items in
    record {
      rest = λ x e. neighbours_step x old mid new c.args.args.now c.loop-right.right-index 0 c.loop-right.left c.in-Ok.number c.loop-right.made.items c.push.new.self.items _ lt c.loop-right.invariant.grows c.in-Ok.ensures.grows c.loop-right.invariant.left next.0 (of_kind_below true mid c.loop-right.made.items c.loop-right.invariant.made) pushed (c.loop-right.invariant.rest x e) (c.in-Ok.ensures.answer x e);
      grows = grows_trans old mid new c.loop-right.invariant.grows c.in-Ok.ensures.grows;
      made = subst (λ (l : List ℕ). AreOfKind true new l) (sym pushed) (of_kind_push true new c.loop-right.made.items c.in-Ok.number (of_kind_stays true mid new c.loop-right.made.items c.in-Ok.ensures.grows c.loop-right.invariant.made) c.in-Ok.ensures.below c.in-Ok.ensures.kind);
      left = next.0;
      kind = next.1;
      kinds = next.2;
    }
