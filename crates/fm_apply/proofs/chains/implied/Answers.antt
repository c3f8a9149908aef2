use Rattle.std.proofs.Common.{ap, true, ◌∙◌}
use Rattle.std.specs.Prelude.{Ok}
use Rattle.fm_apply.specs.Scoped.{number_term, terms_at}
use Rattle.fm_apply.proofs.Chaining.{finish, front_of_kind, implied_start, implied_step, implied_stopped, none_left}
use Rattle.fm_apply.proofs.Growing.{grows_refl, grows_trans, kind_stays}
use Rattle.fm_apply.proofs.chains.implied.Goals as goal

pub loop-arg-init : goal.loop-arg-init
loop-arg-init c =
    let old = c.args.arena.now in
    let e = c.in-Some.ensures.cases.0 in
    let front = front_of_kind true old c.args.args.now c.in-Some.front.now c.in-Some.last.now e c.requires in
    record {
      rest = λ x k. implied_start x old c.args.args.now c.in-Some.front.now c.in-Some.last.now e;
      grows = grows_refl old;
      kind = front.2;
      below = front.1;
      kinds = front.0;
    }

pub implies-requires-clause-left : goal.implies-requires-clause-left
implies-requires-clause-left c =
    let old = c.args.arena.now in
    let front = front_of_kind true old c.loop-arg.rest.now c.in-Some-split_last.before.now c.in-Some-split_last.arg.now c.in-Some-split_last.ensures.cases.0 c.loop-arg.invariant.kinds in
    kind_stays old c.loop-arg.arena c.in-Some-split_last.arg.now c.loop-arg.invariant.grows front.1 ∙ front.2

pub returns-in-Err-clause-answer : goal.returns-in-Err-clause-answer
returns-in-Err-clause-answer c =
    λ x e. implied_stopped x true c.args.arena.now c.loop-arg.arena c.implies.new.arena c.loop-arg.rest.now c.in-Some-split_last.before.now c.in-Some-split_last.arg.now c.loop-arg.made _ c.in-Err.fail c.in-Some-split_last.ensures.cases.0 c.loop-arg.invariant.grows c.loop-arg.invariant.kinds (c.loop-arg.invariant.rest x e) (c.in-Err.ensures.answer x e)

pub loop-arg-preserved : goal.loop-arg-preserved
loop-arg-preserved c =
    let old = c.args.arena.now in
    let mid = c.loop-arg.arena in
    let new = c.implies.new.arena in
    record {
      rest = λ x e. implied_step x true old mid new c.loop-arg.rest.now c.in-Some-split_last.before.now c.in-Some-split_last.arg.now c.loop-arg.made c.in-Ok.number _ c.in-Some-split_last.ensures.cases.0 c.loop-arg.invariant.grows c.loop-arg.invariant.kinds (c.loop-arg.invariant.rest x e) (c.in-Ok.ensures.answer x e);
      grows = grows_trans old mid new c.loop-arg.invariant.grows c.in-Ok.ensures.grows;
      kind = c.in-Ok.ensures.kind;
      below = c.in-Ok.ensures.below;
      kinds = (front_of_kind true old c.loop-arg.rest.now c.in-Some-split_last.before.now c.in-Some-split_last.arg.now c.in-Some-split_last.ensures.cases.0 c.loop-arg.invariant.kinds).0;
    }

pub returns-clause-answer : goal.returns-clause-answer
returns-clause-answer c =
    λ x e. c.loop-arg.invariant.rest x e ∙ ap (λ l. finish x (terms_at c.args.arena.now l) (Ok (number_term c.loop-arg.arena c.loop-arg.made))) (none_left c.loop-arg.rest.now c.in_default-split_last.ensures.cases)
