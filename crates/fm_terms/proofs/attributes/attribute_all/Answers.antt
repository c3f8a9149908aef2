use Rattle.std.proofs.Common.{arith, length, subst, ◌<◌, ◌≡◌}
use Rattle.std.specs.Prelude.{Err, Ok}
use Rattle.fm_arena.specs.Meanings.{terms_of}
use Rattle.fm_apply.specs.Applied.{Context}
use Rattle.fm_apply.specs.Scoped.{Moment, context_of, named_in, names_in, places_in}
use Rattle.fm_apply.proofs.Growing.{context_stays, grows_trans}
use Rattle.fm_terms.specs.Elaborate.{Read, attribute_at}
use Rattle.fm_terms.specs.Scoped.{IsRead, attribute_shown, read_in}
use Rattle.fm_terms.proofs.Attaching.{attributes_go, attributes_halt, values_next}
use Rattle.fm_terms.proofs.attributes.attribute_all.Goals as goal

pub take_attribute-requires-clause-within : goal.take_attribute-requires-clause-within
take_attribute-requires-clause-within c =
    let lt : c.loop-one.one-index < length c.args.list.now = omega (arith, c.loop-one-test.true) in
    (values_next c.args.scope.now.text.now c.args.list.now c.loop-one.one-index c.one-item.result lt c.one-item.is c.loop-one.invariant.within).0

pub returns-in-Err-clause-answer : goal.returns-in-Err-clause-answer
returns-in-Err-clause-answer c =
    let lt : c.loop-one.one-index < length c.args.list.now = omega (arith, c.loop-one-test.true) in
    let old = c.args.arena.now in
    let mid = c.loop-one.arena in
    let m : Moment = (c.take_attribute.new.arena, c.take_attribute.new.given) in
    let r : Read = read_in mid c.loop-one.found (named_in (terms_of mid) c.loop-one.given) in
    let same = context_stays c.args.scope.now old mid (names_in c.args.frame.now) (places_in c.args.frame.now) c.loop-one.invariant.grows c.requires.ready.functions c.requires.ready.bound in
    attributes_halt (context_of (c.args.scope.now, c.args.frame.now) (terms_of old)) c.args.at c.args.list.now c.loop-one.one-index c.one-item.result r _ m c.in-Err.fail lt c.one-item.is c.loop-one.invariant.rest
    (subst (λ (k : Context). IsRead m (Err c.in-Err.fail) (attribute_at k c.args.at (attribute_shown c.one-item.result) r)) same c.in-Err.ensures.answer)

pub loop-one-preserved : goal.loop-one-preserved
loop-one-preserved c =
    let lt : c.loop-one.one-index < length c.args.list.now = omega (arith, c.loop-one-test.true) in
    let old = c.args.arena.now in
    let mid = c.loop-one.arena in
    let new = c.take_attribute.new.arena in
    let r : Read = read_in mid c.loop-one.found (named_in (terms_of mid) c.loop-one.given) in
    let next : Read = read_in new c.in-Ok.next (named_in (terms_of new) c.take_attribute.new.given) in
    let same = context_stays c.args.scope.now old mid (names_in c.args.frame.now) (places_in c.args.frame.now) c.loop-one.invariant.grows c.requires.ready.functions c.requires.ready.bound in
    record {
      rest = attributes_go (context_of (c.args.scope.now, c.args.frame.now) (terms_of old)) c.args.at c.args.list.now c.loop-one.one-index c.one-item.result r next _ lt c.one-item.is c.loop-one.invariant.rest
          (subst (λ (k : Context). attribute_at k c.args.at (attribute_shown c.one-item.result) r ≡ Ok next) same c.in-Ok.ensures.answer);
      grows = grows_trans old mid new c.loop-one.invariant.grows c.in-Ok.ensures.grows;
      given = c.in-Ok.ensures.below.1;
      number = c.in-Ok.ensures.below.0;
      within = (values_next c.args.scope.now.text.now c.args.list.now c.loop-one.one-index c.one-item.result lt c.one-item.is c.loop-one.invariant.within).1;
    }
