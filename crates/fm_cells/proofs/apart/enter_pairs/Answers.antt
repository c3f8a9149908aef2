use Rattle.std.proofs.Common.{ℕ, List, arith, get_or, refl, subst}
use Rattle.fm_cells.specs.Apart.{AreEnteredAt}
use Rattle.fm_cells.specs.Rings.{own_or}
use Rattle.fm_cells.proofs.Keying.{entered_more, longer_more, sound_more, take_all}
use Rattle.fm_cells.proofs.apart.enter_pairs.Goals as goal

pub loop-place-preserved : goal.loop-place-preserved
loop-place-preserved c =
    let class = own_or c.args.class.now.cells.items in
    let pairs = c.args.pairs.now in
    let places = c.args.places.now in
    let inv = c.loop-place.invariant in
    let e = c.in_ok-joined.ensures in
    record {
      keys = longer_more c.args.keys.now.keys c.loop-place.keys.keys c.enter_at.new.keys.keys inv.keys e.keys;
      sound = sound_more class pairs c.args.keys.now.keys c.loop-place.keys.keys c.enter_at.new.keys.keys inv.sound e.sound;
      entered = entered_more class pairs c.loop-place.keys.keys c.enter_at.new.keys.keys c.loop-place.joined c.in_ok-joined.field-0 places c.loop-place.place-index (get_or places c.loop-place.place-index 0) (omega (arith, c.loop-place-test.true)) refl e.keys inv.entered e.entered;
    }

pub returns-clause-entered : goal.returns-clause-entered
returns-clause-entered c =
    let places = c.args.places.now in
    subst (λ (xs : List ℕ). AreEnteredAt (own_or c.args.class.now.cells.items) c.args.pairs.now c.loop-place.keys.keys c.loop-place.joined xs) (take_all c.loop-place.place-index places (omega (arith, c.loop-place-test.false))) c.loop-place.invariant.entered
