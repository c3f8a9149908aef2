use Rattle.std.proofs.Common.{◌≡◌, true, [], List, length, Some, sym, subst}
use Rattle.std.specs.Prelude.{◌↔◌, nat_le}
use Rattle.fm_guide.specs.declared.event.Event.{Event}
use Rattle.fm_guide.proofs.Expecting.{all_met}
use Rattle.fm_guide.proofs.expect.ExpectWatch.agrees.Goals as goal

pub returns-then-not-self : goal.returns-then-not-self
returns-then-not-self c =
    let w = c.self.inside in
    subst (λ (es : List Event). (nat_le (length es) w.met ≡ true) ↔ (c.args.self.now ≡ Some [])) (sym c.as_slice.ensures.value) (all_met w.met w.differs w.first.items c.args.self.now c.if-not-self.true (sym c.self.view_is))
