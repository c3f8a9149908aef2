use Rattle.std.proofs.Common.{take, take_all, subst, arith}
use Rattle.std.specs.List.{All}
use Rattle.std.proofs.lemmas.List.Elements.{All-more}
use Rattle.fm_cong.specs.Tables.{IsAgain, moved}
use Rattle.fm_cong.proofs.Entering.{again_grown, grown_more}
use Rattle.fm_cong.proofs.table.enter_uses.Goals as goal

pub loop-place-preserved : goal.loop-place-preserved
loop-place-preserved c =
    let inv = c.loop-place.invariant in
    let e = c.in_ok-enter_at.ensures in
    let ps = c.args.places.now in
    record {
      table = grown_more c.args.table.now.entries c.loop-place.table.entries c.enter_at.new.table.entries inv.table e.table;
      waiting = grown_more c.args.waiting.now.items c.loop-place.waiting.items c.enter_at.new.waiting.items inv.waiting e.waiting;
      entered = All-more (IsAgain c.args.members.now (moved c.args.from c.args.to c.args.class.now.cells.items) c.enter_at.new.table.entries c.enter_at.new.waiting.items) ps c.loop-place.place-index 0 c.loop-place-test.true (again_grown c.args.members.now (moved c.args.from c.args.to c.args.class.now.cells.items) c.loop-place.table.entries c.enter_at.new.table.entries c.loop-place.waiting.items c.enter_at.new.waiting.items (take c.loop-place.place-index ps) e.table e.waiting inv.entered) e.entered;
      sound = λ h. e.sound (inv.sound h);
    }

pub returns-clause-entered : goal.returns-clause-entered
returns-clause-entered c = subst (All (IsAgain c.args.members.now (moved c.args.from c.args.to c.args.class.now.cells.items) c.loop-place.table.entries c.loop-place.waiting.items)) (take_all c.loop-place.place-index c.args.places.now (omega (arith, c.loop-place-test.false))) c.loop-place.invariant.entered
