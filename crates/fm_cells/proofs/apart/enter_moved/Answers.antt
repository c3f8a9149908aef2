use Rattle.std.proofs.Common.{◌||◌, length, refl, arith}
use Rattle.std.proofs.lemmas.Option.{slice_get_read}
use Rattle.fm_cells.specs.Rings.{own_or}
use Rattle.fm_cells.proofs.Keying.{IsEnteredMove, behind, longer_more, move_entered, moves_later, range_more, sound_more}
use Rattle.fm_cells.proofs.apart.enter_moved.Goals as goal

pub loop-at-preserved : goal.loop-at-preserved
loop-at-preserved c =
    let class = own_or c.args.class.now.cells.items in
    let log = c.args.class.now.log in
    let pairs = c.args.pairs.now in
    let sides = c.args.sides.now in
    let inv = c.loop-at.invariant in
    let e = c.in_ok-joined.ensures in
    let ks = c.loop-at.keys.keys in
    let ls = c.enter_node.new.keys.keys in
    let j = c.loop-at.joined in
    let k = c.in_ok-joined.field-0 in
    let entry = c.index.result.now in
    let at = slice_get_read log.items (length log.items) c.loop-at.at entry refl (omega (arith, log.ok.0, c.loop-at-test.true)) c.index.ensures in
    record {
      keys = longer_more c.args.keys.now.keys ks ls inv.keys e.keys;
      sound = sound_more class pairs c.args.keys.now.keys ks ls inv.sound e.sound;
      entered = range_more (IsEnteredMove class pairs sides ls (j || k) log.items) c.args.from c.loop-at.at (λ n le lt. moves_later class pairs sides ks ls j k log.items e.keys n (inv.entered n le lt)) (move_entered class pairs sides ks ls j k log.items e.keys c.loop-at.at entry at e.entered);
    }

pub returns-clause-entered : goal.returns-clause-entered
returns-clause-entered c = λ x v h.
    let log = c.args.class.now.log in
    let b = behind log.items c.args.from (x, v) h in
    c.loop-at.invariant.entered b.0 b.1.0 (omega (arith, b.1.1.0, log.ok.0, c.loop-at-test.false)) (x, v) b.1.1.1
