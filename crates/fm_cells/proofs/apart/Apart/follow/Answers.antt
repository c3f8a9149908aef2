use Rattle.std.proofs.Common.{ℕ, List, drop, subst}
use Rattle.fm_base.specs.declared.ids.TermId.{TermId}
use Rattle.fm_cells.specs.Apart.{AreEnteredBehind, KeepsSound}
use Rattle.fm_cells.specs.Rings.{own_or}
use Rattle.fm_cells.proofs.Keying.{keys_followed}
use Rattle.fm_cells.proofs.apart.Apart.follow.Goals as goal

pub returns-in-Ok-clause-right : goal.returns-in-Ok-clause-right
returns-in-Ok-clause-right c = λ before written joins roots indexed whole.
    let a = c.args.self.now in
    let cells = c.args.class.now.cells.items in
    let log = drop c.args.from c.args.class.now.log.items in
    let ks = c.enter_moved.new.keys.keys in
    let class = own_or cells in
    let e = c.in-Ok.ensures in
    let pairs = c.as_slice.ensures.value in
    let sides = c.as_slice-then-self.ensures.value in
    let sound : KeepsSound class a.pairs.items a.keys.keys ks = subst (λ (ps : List (TermId × TermId)). KeepsSound class ps a.keys.keys ks) pairs e.sound in
    let entered : AreEnteredBehind class a.pairs.items a.sides.items ks c.in-Ok.joined log = subst (λ (us : List (List ℕ)). AreEnteredBehind class a.pairs.items us ks c.in-Ok.joined log) sides (subst (λ (ps : List (TermId × TermId)). AreEnteredBehind class ps c.as_slice-then-self.result.now ks c.in-Ok.joined log) pairs e.entered) in
    keys_followed before cells log written joins roots a.pairs.items a.sides.items a.keys.keys c.enter_moved.new.keys.keys a.joined c.in-Ok.joined c.in-Ok.ensures.keys sound entered (indexed whole)
