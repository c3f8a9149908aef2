use Rattle.std.proofs.Common.{◌∙◌}
use Rattle.fm_bank.proofs.Growing.{front-trans}
use Rattle.fm_resolve.proofs.NameLaws.{named_next, pushed_numbered}
use Rattle.fm_resolve.proofs.store.Store.number_all.Goals as goal

pub loop-lit-preserved : goal.loop-lit-preserved
loop-lit-preserved c =
    let inv = c.loop-lit.invariant in
    let done = c.in_ok-number.ensures in
    let old = c.loop-lit.self.atoms.keys in
    let new = c.number.new.self.atoms.keys in
    record {
      named = named_next old new c.loop-lit.numbers.items c.push.new.self.items c.in_ok-number.number c.args.lits.now c.loop-lit.lit-index _ c.loop-lit-test.true done.front inv.numbered inv.named done.named c.in_ok-push.ensures.items;
      numbered = pushed_numbered old new c.loop-lit.numbers.items c.push.new.self.items c.in_ok-number.number done.front inv.numbered done.numbered c.in_ok-push.ensures.items;
      ready = done.ready;
      front = front-trans c.args.self.now.atoms.keys old new inv.front done.front;
      clauses = c.number.ensures.clauses ∙ inv.clauses;
    }
