use Rattle.std.proofs.Common.{ℕ, List, take_all, refl, subst, ◌∙◌, arith, get_or}
use Rattle.fm_cong.specs.Growth.{HasPlace}
use Rattle.fm_cong.proofs.Noting.{more_uses, places_more}
use Rattle.fm_cong.proofs.registry.note_all.Goals as goal

pub loop-arg-preserved : goal.loop-arg-preserved
loop-arg-preserved c =
    let i = c.loop-arg.invariant in
    let n = c.in_ok-note_use.ensures in
    let us = c.loop-arg.uses.items in
    let vs = c.note_use.new.uses.items in
    let arg = get_or c.args.args.now c.loop-arg.arg-index 0 in
    record {
      kept = more_uses c.args.uses.now.items us vs i.kept n.kept;
      there = places_more us vs c.args.args.now c.loop-arg.arg-index arg c.args.place c.loop-arg-test.true refl n.kept n.there i.there;
      long = n.length ∙ i.long;
    }

pub returns-clause-there : goal.returns-clause-there
returns-clause-there c =
    subst (λ (args : List ℕ). HasPlace c.loop-arg.uses.items args c.args.place) (take_all c.loop-arg.arg-index c.args.args.now (omega (arith, c.loop-arg-test.false))) c.loop-arg.invariant.there
