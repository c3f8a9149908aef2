use Rattle.std.proofs.Common.{arith}
use Rattle.fm_nnf.specs.NormalSize.{term_nodes}
use Rattle.fm_clauses.specs.Assertions.{all_ground, all_grounds}
use Rattle.fm_clauses.proofs.Marking.{ground_end, ground_more, sorts_end, sorts_more}
use Rattle.fm_clauses.proofs.Weights.{item-weight}
use Rattle.fm_clauses.proofs.fresh.+mark.Goals as goal

pub mark_terms-mark_term-ground-requires : goal.mark_terms-mark_term-ground-requires
mark_terms-mark_term-ground-requires t c =
    let w = item-weight term_nodes c.args.terms.now c.loop-term.term-index c.term-item.result c.loop-term-test.true c.term-item.is in
    (omega (arith, c.decreases, w), tt)

pub mark_terms-loop-term-preserved : goal.mark_terms-loop-term-preserved
mark_terms-loop-term-preserved t c =
    let sig = c.args.sig.now in
    let ts = c.args.terms.now in
    let i = c.loop-term.term-index in
    let x = c.term-item.result in
    record {
      ground = ground_more sig ts i x c.loop-term-test.true c.term-item.is c.loop-term.all c.mark_term-ground.result c.both-all.result (all_ground (all_grounds sig ts)) c.mark_term-ground.ensures.ground c.both-all.ensures c.loop-term.invariant.ground;
      sorts = λ last rest. c.loop-term.invariant.sorts last (sorts_more sig ts i x c.loop-term-test.true c.term-item.is c.loop-term.marks.items c.mark_term-ground.new.marks.items last c.mark_term-ground.ensures.sorts rest);
    }

pub mark_terms-returns : goal.mark_terms-returns
mark_terms-returns t c =
    let sig = c.args.sig.now in
    let ts = c.args.terms.now in
    let i = c.loop-term.term-index in
    record {
      ground = ground_end sig ts i c.loop-term-test.false c.loop-term.all (all_ground (all_grounds sig ts)) c.loop-term.invariant.ground;
      sorts = c.loop-term.invariant.sorts c.loop-term.marks.items (sorts_end sig ts i c.loop-term-test.false c.loop-term.marks.items);
    }
