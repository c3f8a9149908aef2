use Rattle.fm_build.proofs.Starting.{truths_next}
use Rattle.fm_build.proofs.classes.truths_of.Goals as goal

pub loop-term-preserved : goal.loop-term-preserved
loop-term-preserved c =
    let truth = c.truth-truth.ensures.truth.yes in
    truths_next c.args.graph.now c.loop-term.term c.loop-term.holds.items c.push.new.self.items c.is_true.result c.loop-term.invariant ((λ e. truth.0 (c.is_true.ensures.0 e)), (λ e. c.is_true.ensures.1 (truth.1 e))) c.in_ok-push.ensures.items
