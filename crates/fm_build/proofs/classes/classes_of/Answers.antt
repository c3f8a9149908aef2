use Rattle.fm_build.proofs.Starting.{classes_next}
use Rattle.fm_build.proofs.classes.classes_of.Goals as goal

pub loop-term-preserved : goal.loop-term-preserved
loop-term-preserved c = classes_next c.args.graph.now c.loop-term.term c.loop-term.class.items c.push.new.self.items c.oldest_of-oldest.result c.loop-term.invariant c.oldest_of-oldest.ensures c.in_ok-push.ensures.items
