use Rattle.std.proofs.lemmas.List.{append-nil}
use Rattle.fm_thin.proofs.Loops.{orders-none, push_order}
use Rattle.fm_thin.proofs.certify.push_orders.Goals as goal

pub loop-sort-init : goal.loop-sort-init
loop-sort-init c = rw (orders-none, append-nil)

pub loop-sort-preserved : goal.loop-sort-preserved
loop-sort-preserved c = push_order c.args.lines.now.items c.loop-sort.lines.items c.push.new.self.items c.loop-sort.sort c.in_ok-push.ensures.items c.loop-sort.invariant
