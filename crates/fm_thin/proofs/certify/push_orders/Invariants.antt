use Rattle.std.proofs.Common.{◌≡◌, ◌++◌}
use Rattle.fm_thin.specs.Certified.{orders}
use Rattle.fm_thin.proofs.certify.push_orders.Given as goal

abbrev pub invariant-loop-sort : goal.invariant-loop-sort
invariant-loop-sort l = l.lines.items ≡ l.fn.lines.items ++ orders 0 l.sort
