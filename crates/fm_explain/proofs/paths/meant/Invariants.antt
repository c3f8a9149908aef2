use Rattle.std.proofs.Common.{◌-◌, length}
use Rattle.fm_explain.proofs.Arguments.{IsSearching}
use Rattle.fm_explain.proofs.paths.meant.Given as goal

abbrev pub invariant-loop-next : goal.invariant-loop-next
invariant-loop-next l = IsSearching l.bank.terms l.links l.a l.b l.met.keys l.next

abbrev pub decreases-loop-next : goal.decreases-loop-next
decreases-loop-next l = length l.links - l.next
