use Rattle.std.proofs.Common.{take}
use Rattle.fm_resolve.proofs.EmptyLaws.{NoneEmpty}
use Rattle.fm_resolve.proofs.store.find_empty.Given as goal

abbrev pub invariant-loop-i : goal.invariant-loop-i
invariant-loop-i l = NoneEmpty (take l.i l.clauses)
