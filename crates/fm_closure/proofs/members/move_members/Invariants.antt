use Rattle.fm_closure.proofs.Uniting.{IsMoving}
use Rattle.fm_closure.proofs.members.move_members.Given as goal

abbrev pub invariant-loop-at : goal.invariant-loop-at
invariant-loop-at l = IsMoving l.from l.to l.fn.numbers.items l.numbers.items l.fn.members.items l.members.items l.at
