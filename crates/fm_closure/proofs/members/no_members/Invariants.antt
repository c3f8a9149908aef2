use Rattle.std.proofs.Common.{◌≡◌, length}
use Rattle.fm_closure.proofs.members.no_members.Given as goal

abbrev pub invariant-loop : goal.invariant-loop
invariant-loop l = length l.members.items ≡ l.counter
