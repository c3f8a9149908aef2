use Rattle.std.proofs.Common.{length, take}
use Rattle.fm_state.proofs.Marking.{AreSoFar}
use Rattle.fm_state.proofs.wanted.wanted.Given as goal

abbrev pub invariant-loop-number : goal.invariant-loop-number
invariant-loop-number l = AreSoFar (length l.state.held.atoms) l.state.trail.entries (take l.number l.state.clauses) l.marks.items
