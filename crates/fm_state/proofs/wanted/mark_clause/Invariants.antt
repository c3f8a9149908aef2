use Rattle.std.proofs.Common.{take}
use Rattle.fm_state.specs.Groups.{AreMarked}
use Rattle.fm_state.proofs.wanted.mark_clause.Given as goal

abbrev pub invariant-loop-lit : goal.invariant-loop-lit
invariant-loop-lit l = AreMarked (take l.lit-index l.lits) l.fn.marks.items l.marks.items
