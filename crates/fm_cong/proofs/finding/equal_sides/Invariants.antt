use Rattle.std.proofs.Common.{◌≡◌, drop}
use Rattle.fm_cong.specs.Clashes.{first_equal}
use Rattle.fm_cong.proofs.finding.equal_sides.Given as goal

abbrev pub invariant-loop-fact : goal.invariant-loop-fact
invariant-loop-fact l = first_equal l.class.cells.items (drop l.fact-index l.facts) ≡ first_equal l.class.cells.items l.facts
