use Rattle.std.proofs.Common.{◌≡◌, drop}
use Rattle.fm_sat.proofs.Scans.{unit_after}
use Rattle.fm_trail.specs.Trail.{unit_of}
use Rattle.fm_state.proofs.groups.unit_of.Given as goal

abbrev pub invariant-loop-lit : goal.invariant-loop-lit
invariant-loop-lit l = unit_after l.trail.entries l.left (drop l.lit-index l.lits) ≡ unit_of l.trail.entries l.lits
