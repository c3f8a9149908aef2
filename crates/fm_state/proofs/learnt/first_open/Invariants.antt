use Rattle.std.proofs.Common.{◌≡◌, drop}
use Rattle.std.specs.List.{find}
use Rattle.fm_trail.specs.Trail.{is_open}
use Rattle.fm_state.proofs.learnt.first_open.Given as goal

abbrev pub invariant-loop-lit : goal.invariant-loop-lit
invariant-loop-lit l = find (is_open l.trail.entries) (drop l.lit-index l.lits) ≡ find (is_open l.trail.entries) l.lits
