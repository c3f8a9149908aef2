use Rattle.std.proofs.Common.{◌≡◌, drop}
use Rattle.fm_steps.specs.Rows.{is_satisfied}
use Rattle.fm_state.proofs.wanted.is_satisfied.Given as goal

abbrev pub invariant-loop-lit : goal.invariant-loop-lit
invariant-loop-lit l = is_satisfied l.trail.entries (drop l.lit-index l.lits) ≡ is_satisfied l.trail.entries l.lits
