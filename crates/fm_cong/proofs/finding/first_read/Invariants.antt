use Rattle.std.proofs.Common.{◌≡◌, drop}
use Rattle.fm_cong.specs.Clashes.{first_term}
use Rattle.fm_cong.proofs.finding.first_read.Given as goal

abbrev pub invariant-loop-fact : goal.invariant-loop-fact
invariant-loop-fact l = first_term l.sign (drop l.fact-index l.facts) ≡ first_term l.sign l.facts
