use Rattle.std.proofs.Common.{◌≡◌, ◌++◌, drop}
use Rattle.fm_build.specs.Gathering.{literals_gathered}
use Rattle.fm_build.proofs.gathering.put_literals.Given as goal

-- what the rest has goes behind
abbrev pub invariant-loop-lit : goal.invariant-loop-lit
invariant-loop-lit l = l.found.items ++ literals_gathered (drop l.lit-index l.lits) l.bank l.subst ≡ l.fn.found.items ++ literals_gathered l.lits l.bank l.subst
