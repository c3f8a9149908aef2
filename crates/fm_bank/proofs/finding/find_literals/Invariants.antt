use Rattle.std.proofs.Common.{◌≡◌, drop}
use Rattle.fm_bank.specs.Instances.{ground_literals}
use Rattle.fm_bank.specs.Terms.{numbers}
use Rattle.fm_bank.proofs.Lookups.{behind}
use Rattle.fm_bank.proofs.finding.find_literals.Given as goal

-- what the rest has goes behind what was found
abbrev pub invariant-loop-lit : goal.invariant-loop-lit
invariant-loop-lit l =
    ground_literals l.fn.terms.keys (numbers l.fn.subst) l.fn.lits ≡ behind l.literals.items (ground_literals l.fn.terms.keys (numbers l.fn.subst) (drop l.lit-index l.fn.lits))
