use Rattle.std.proofs.Common.{◌≡◌, drop}
use Rattle.fm_bank.specs.Instances.{numbers_of}
use Rattle.fm_bank.specs.Terms.{numbers}
use Rattle.fm_bank.proofs.Lookups.{behind}
use Rattle.fm_bank.proofs.finding.+finding.Given as goal

-- what the rest has goes behind what was found
abbrev pub invariant-find_all-loop-arg : goal.invariant-find_all-loop-arg
invariant-find_all-loop-arg l =
    numbers_of l.fn.args l.fn.terms.keys (numbers l.fn.subst) ≡ behind (numbers l.ids.items) (numbers_of (drop l.arg-index l.fn.args) l.fn.terms.keys (numbers l.fn.subst))
