use Rattle.std.proofs.Common.{◌≡◌, ◌++◌, ◌∷◌, drop}
use Rattle.fm_cert.specs.Lines.{more_than, some_equal}
use Rattle.fm_bank.specs.Terms.{numbers}
use Rattle.fm_blocks.proofs.lits.pigeonholes.Given as goal

abbrev pub invariant-loop-i : goal.invariant-loop-i
invariant-loop-i l = l.lits.items ++ some_equal (numbers (drop l.i l.terms)) ≡ more_than l.fn.sort.0 l.k ∷ some_equal (numbers l.terms)
