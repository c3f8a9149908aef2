use Rattle.std.proofs.Common.{◌≡◌, drop, map}
use Rattle.fm_bank.specs.Terms.{are_of_types, numbers}
use Rattle.fm_bank.proofs.bank.Bank.are_of.Given as goal

-- the test of what is left is the test of the whole
abbrev pub invariant-loop-i : goal.invariant-loop-i
invariant-loop-i g l =
    are_of_types l.self.sig l.self.terms (numbers (drop l.i l.terms)) (map g.K.Kind.type_of (drop l.i l.kinds)) ≡ are_of_types l.self.sig l.self.terms (numbers l.terms) (map g.K.Kind.type_of l.kinds)
