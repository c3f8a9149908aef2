use Rattle.std.proofs.Common.{◌-◌, length}
use Rattle.fm_bank.specs.Terms.{numbers}
use Rattle.fm_bank.proofs.Walks.{IsWalk}
use Rattle.fm_bank.proofs.subterms.find_subterms.Given as goal

abbrev pub invariant-loop-i : goal.invariant-loop-i
invariant-loop-i l = IsWalk l.bank.terms (numbers l.roots) (numbers l.found.keys) l.i

abbrev pub decreases-loop-i : goal.decreases-loop-i
decreases-loop-i l = length l.bank.terms - l.i
