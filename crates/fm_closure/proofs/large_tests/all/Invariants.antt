use Rattle.fm_bank.specs.Terms.{AreTerms}
use Rattle.fm_closure.proofs.large_tests.all.Given as goal

abbrev pub invariant-loop-number : goal.invariant-loop-number
invariant-loop-number l = AreTerms l.bank.terms l.over.items
