use Rattle.fm_bank.specs.Terms.{AreTerms}
use Rattle.fm_bank.proofs.tests.there.Given as goal

abbrev pub invariant-loop-number : goal.invariant-loop-number
invariant-loop-number l = AreTerms l.bank.terms l.ids.items
