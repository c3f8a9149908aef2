use Rattle.fm_bank.specs.Terms.{AreTerms}
use Rattle.fm_explain.proofs.random_tests.there.Given as goal

abbrev pub invariant-loop-term : goal.invariant-loop-term
invariant-loop-term l = AreTerms l.bank.terms l.ids.items
