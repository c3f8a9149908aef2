use Rattle.std.proofs.Common.{◌≡◌, drop}
use Rattle.fm_bank.specs.Subterms.{all_added}
use Rattle.fm_bank.specs.Terms.{numbers}
use Rattle.fm_bank.proofs.subterms.add_all.Given as goal

abbrev pub invariant-loop-term : goal.invariant-loop-term
invariant-loop-term l = all_added (numbers l.fn.found.keys) (numbers l.terms) ≡ all_added (numbers l.found.keys) (numbers (drop l.term-index l.terms))
