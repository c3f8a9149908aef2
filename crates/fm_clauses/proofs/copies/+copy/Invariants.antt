use Rattle.std.proofs.Common.{◌≡◌, take}
use Rattle.fm_clauses.proofs.copies.+copy.Given as goal

abbrev pub invariant-copy_terms-loop-term : goal.invariant-copy_terms-loop-term
invariant-copy_terms-loop-term l = l.made.items ≡ take l.term-index l.terms
