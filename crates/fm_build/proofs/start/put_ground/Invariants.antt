use Rattle.std.proofs.Common.{◌≡◌, ◌++◌, drop}
use Rattle.fm_rounds.specs.InstanceTerms.{ground_terms}
use Rattle.fm_build.proofs.start.put_ground.Given as goal

-- what the rest has goes behind
abbrev pub invariant-loop-clause : goal.invariant-loop-clause
invariant-loop-clause l = l.found.items ++ ground_terms (drop l.clause-index l.clauses) l.bank.terms ≡ l.fn.found.items ++ ground_terms l.clauses l.bank.terms
