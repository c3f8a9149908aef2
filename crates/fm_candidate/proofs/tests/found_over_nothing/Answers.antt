use Rattle.fm_candidate.proofs.Worked.{last_of}
use Rattle.fm_candidate.proofs.tests.found_over_nothing.Goals as goal

pub first_failing-requires-clause-last : goal.first_failing-requires-clause-last
first_failing-requires-clause-last c =
    last_of c.new-ranks.result c.new-clauses.result c.in_ok-bank.bank c.atom.new.self c.in_ok-graph.graph c.new-ranks.ensures c.new-clauses.ensures c.in_ok-bank.ensures c.in_ok-atom.ensures.atoms c.in_ok-graph.ensures
