use Rattle.std.proofs.Common.{◌≡◌}
use Rattle.fm_readers.specs.Graphs.{HasTerms}
use Rattle.fm_readers.proofs.graph.register.Given as goal

abbrev pub invariant-loop-term : goal.invariant-loop-term
invariant-loop-term l = record {
  terms : HasTerms l.bank l.term l.graph;
  facts : l.graph.facts ≡ l.fn.graph.facts;
  levels : l.graph.levels ≡ l.fn.graph.levels;
}
