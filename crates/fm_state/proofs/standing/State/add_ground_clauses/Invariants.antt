use Rattle.std.proofs.Common.{◌≡◌, drop}
use Rattle.fm_state.specs.Begins.{AreRegistered}
use Rattle.fm_steps.specs.Start.{with_ground_clauses}
use Rattle.fm_state.proofs.standing.State.add_ground_clauses.Given as goal

abbrev pub invariant-loop-clause : goal.invariant-loop-clause
invariant-loop-clause l = record {
  there : AreRegistered l.self.held.sig l.self.held.terms (drop l.clause-index l.clauses);
  rest : with_ground_clauses (drop l.clause-index l.clauses) l.self ≡ with_ground_clauses l.clauses l.fn.self;
}
