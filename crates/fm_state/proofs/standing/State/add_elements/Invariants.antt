use Rattle.std.proofs.Common.{◌≡◌}
use Rattle.fm_state.specs.Begins.{between}
use Rattle.fm_steps.specs.Start.{with_elements}
use Rattle.fm_state.proofs.standing.State.add_elements.Given as goal

abbrev pub invariant-loop-sort : goal.invariant-loop-sort
invariant-loop-sort l = record {
  sorts : l.sorts ≡ l.self.held.sig.sorts;
  rest : with_elements (between l.sort l.sorts) l.self ≡ with_elements (between 0 l.sorts) l.fn.self;
}
