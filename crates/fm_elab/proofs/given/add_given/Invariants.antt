use Rattle.std.proofs.Common.{drop, ◌≡◌}
use Rattle.fm_arena.specs.Meanings.{terms_of}
use Rattle.fm_levels.specs.Levels.{joined}
use Rattle.fm_apply.specs.Scoped.{AreInForce, Grows}
use Rattle.fm_elab.specs.Givens.{Extends, given_at, put_functions}
use Rattle.fm_elab.specs.Held.{functions_at}
use Rattle.fm_elab.proofs.given.add_given.Given as goal

abbrev pub invariant-loop-place : goal.invariant-loop-place
invariant-loop-place l = record {
  rest : put_functions l.first (functions_at l.arena l.functions) (given_at l.fn.arena (drop l.place l.given)) ≡ put_functions l.first (functions_at l.fn.arena l.fn.functions) (given_at l.fn.arena l.given);
  grows : Grows l.fn.arena l.arena;
  in_force : AreInForce (terms_of l.arena) (joined l.functions);
  extends : Extends l.first l.fn.functions l.functions;
}
