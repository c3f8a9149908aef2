use Rattle.std.proofs.Common.{List, drop, length, true, ◌++◌, ◌<◌, ◌≡◌}
use Rattle.std.specs.Prelude.{Ok}
use Rattle.fm_arena.specs.Meanings.{Term, terms_of}
use Rattle.fm_apply.specs.Applied.{Context, and_then, neighbours_from}
use Rattle.fm_apply.specs.Scoped.{AreOfKind, Grows, number_kind, number_term, terms_at}
use Rattle.fm_apply.proofs.chains.neighbours.Given as goal

abbrev pub invariant-loop-right : goal.invariant-loop-right
invariant-loop-right l = record {
  rest : (c : Context) → c.command ≡ l.scope.command → neighbours_from c (number_term l.fn.arena l.first) (terms_at l.fn.arena l.args) ≡ and_then (neighbours_from c (number_term l.fn.arena l.left) (terms_at l.fn.arena (drop l.right-index l.args))) (λ (es : List Term). Ok (terms_at l.arena l.made.items ++ es));
  grows : Grows l.fn.arena l.arena;
  made : AreOfKind true l.arena l.made.items;
  left : l.left < length (terms_of l.fn.arena);
  kind : number_kind l.fn.arena l.left ≡ l.truth;
  kinds : AreOfKind l.truth l.fn.arena (drop l.right-index l.args);
}
