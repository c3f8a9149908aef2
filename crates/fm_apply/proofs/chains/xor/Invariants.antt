use Rattle.std.proofs.Common.{drop, length, true, ◌<◌, ◌≡◌}
use Rattle.fm_arena.specs.Meanings.{terms_of}
use Rattle.fm_apply.specs.Applied.{Context, xor_at, xor_from}
use Rattle.fm_apply.specs.Scoped.{AreOfKind, Grows, number_kind, number_term, terms_at}
use Rattle.fm_apply.proofs.chains.xor.Given as goal

abbrev pub invariant-loop-arg : goal.invariant-loop-arg
invariant-loop-arg l = record {
  rest : (c : Context) → c.command ≡ l.scope.command → xor_at c (terms_at l.fn.arena l.args) ≡ xor_from c (number_term l.arena l.made) (terms_at l.fn.arena (drop l.arg-index l.rest));
  grows : Grows l.fn.arena l.arena;
  kind : number_kind l.arena l.made ≡ true;
  below : l.made < length (terms_of l.arena);
  kinds : AreOfKind true l.fn.arena (drop l.arg-index l.rest);
}
