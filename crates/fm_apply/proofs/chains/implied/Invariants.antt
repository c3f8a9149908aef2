use Rattle.std.proofs.Common.{length, true, ◌<◌, ◌≡◌}
use Rattle.std.specs.Prelude.{Ok}
use Rattle.fm_arena.specs.Meanings.{terms_of}
use Rattle.fm_apply.specs.Applied.{Context, implied_at}
use Rattle.fm_apply.specs.Scoped.{AreOfKind, Grows, number_kind, number_term, terms_at}
use Rattle.fm_apply.proofs.Chaining.{finish}
use Rattle.fm_apply.proofs.chains.implied.Given as goal

abbrev pub invariant-loop-arg : goal.invariant-loop-arg
invariant-loop-arg l = record {
  rest : (c : Context) → c.command ≡ l.scope.command → implied_at c (terms_at l.fn.arena l.args) ≡ finish c (terms_at l.fn.arena l.rest) (Ok (number_term l.arena l.made));
  grows : Grows l.fn.arena l.arena;
  kind : number_kind l.arena l.made ≡ true;
  below : l.made < length (terms_of l.arena);
  kinds : AreOfKind true l.fn.arena l.rest;
}

abbrev pub decreases-loop-arg : goal.decreases-loop-arg
decreases-loop-arg l = length l.rest
