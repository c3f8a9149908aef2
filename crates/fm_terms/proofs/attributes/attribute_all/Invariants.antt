use Rattle.std.proofs.Common.{drop, length, ◌<◌, ◌≡◌}
use Rattle.fm_arena.specs.Meanings.{terms_of}
use Rattle.fm_apply.specs.Scoped.{AreBelow, Grows, context_of, named_in}
use Rattle.fm_terms.specs.Elaborate.{attributes_at}
use Rattle.fm_terms.specs.Scoped.{AreValuesWithin, attributes_shown, read_in}
use Rattle.fm_terms.proofs.attributes.attribute_all.Given as goal

abbrev pub invariant-loop-one : goal.invariant-loop-one
invariant-loop-one l = record {
  rest : attributes_at (context_of (l.scope, l.frame) (terms_of l.fn.arena)) l.at (attributes_shown l.list) (read_in l.fn.arena l.fn.found (named_in (terms_of l.fn.arena) l.fn.given))
      ≡ attributes_at (context_of (l.scope, l.frame) (terms_of l.fn.arena)) l.at (attributes_shown (drop l.one-index l.list)) (read_in l.arena l.found (named_in (terms_of l.arena) l.given));
  grows : Grows l.fn.arena l.arena;
  given : AreBelow (length (terms_of l.arena)) l.given;
  number : l.found.number < length (terms_of l.arena);
  within : AreValuesWithin l.scope.text.now (attributes_shown (drop l.one-index l.list));
}
