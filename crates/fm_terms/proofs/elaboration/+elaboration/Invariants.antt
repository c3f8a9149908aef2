use Rattle.std.proofs.Common.{drop, length, map, true, ℕ, ◌*◌, ◌+◌, ◌<◌, ◌≡◌, ◌≤◌}
use Rattle.fm_sexp.specs.Items.{all_within}
use Rattle.fm_arena.specs.Meanings.{terms_of}
use Rattle.fm_apply.specs.Applied.{and_then}
use Rattle.fm_apply.specs.Scoped.{AllBelow, AreBelow, Grows, context_of, named_in, names_in, terms_at}
use Rattle.fm_terms.specs.Elaborate.{all_at, nesting, nesting_all, term_at}
use Rattle.fm_terms.specs.Scoped.{deeper_of}
use Rattle.fm_terms.proofs.Stepping.{behind, now_all}
use Rattle.fm_terms.proofs.elaboration.+elaboration.Given as goal

abbrev pub decreases-term : goal.decreases-term
decreases-term l = 5 * nesting l.item.now

abbrev pub decreases-list : goal.decreases-list
decreases-list l = 5 * nesting_all l.items.now + 4

abbrev pub decreases-application : goal.decreases-application
decreases-application l = 5 * nesting_all l.parts.now + 3

abbrev pub decreases-annotated : goal.decreases-annotated
decreases-annotated l = 5 * nesting_all l.parts.now + 3

abbrev pub decreases-let_term : goal.decreases-let_term
decreases-let_term l = 5 * nesting_all l.parts.now + 3

abbrev pub decreases-let_over : goal.decreases-let_over
decreases-let_over l = 5 * deeper_of l.pairs.now l.body.now + 2

abbrev pub decreases-quantifier : goal.decreases-quantifier
decreases-quantifier l = 5 * nesting_all l.parts.now + 3

abbrev pub decreases-quantifier_over : goal.decreases-quantifier_over
decreases-quantifier_over l = 5 * nesting l.body.now + 2

abbrev pub decreases-all : goal.decreases-all
decreases-all l = 5 * nesting_all (map (λ i. i.now) l.items.now) + 1

abbrev pub invariant-all-loop-item : goal.invariant-all-loop-item
invariant-all-loop-item l =
    record {
      rest : (n : ℕ) → nesting_all (now_all l.items) < n →
          all_at (term_at n) (context_of (l.scope, l.frame) (terms_of l.fn.arena)) (named_in (terms_of l.fn.arena) l.fn.given) (now_all l.items)
          ≡ and_then (all_at (term_at n) (context_of (l.scope, l.frame) (terms_of l.fn.arena)) (named_in (terms_of l.arena) l.given) (now_all (drop l.item-index l.items))) (behind (terms_at l.arena l.numbers.items) l.low);
      grows : Grows l.fn.arena l.arena;
      given : AreBelow (length (terms_of l.arena)) l.given;
      below : AllBelow (length (terms_of l.arena)) l.numbers.items;
      within : all_within (length l.scope.text.now) (now_all (drop l.item-index l.items)) ≡ true;
      low : l.low ≤ length (names_in l.frame);
      count : length l.numbers.items + length (drop l.item-index l.items) ≡ length l.items;
    }
