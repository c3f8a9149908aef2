use Rattle.std.proofs.Common.{drop, true, ◌*◌, ◌+◌, ◌≡◌}
use Rattle.fm_sexp.specs.Items.{all_within}
use Rattle.fm_terms.specs.Elaborate.{nesting, nesting_all}
use Rattle.fm_elab.proofs.tests.+lying.Given as goal

abbrev pub decreases-lies_within : goal.decreases-lies_within
decreases-lies_within l = 2 * nesting l.item.now

abbrev pub decreases-all_lie_within : goal.decreases-all_lie_within
decreases-all_lie_within l = 2 * nesting_all l.items.now + 1

abbrev pub invariant-all_lie_within-loop-item : goal.invariant-all_lie_within-loop-item
invariant-all_lie_within-loop-item l = all_within l.len (drop l.item-index l.items) ≡ true → all_within l.len l.items ≡ true
