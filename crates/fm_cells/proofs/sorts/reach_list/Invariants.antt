use Rattle.std.proofs.Common.{◌≡◌, ℕ, ◌+◌, ◌-◌, length}
use Rattle.std.specs.Prelude.{slice_get}
use Rattle.fm_cells.specs.Sorts.{terms_of}
use Rattle.fm_cells.proofs.sorts.reach_list.Given as goal

abbrev pub invariant-loop-alloc : goal.invariant-loop-alloc
invariant-loop-alloc l = record { same : (s : ℕ) → terms_of (slice_get l.lists.items s) ≡ terms_of (slice_get l.fn.lists.items s) }

abbrev pub decreases-loop-alloc : goal.decreases-loop-alloc
decreases-loop-alloc l = l.sort + 1 - length l.lists.items
