use Rattle.std.proofs.Common.{◌≡◌, ℕ, ◌+◌, ◌-◌, length}
use Rattle.fm_cells.specs.Apart.{places_at}
use Rattle.fm_cells.proofs.apart.reach_sides.Given as goal

abbrev pub invariant-loop-alloc : goal.invariant-loop-alloc
invariant-loop-alloc l = record { same : (x : ℕ) → places_at l.sides.items x ≡ places_at l.fn.sides.items x }

abbrev pub decreases-loop-alloc : goal.decreases-loop-alloc
decreases-loop-alloc l = l.node + 1 - length l.sides.items
