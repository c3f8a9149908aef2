use Rattle.std.proofs.Common.{◌≡◌, ◌<◌, ℕ, List, slice_get, Some, None}
use Rattle.fm_base.specs.declared.ids.Lit.{Lit}
use Rattle.fm_trail.specs.Trail.{unit_of}
use Rattle.fm_sat.proofs.store.Store.next_unit.Given as goal

abbrev pub invariant-loop-clause : goal.invariant-loop-clause
invariant-loop-clause l = (i : ℕ) (c : List Lit) → i < l.clause → slice_get l.self.clauses i ≡ Some c → unit_of l.trail.entries c ≡ None
