use Rattle.std.proofs.Common.{◌≡◌, ◌<◌, ℕ, List, slice_get, Some, false}
use Rattle.fm_base.specs.declared.ids.Lit.{Lit}
use Rattle.fm_trail.specs.Trail.{are_false}
use Rattle.fm_sat.proofs.store.Store.falsified.Given as goal

abbrev pub invariant-loop-clause : goal.invariant-loop-clause
invariant-loop-clause l = (i : ℕ) (c : List Lit) → i < l.clause → slice_get l.self.clauses i ≡ Some c → are_false l.trail.entries c ≡ false
