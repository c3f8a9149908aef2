use Rattle.std.proofs.Common.{◌≡◌, ◌<◌, ℕ, List, Some}
use Rattle.std.specs.Prelude.{slice_get}
use Rattle.fm_base.specs.Resolution.{Has}
use Rattle.fm_base.specs.declared.ids.Lit.{Lit}
use Rattle.fm_lines.proofs.tests.are_clauses_over.Given as goal

-- the first ones were tested
abbrev pub invariant-loop-clause : goal.invariant-loop-clause
invariant-loop-clause l =
    (i : ℕ) (c : List Lit) (k : Lit) → i < l.clause → slice_get l.store.clauses i ≡ Some c → Has c k → k.atom.0 < l.atoms
