-- A search through the tuples by their beginnings.
use Rattle.std.specs.Prelude.{◌≡◌, ℕ, ◌+◌, ◌-◌, ◌≤◌, List, [], ◌∷◌, ◌++◌, map, not, take, Bool, true, false, Option, Some, None}
use Rattle.std.specs.List.{find}
use Rattle.fm_base.specs.Interpretations.{Reading}
use Rattle.fm_bank.specs.Clauses.{lits_true}
use Rattle.fm_bank.specs.declared.clause.Plit.{Plit}
use Rattle.fm_rounds.specs.Tuples.{from_first, tuples}

-- the tuples that begin with these numbers, and all behind them
abbrev pub rest : List ℕ → List ℕ → List (List ℕ)
rest ns [] = tuples ns
rest [] (x ∷ xs) = []
rest (n ∷ ns) (x ∷ xs) = map (λ ys. x ∷ ys) (rest ns xs) ++ from_first ns (x + 1) (n - (x + 1))

-- the tuples behind those that begin with these numbers
abbrev pub beyond : List ℕ → List ℕ → List (List ℕ)
beyond ns [] = []
beyond [] (x ∷ xs) = []
beyond (n ∷ ns) (x ∷ xs) = map (λ ys. x ∷ ys) (beyond ns xs) ++ from_first ns (x + 1) (n - (x + 1))

-- a tuple, where there is one
abbrev pub if_any : Bool → List ℕ → Option (List ℕ)
if_any true xs = Some xs
if_any false xs = None

-- the tuples behind those that began with `depth` numbers are what is left from the first `next` numbers on, of which all
-- but the last are as they were
pub record MovesOn (sizes : List ℕ) (depth : ℕ) (old : List ℕ) (next : ℕ) (new : List ℕ) : Type 0 where
  pub some : 1 ≤ next
  pub within : next ≤ depth
  pub left : rest sizes (take next new) ≡ beyond sizes (take depth old)
  pub same : take (next - 1) new ≡ take (next - 1) old

-- each sort has an element
abbrev pub AreSome : List ℕ → Type 0
AreSome [] = Unit {0}
AreSome (n ∷ ns) = (1 ≤ n) × AreSome ns

-- the least tuple at which no literal is true
abbrev pub least_failing_of : Reading → List Plit → List ℕ → Option (List ℕ)
least_failing_of m lits sizes = find (λ xs. not (lits_true m xs lits)) (tuples sizes)
