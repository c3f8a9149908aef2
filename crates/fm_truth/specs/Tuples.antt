-- The tuples of elements of a block's sorts in lexicographic order, and the first of them that decides the block.
use Rattle.std.specs.Prelude.{◌≡◌, ℕ, ◌+◌, Bool, true, false, not, nat_lt, cond, List, [], ◌∷◌, ◌++◌, take, drop, length, Option, Some, None}
use Rattle.std.specs.List.{list_all}
use Rattle.fm_base.specs.Interpretations.{Reading}
use Rattle.fm_base.specs.Models.{IsElements}
use Rattle.fm_base.specs.Truth.{truth}
use Rattle.fm_base.specs.declared.ids.SortId.{SortId}
use Rattle.fm_base.specs.declared.formula.Formula.{Formula}
use Rattle.fm_truth.specs.Failing.{precedes}

abbrev pub zeros : List SortId → List ℕ
zeros [] = []
zeros (s ∷ ss) = 0 ∷ zeros ss

abbrev pub have_elements : Reading → List SortId → Bool
have_elements m ss = list_all (λ (s : SortId). nat_lt 0 (m.size s.0)) ss

-- the first tuple; there is none where a sort has no element
abbrev pub first_of : Reading → List SortId → Option (List ℕ)
first_of m ss = cond (have_elements m ss) (Some (zeros ss)) None

-- a number before a tuple that moves on; where the tuple was the last one, the number grows and zeros follow
abbrev pub moved : ℕ → List SortId → ℕ → Option (List ℕ) → Option (List ℕ)
moved size ss x (Some ys) = Some (x ∷ ys)
moved size ss x None = cond (nat_lt (x + 1) size) (Some ((x + 1) ∷ zeros ss)) None

-- the tuple behind this one
abbrev pub next_of : Reading → List SortId → List ℕ → Option (List ℕ)
next_of m [] xs = None
next_of m (s ∷ ss) [] = None
next_of m (s ∷ ss) (x ∷ xs) = moved (m.size s.0) ss x (next_of m ss xs)

-- the numbers of a block whose variables stand behind `depth` others
abbrev pub tuple_of : List SortId → ℕ → List ℕ → List ℕ
tuple_of ss depth vars = take (length ss) (drop depth vars)

-- a tuple, where there is one
abbrev pub if_any : Bool → List ℕ → Option (List ℕ)
if_any true xs = Some xs
if_any false xs = None

-- the lexicographically least tuple of elements at which the body, under the variables in scope, isn't `all`
pub record IsLeastDeciding (m : Reading) (all : Bool) (vars : List SortId) (body : Formula) (env tuple : List ℕ) : Type 0 where
  pub elements : IsElements m vars tuple
  pub decides : truth body m (env ++ tuple) ≡ not all
  pub least : (other : List ℕ) → IsElements m vars other → truth body m (env ++ other) ≡ not all → precedes other tuple ≡ false

-- the tuple goes on: the new one, if there is one, is the next after the old
abbrev pub GoesOn : Reading → List SortId → ℕ → List ℕ → List ℕ → Bool → Type 0
GoesOn r sorts depth old new more = if_any more (tuple_of sorts depth new) ≡ next_of r sorts (tuple_of sorts depth old)

-- where a tuple decided the block's truth, as one that fails a universal block does, the least that does stands behind the
-- `depth` variables in scope
abbrev pub LeavesDeciding : Reading → Bool → List SortId → Formula → ℕ → List ℕ → List ℕ → Bool → Type 0
LeavesDeciding m all vars body depth old new holds = holds ≡ not all → IsLeastDeciding m all vars body (take depth old) (tuple_of vars depth new)
