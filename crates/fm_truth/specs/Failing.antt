-- The first assertion that is false in an interpretation, and the least tuple that shows it.
use Rattle.std.specs.Prelude.{◌≡◌, ℕ, Bool, true, false, List, [], take, slice_get, Option, Some, None}
use Rattle.std.specs.List.{All}
use Rattle.std.specs.Cmp.Lexicographic.{slice_cmp}
use Rattle.std.specs.Ordering.{nat_cmp, is_lt}
use Rattle.fm_base.specs.Interpretations.{Reading}
use Rattle.fm_base.specs.Models.{IsElements}
use Rattle.fm_base.specs.Truth.{truth}
use Rattle.fm_base.specs.declared.ids.SortId.{SortId}
use Rattle.fm_base.specs.declared.formula.Formula.{Formula}
use Rattle.fm_base.specs.declared.formula.Fterm.{Fterm}
use Rattle.fm_base.specs.declared.formula.Formula.TheOpen.{Formula-F}
use Rattle.fm_base.specs.declared.formula.Formula.TheViews.{out-Formula}

-- the variables and the body of a universal formula
abbrev pub universal_step : Formula-F Formula Fterm → Option (List SortId × Formula)
universal_step (Formula-F.Quant true vars body) = Some (vars, body)
universal_step (Formula-F.Quant false vars body) = None
universal_step (Formula-F.Truth b) = None
universal_step (Formula-F.Pred p ts) = None
universal_step (Formula-F.Equal a b) = None
universal_step (Formula-F.Not a) = None
universal_step (Formula-F.And fs) = None
universal_step (Formula-F.Or fs) = None
universal_step (Formula-F.Iff a b) = None
universal_step (Formula-F.«Formula::Ite» c a b) = None

abbrev pub universal_of : Formula → Option (List SortId × Formula)
universal_of f = universal_step (out-Formula f)

-- one tuple is before another, number by number
abbrev pub precedes : List ℕ → List ℕ → Bool
precedes xs ys = is_lt (slice_cmp nat_cmp xs ys)

-- the lexicographically least tuple of elements at which the body is false
pub record IsLeastFailing (m : Reading) (vars : List SortId) (body : Formula) (tuple : List ℕ) : Type 0 where
  pub elements : IsElements m vars tuple
  pub fails : truth body m tuple ≡ false
  pub least : (other : List ℕ) → IsElements m vars other → truth body m other ≡ false → precedes other tuple ≡ false

-- the tuple that shows that a formula is false: for a universal formula the least one of its outermost block, else none
abbrev pub ShowsFalse : Reading → Option (List SortId × Formula) → List ℕ → Type 0
ShowsFalse m None tuple = tuple ≡ []
ShowsFalse m (Some block) tuple = IsLeastFailing m block.0 block.1 tuple

-- the first false assertion, by its place, with the tuple that shows it
pub record IsFirstFailing (m : Reading) (assertions : List Formula) (place : ℕ) (tuple : List ℕ) : Type 0 where
  pub formula : Formula
  pub stands : slice_get assertions place ≡ Some formula
  pub fails : truth formula m [] ≡ false
  pub first : All (λ f. truth f m [] ≡ true) (take place assertions)
  pub shown : ShowsFalse m (universal_of formula) tuple
