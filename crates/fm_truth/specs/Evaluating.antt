-- Values and truths under variables, in the words of the evaluations.
use Rattle.std.specs.Prelude.{◌≡◌, ℕ, ◌+◌, ◌++◌, Bool, List, length, map, take}
use Rattle.fm_base.specs.Interpretations.{Reading}
use Rattle.fm_base.specs.Truth.{block, truth, value, values}
use Rattle.fm_base.specs.declared.ids.SortId.{SortId}
use Rattle.fm_base.specs.declared.formula.Formula.{Formula}
use Rattle.fm_base.specs.declared.formula.Fterm.{Fterm}

-- the values of some terms
abbrev pub values_under : Reading → List ℕ → List Fterm → List ℕ
values_under m env terms = values (map value terms) m env

-- what a symbol gives the values of some terms
abbrev pub applied_under : Reading → List ℕ → ℕ → List Fterm → ℕ
applied_under m env symbol terms = m.at symbol (values_under m env terms)

-- the truth of a block of quantifiers
abbrev pub block_under : Reading → List ℕ → Bool → List SortId → Formula → Bool
block_under m env all sorts body = block m all sorts (λ inner. truth body m inner) env

-- the values of the terms are put behind the first `count` arguments, which stay
abbrev pub PutsValues : Reading → List ℕ → List Fterm → ℕ → List ℕ → List ℕ → Type 0
PutsValues m env terms count old new = take (count + length terms) new ≡ take count old ++ values_under m env terms
