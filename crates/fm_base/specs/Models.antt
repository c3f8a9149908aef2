-- Models of a list of assertions, and the sum of the sizes of the sorts.
use Rattle.std.specs.Prelude.{◌≡◌, ℕ, zero, suc, ◌+◌, ◌<◌, ◌==◌, Bool, true, false, not, cond, List, [], ◌∷◌, ◌++◌, ◌↔◌, map, slice_index}
use Rattle.std.specs.List.{All}
use Rattle.fm_base.specs.Interpretations.{Reading, IsInterpretation, is_fit, reading_of}
use mathlib.Core.Bool.{beq}
use Rattle.fm_base.specs.Truth.{truth, value, values, all_true, some_true, block}
use Rattle.fm_base.specs.declared.ids.SymId.{SymId}
use Rattle.fm_base.specs.declared.formula.Formula
use Rattle.fm_base.specs.declared.formula.Fterm
use Rattle.fm_base.specs.declared.formula.Fterm.{Fterm}
use Rattle.fm_base.specs.declared.ids.SortId.{SortId}
use Rattle.fm_base.specs.declared.signature.Sig.{Sig}
use Rattle.fm_base.specs.declared.formula.Formula.{Formula}
use Rattle.fm_base.specs.declared.interp.Interp.{Interp}

-- f 0 + f 1 + .. + f (n - 1)
unfoldable pub sum_below : ℕ → (ℕ → ℕ) → ℕ
sum_below zero f = 0
sum_below (suc n) f = sum_below n f + f n

-- the sum of the sizes of a signature's sorts
abbrev pub sum_of_sizes : Sig → Reading → ℕ
sum_of_sizes sig m = sum_below sig.sorts m.size

-- an interpretation of the signature in which each assertion is true
pub record IsModel (sig : Sig) (assertions : List Formula) (m : Reading) : Type 0 where
  pub interprets : IsInterpretation sig m
  pub satisfies : All (λ f. truth f m [] ≡ true) assertions

-- an element of each sort
abbrev pub IsElements : Reading → List SortId → List ℕ → Type 0
IsElements m [] [] = Unit {0}
IsElements m [] (x ∷ xs) = ⊥
IsElements m (s ∷ ss) [] = ⊥
IsElements m (s ∷ ss) (x ∷ xs) = (x < m.size s.0) × IsElements m ss xs

-- a universal block is true exactly where its body is at every tuple of elements, and an existential one
-- exactly where it is at some
abbrev pub BlocksReadEveryTuple : Type 0
BlocksReadEveryTuple = (m : Reading) (sorts : List SortId) (body : List ℕ → Bool) (env : List ℕ) → ((block m true sorts body env ≡ true) ↔ ((xs : List ℕ) → IsElements m sorts xs → body (env ++ xs) ≡ true)) × ((block m false sorts body env ≡ true) ↔ ((xs : List ℕ) × IsElements m sorts xs × (body (env ++ xs) ≡ true)))

-- tables that pass the test read as an interpretation
abbrev pub TablesInterpret : Type 0
TablesInterpret = (sig : Sig) (i : Interp) → is_fit sig i ≡ true → IsInterpretation sig (reading_of i)

-- what truth and value are at each constructor, as the textbook says it
pub record TruthByCases (m : Reading) (env : List ℕ) : Type 0 where
  pub constant : (b : Bool) → truth (Formula.Truth b) m env ≡ b
  pub predicate : (p : SymId) (ts : List Fterm) → truth (Formula.Pred p ts) m env ≡ (m.at p.0 (values (map value ts) m env) == 1)
  pub equation : (a b : Fterm) → truth (Formula.Equal a b) m env ≡ (value a m env == value b m env)
  pub negation : (a : Formula) → truth (Formula.Not a) m env ≡ not (truth a m env)
  pub conjunction : (fs : List Formula) → truth (Formula.And fs) m env ≡ all_true (map truth fs) m env
  pub disjunction : (fs : List Formula) → truth (Formula.Or fs) m env ≡ some_true (map truth fs) m env
  pub equivalence : (a b : Formula) → truth (Formula.Iff a b) m env ≡ beq (truth a m env) (truth b m env)
  pub choice : (c a b : Formula) → truth (Formula.Ite c a b) m env ≡ cond (truth c m env) (truth a m env) (truth b m env)
  pub quantifier : (all : Bool) (vars : List SortId) (body : Formula) → truth (Formula.Quant all vars body) m env ≡ block m all vars (λ inner. truth body m inner) env
  pub variable : (v : ℕ) → value (Fterm.Var v) m env ≡ slice_index env v
  pub application : (f : SymId) (ts : List Fterm) → value (Fterm.App f ts) m env ≡ m.at f.0 (values (map value ts) m env)
  pub term_choice : (c : Formula) (a b : Fterm) → value (Fterm.Ite c a b) m env ≡ cond (truth c m env) (value a m env) (value b m env)
