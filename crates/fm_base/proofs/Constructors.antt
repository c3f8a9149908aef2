-- The truth of a formula and the value of a term at each constructor. They are stated once, since a truth of
-- a formula that a definition builds doesn't compute by itself.
use Rattle.std.proofs.Common.{◌≡◌, ℕ, ◌==◌, Bool, true, ◌&&◌, ◌||◌, not, cond, List, [], ◌∷◌, map, ap, refl}
use Rattle.std.specs.Prelude.{slice_index}
use mathlib.Core.Bool.{beq}
use Rattle.fm_base.specs.Interpretations.{Reading}
use Rattle.fm_base.specs.Truth.{Truth, Value, truth, value, truth_step, value_step, values, all_true, some_true, block}
use Rattle.fm_base.specs.declared.ids.SortId.{SortId}
use Rattle.fm_base.specs.declared.ids.SymId.{SymId}
use Rattle.fm_base.specs.declared.formula.Formula
use Rattle.fm_base.specs.declared.formula.Formula.{Formula}
use Rattle.fm_base.specs.declared.formula.Fterm
use Rattle.fm_base.specs.declared.formula.Fterm.{Fterm}
use Rattle.fm_base.specs.declared.formula.Formula.TheFolds.{fold-roll-Formula, fold-roll-Fterm}
use Rattle.fm_base.specs.declared.formula.Formula.TheOpen.{Formula-F, Fterm-F}

pub truth_of_truth : (b : Bool) (m : Reading) (env : List ℕ) → truth (Formula.Truth b) m env ≡ b
unfolding Formula.roll-Formula denote.Hole.Carrier.roll
truth_of_truth b m env = ap (λ (t : Truth). t m env) (fold-roll-Formula Truth Value truth_step value_step (Formula-F.Truth b))

pub truth_of_pred : (p : SymId) (ts : List Fterm) (m : Reading) (env : List ℕ) → truth (Formula.Pred p ts) m env ≡ (m.at p.0 (values (map value ts) m env) == 1)
unfolding Formula.roll-Formula denote.Hole.Carrier.roll
truth_of_pred p ts m env = ap (λ (t : Truth). t m env) (fold-roll-Formula Truth Value truth_step value_step (Formula-F.Pred p ts))

pub truth_of_equal : (a b : Fterm) (m : Reading) (env : List ℕ) → truth (Formula.Equal a b) m env ≡ (value a m env == value b m env)
unfolding Formula.roll-Formula denote.Hole.Carrier.roll
truth_of_equal a b m env = ap (λ (t : Truth). t m env) (fold-roll-Formula Truth Value truth_step value_step (Formula-F.Equal a b))

pub truth_of_not : (a : Formula) (m : Reading) (env : List ℕ) → truth (Formula.Not a) m env ≡ not (truth a m env)
unfolding Formula.roll-Formula denote.Hole.Carrier.roll
truth_of_not a m env = ap (λ (t : Truth). t m env) (fold-roll-Formula Truth Value truth_step value_step (Formula-F.Not a))

pub truth_of_and : (fs : List Formula) (m : Reading) (env : List ℕ) → truth (Formula.And fs) m env ≡ all_true (map truth fs) m env
unfolding Formula.roll-Formula denote.Hole.Carrier.roll
truth_of_and fs m env = ap (λ (t : Truth). t m env) (fold-roll-Formula Truth Value truth_step value_step (Formula-F.And fs))

pub truth_of_or : (fs : List Formula) (m : Reading) (env : List ℕ) → truth (Formula.Or fs) m env ≡ some_true (map truth fs) m env
unfolding Formula.roll-Formula denote.Hole.Carrier.roll
truth_of_or fs m env = ap (λ (t : Truth). t m env) (fold-roll-Formula Truth Value truth_step value_step (Formula-F.Or fs))

pub truth_of_iff : (a b : Formula) (m : Reading) (env : List ℕ) → truth (Formula.Iff a b) m env ≡ beq (truth a m env) (truth b m env)
unfolding Formula.roll-Formula denote.Hole.Carrier.roll
truth_of_iff a b m env = ap (λ (t : Truth). t m env) (fold-roll-Formula Truth Value truth_step value_step (Formula-F.Iff a b))

pub truth_of_ite : (c a b : Formula) (m : Reading) (env : List ℕ) → truth (Formula.Ite c a b) m env ≡ cond (truth c m env) (truth a m env) (truth b m env)
unfolding Formula.roll-Formula denote.Hole.Carrier.roll
truth_of_ite c a b m env = ap (λ (t : Truth). t m env) (fold-roll-Formula Truth Value truth_step value_step (Formula-F.«Formula::Ite» c a b))

pub truth_of_quant : (all : Bool) (vars : List SortId) (body : Formula) (m : Reading) (env : List ℕ) → truth (Formula.Quant all vars body) m env ≡ block m all vars (λ inner. truth body m inner) env
unfolding Formula.roll-Formula denote.Hole.Carrier.roll
truth_of_quant all vars body m env = ap (λ (t : Truth). t m env) (fold-roll-Formula Truth Value truth_step value_step (Formula-F.Quant all vars body))

pub value_of_var : (v : ℕ) (m : Reading) (env : List ℕ) → value (Fterm.Var v) m env ≡ slice_index env v
unfolding Fterm.roll-Fterm denote.Hole.Carrier.roll
value_of_var v m env = ap (λ (t : Value). t m env) (fold-roll-Fterm Truth Value truth_step value_step (Fterm-F.Var v))

pub value_of_app : (f : SymId) (ts : List Fterm) (m : Reading) (env : List ℕ) → value (Fterm.App f ts) m env ≡ m.at f.0 (values (map value ts) m env)
unfolding Fterm.roll-Fterm denote.Hole.Carrier.roll
value_of_app f ts m env = ap (λ (t : Value). t m env) (fold-roll-Fterm Truth Value truth_step value_step (Fterm-F.App f ts))

pub value_of_ite : (c : Formula) (a b : Fterm) (m : Reading) (env : List ℕ) → value (Fterm.Ite c a b) m env ≡ cond (truth c m env) (value a m env) (value b m env)
unfolding Fterm.roll-Fterm denote.Hole.Carrier.roll
value_of_ite c a b m env = ap (λ (t : Value). t m env) (fold-roll-Fterm Truth Value truth_step value_step (Fterm-F.«Fterm::Ite» c a b))
