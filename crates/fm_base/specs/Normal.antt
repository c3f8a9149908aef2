-- Truth of atoms and literals without `ite` and without quantifiers, of which normal forms and clauses are made.
use Rattle.std.specs.Prelude.{ℕ, ◌==◌, Bool, true, false, not, List, map, slice_index}
use Rattle.fm_base.specs.Interpretations.{Reading}
use Rattle.fm_base.specs.declared.formula.Patom.{Patom}
use Rattle.fm_base.specs.declared.formula.Pterm.{Pterm}
use Rattle.fm_base.specs.declared.formula.Pterm.TheOpen.{Pterm-F}
use Rattle.fm_base.specs.declared.formula.Pterm.TheFolds.{fold-Pterm}

abbrev pub Valued : Type 0
Valued = Reading → List ℕ → ℕ

abbrev pub value_step : Pterm-F Valued → Valued
value_step (Pterm-F.Var v) m env = slice_index env v
value_step (Pterm-F.App f ts) m env = m.at f.0 (map (λ (t : Valued). t m env) ts)

-- the value of a term, where env has a value for each variable
abbrev pub value : Pterm → Valued
value = fold-Pterm Valued value_step

abbrev pub patom_true : Reading → List ℕ → Patom → Bool
patom_true m env (Patom.Pred p ts) = m.at p.0 (map (λ (t : Pterm). value t m env) ts) == 1
patom_true m env (Patom.Equal a b) = value a m env == value b m env

-- the truth of an atom or of its negation
abbrev pub signed : Bool → Bool → Bool
signed true b = b
signed false b = not b
