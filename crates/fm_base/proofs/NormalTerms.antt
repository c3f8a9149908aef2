-- Induction on terms without `ite`, and their value at each constructor.
use Rattle.std.proofs.Common.{◌≡◌, ℕ, List, [], ◌∷◌, map, ap, subst}
use Rattle.std.specs.Prelude.{slice_index}
use Rattle.fm_base.specs.Interpretations.{Reading}
use Rattle.fm_base.specs.Normal.{Valued, value, value_step}
use Rattle.fm_base.specs.declared.ids.SymId.{SymId}
use Rattle.fm_base.specs.declared.formula.Pterm
use Rattle.fm_base.specs.declared.formula.Pterm.{Pterm}
use Rattle.fm_base.specs.declared.formula.Pterm.TheFolds.{fold-roll-Pterm, ind-Pterm, map-Pterm}
use Rattle.fm_base.specs.declared.formula.Pterm.TheOpen.{Pterm-F}
use Rattle.fm_base.specs.declared.formula.Pterm.TheViews.{roll-Pterm}

abbrev pub Each : {X : Type 0} → (X → Type 0) → List X → Type 0
Each P [] = Unit {0}
Each P (x ∷ xs) = P x × Each P xs

pub every : {X : Type 0} (P : X → Type 0) → ((x : X) → P x) → (xs : List X) → Each P xs
every P all [] = tt
every P all (x ∷ xs) = (all x, every P all xs)

module _ (P : Pterm → Type 0) (var : (v : ℕ) → P (Pterm.Var v)) (app : (f : SymId) (ts : List Pterm) → Each P ts → P (Pterm.App f ts)) where
  abbrev Shown : Type 0
  Shown = (t : Pterm) × P t

  each : (ys : List Shown) → Each P (map (λ (e : Shown). e.0) ys)
  each [] = tt
  each (y ∷ ys) = (y.1, each ys)

  layer : (y : Pterm-F Shown) (x : Pterm-F Pterm) → map-Pterm Shown Pterm (λ e. e.0) y ≡ x → P (roll-Pterm x)
  unfolding Pterm.roll-Pterm denote.Hole.Carrier.roll
  layer (Pterm-F.Var v) x is = subst (λ (z : Pterm-F Pterm). P (roll-Pterm z)) is (var v)
  layer (Pterm-F.App f ys) x is = subst (λ (z : Pterm-F Pterm). P (roll-Pterm z)) is (app f (map (λ (e : Shown). e.0) ys) (each ys))

  pub term_induction : (t : Pterm) → P t
  term_induction = ind-Pterm P (λ x y is. layer y x is)

pub value_of_var : (v : ℕ) (m : Reading) (env : List ℕ) → value (Pterm.Var v) m env ≡ slice_index env v
unfolding Pterm.roll-Pterm denote.Hole.Carrier.roll
value_of_var v m env = ap (λ (t : Valued). t m env) (fold-roll-Pterm Valued value_step (Pterm-F.Var v))

pub value_of_app : (f : SymId) (ts : List Pterm) (m : Reading) (env : List ℕ) → value (Pterm.App f ts) m env ≡ m.at f.0 (map (λ (t : Valued). t m env) (map value ts))
unfolding Pterm.roll-Pterm denote.Hole.Carrier.roll
value_of_app f ts m env = ap (λ (t : Valued). t m env) (fold-roll-Pterm Valued value_step (Pterm-F.App f ts))
