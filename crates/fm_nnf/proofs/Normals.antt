-- Induction on normal forms, and what the folds over them are at each constructor.
use Rattle.std.proofs.Common.{◌≡◌, ℕ, Bool, true, ◌&&◌, List, [], ◌∷◌, map, subst}
use Rattle.std.specs.Prelude.{nat_lt}
use Rattle.fm_base.specs.declared.ids.SortId.{SortId}
use Rattle.fm_base.specs.declared.ids.SymId.{SymId}
use Rattle.fm_base.specs.declared.formula.Patom.{Patom}
use Rattle.fm_base.specs.declared.formula.Pterm
use Rattle.fm_base.specs.declared.formula.Pterm.{Pterm}
use Rattle.fm_base.specs.declared.formula.Pterm.TheOpen.{Pterm-F}
use Rattle.fm_base.specs.declared.formula.Pterm.TheFolds.{fold-roll-Pterm}
use Rattle.fm_base.specs.declared.formula.Nnf
use Rattle.fm_base.specs.declared.formula.Nnf.{Nnf}
use Rattle.fm_base.specs.declared.formula.Nnf.TheOpen.{Nnf-F}
use Rattle.fm_base.specs.declared.formula.Nnf.TheViews.{roll-Nnf}
use Rattle.fm_base.specs.declared.formula.Nnf.TheFolds.{fold-Nnf, fold-roll-Nnf, ind-Nnf, map-Nnf}
use Rattle.fm_nnf.specs.NormalTruth.{is_term_below, term_below_step, all_of}
use Rattle.fm_base.proofs.NormalTerms.{Each}

module _ (P : Nnf → Type 0) (lit : (positive : Bool) (a : Patom) → P (Nnf.Lit positive a)) (conj : (fs : List Nnf) → Each P fs → P (Nnf.And fs)) (disj : (fs : List Nnf) → Each P fs → P (Nnf.Or fs))
    (every : (vars : List SortId) (body : Nnf) → P body → P (Nnf.All vars body)) where
  abbrev Shown : Type 0
  Shown = (f : Nnf) × P f

  each : (ys : List Shown) → Each P (map (λ (e : Shown). e.0) ys)
  each [] = tt
  each (y ∷ ys) = (y.1, each ys)

  layer : (y : Nnf-F Shown) (x : Nnf-F Nnf) → map-Nnf Shown Nnf (λ e. e.0) y ≡ x → P (roll-Nnf x)
  unfolding Nnf.roll-Nnf denote.Hole.Carrier.roll
  layer (Nnf-F.Lit positive a) x is = subst (λ (z : Nnf-F Nnf). P (roll-Nnf z)) is (lit positive a)
  layer (Nnf-F.And ys) x is = subst (λ (z : Nnf-F Nnf). P (roll-Nnf z)) is (conj (map (λ (e : Shown). e.0) ys) (each ys))
  layer (Nnf-F.Or ys) x is = subst (λ (z : Nnf-F Nnf). P (roll-Nnf z)) is (disj (map (λ (e : Shown). e.0) ys) (each ys))
  layer (Nnf-F.All vars y) x is = subst (λ (z : Nnf-F Nnf). P (roll-Nnf z)) is (every vars y.0 y.1)

  pub nnf_induction : (f : Nnf) → P f
  nnf_induction = ind-Nnf P (λ x y is. layer y x is)

-- any fold at each constructor
module _ (A : Type 0) (step : Nnf-F A → A) where
  pub fold_of_lit : (positive : Bool) (a : Patom) → fold-Nnf A step (Nnf.Lit positive a) ≡ step (Nnf-F.Lit positive a)
  unfolding Nnf.roll-Nnf denote.Hole.Carrier.roll
  fold_of_lit positive a = fold-roll-Nnf A step (Nnf-F.Lit positive a)

  pub fold_of_and : (fs : List Nnf) → fold-Nnf A step (Nnf.And fs) ≡ step (Nnf-F.And (map (fold-Nnf A step) fs))
  unfolding Nnf.roll-Nnf denote.Hole.Carrier.roll
  fold_of_and fs = fold-roll-Nnf A step (Nnf-F.And fs)

  pub fold_of_or : (fs : List Nnf) → fold-Nnf A step (Nnf.Or fs) ≡ step (Nnf-F.Or (map (fold-Nnf A step) fs))
  unfolding Nnf.roll-Nnf denote.Hole.Carrier.roll
  fold_of_or fs = fold-roll-Nnf A step (Nnf-F.Or fs)

  pub fold_of_all : (vars : List SortId) (body : Nnf) → fold-Nnf A step (Nnf.All vars body) ≡ step (Nnf-F.All vars (fold-Nnf A step body))
  unfolding Nnf.roll-Nnf denote.Hole.Carrier.roll
  fold_of_all vars body = fold-roll-Nnf A step (Nnf-F.All vars body)

pub below_of_app : (bound : ℕ) (f : SymId) (ts : List Pterm) → is_term_below bound (Pterm.App f ts) ≡ (nat_lt f.0 bound && all_of (map (is_term_below bound) ts))
unfolding Pterm.roll-Pterm denote.Hole.Carrier.roll
below_of_app bound f ts = fold-roll-Pterm Bool (term_below_step bound) (Pterm-F.App f ts)

pub below_of_var : (bound v : ℕ) → is_term_below bound (Pterm.Var v) ≡ true
unfolding Pterm.roll-Pterm denote.Hole.Carrier.roll
below_of_var bound v = fold-roll-Pterm Bool (term_below_step bound) (Pterm-F.Var v)
