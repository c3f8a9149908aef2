-- Induction on formulas and terms together, and any fold over them at each constructor.
use Rattle.std.proofs.Common.{◌≡◌, ℕ, Bool, List, [], ◌∷◌, map, subst}
use Rattle.fm_base.specs.declared.ids.SortId.{SortId}
use Rattle.fm_base.specs.declared.ids.SymId.{SymId}
use Rattle.fm_base.specs.declared.formula.Formula
use Rattle.fm_base.specs.declared.formula.Formula.{Formula}
use Rattle.fm_base.specs.declared.formula.Fterm
use Rattle.fm_base.specs.declared.formula.Fterm.{Fterm}
use Rattle.fm_base.specs.declared.formula.Formula.TheOpen.{Formula-F, Fterm-F}
use Rattle.fm_base.specs.declared.formula.Formula.TheViews.{roll-Formula, roll-Fterm}
use Rattle.fm_base.specs.declared.formula.Formula.TheFolds.{fold-Formula, fold-Fterm, fold-roll-Formula, fold-roll-Fterm, ind-Formula, ind-Fterm, map-Formula, map-Fterm}
use Rattle.fm_base.proofs.NormalTerms.{Each}

-- what is shown of each constructor
pub record Cases (P : Formula → Type 0) (Q : Fterm → Type 0) : Type 0 where
  pub constant : (b : Bool) → P (Formula.Truth b)
  pub predicate : (p : SymId) (ts : List Fterm) → Each Q ts → P (Formula.Pred p ts)
  pub equation : (a b : Fterm) → Q a → Q b → P (Formula.Equal a b)
  pub negation : (a : Formula) → P a → P (Formula.Not a)
  pub conjunction : (fs : List Formula) → Each P fs → P (Formula.And fs)
  pub disjunction : (fs : List Formula) → Each P fs → P (Formula.Or fs)
  pub equivalence : (a b : Formula) → P a → P b → P (Formula.Iff a b)
  pub choice : (c a b : Formula) → P c → P a → P b → P (Formula.Ite c a b)
  pub quantifier : (all : Bool) (vars : List SortId) (body : Formula) → P body → P (Formula.Quant all vars body)
  pub variable : (v : ℕ) → Q (Fterm.Var v)
  pub application : (f : SymId) (ts : List Fterm) → Each Q ts → Q (Fterm.App f ts)
  pub term_choice : (c : Formula) (a b : Fterm) → P c → Q a → Q b → Q (Fterm.Ite c a b)

module _ (P : Formula → Type 0) (Q : Fterm → Type 0) (cases : Cases P Q) where
  abbrev Shown : Type 0
  Shown = (f : Formula) × P f

  abbrev ShownTerm : Type 0
  ShownTerm = (t : Fterm) × Q t

  each : (ys : List Shown) → Each P (map (λ (e : Shown). e.0) ys)
  each [] = tt
  each (y ∷ ys) = (y.1, each ys)

  each_term : (ys : List ShownTerm) → Each Q (map (λ (e : ShownTerm). e.0) ys)
  each_term [] = tt
  each_term (y ∷ ys) = (y.1, each_term ys)

  abbrev plain : Formula-F Shown ShownTerm → Formula-F Formula Fterm
  plain y = map-Formula Shown ShownTerm Formula Fterm (λ e. e.0) (λ e. e.0) y

  abbrev plain_term : Fterm-F Shown ShownTerm → Fterm-F Formula Fterm
  plain_term y = map-Fterm Shown ShownTerm Formula Fterm (λ e. e.0) (λ e. e.0) y

  layer : (y : Formula-F Shown ShownTerm) (x : Formula-F Formula Fterm) → plain y ≡ x → P (roll-Formula x)
  unfolding Formula.roll-Formula denote.Hole.Carrier.roll
  layer (Formula-F.Truth b) x is = subst (λ (z : Formula-F Formula Fterm). P (roll-Formula z)) is (cases.constant b)
  layer (Formula-F.Pred p ts) x is = subst (λ (z : Formula-F Formula Fterm). P (roll-Formula z)) is (cases.predicate p (map (λ (e : ShownTerm). e.0) ts) (each_term ts))
  layer (Formula-F.Equal a b) x is = subst (λ (z : Formula-F Formula Fterm). P (roll-Formula z)) is (cases.equation a.0 b.0 a.1 b.1)
  layer (Formula-F.Not a) x is = subst (λ (z : Formula-F Formula Fterm). P (roll-Formula z)) is (cases.negation a.0 a.1)
  layer (Formula-F.And fs) x is = subst (λ (z : Formula-F Formula Fterm). P (roll-Formula z)) is (cases.conjunction (map (λ (e : Shown). e.0) fs) (each fs))
  layer (Formula-F.Or fs) x is = subst (λ (z : Formula-F Formula Fterm). P (roll-Formula z)) is (cases.disjunction (map (λ (e : Shown). e.0) fs) (each fs))
  layer (Formula-F.Iff a b) x is = subst (λ (z : Formula-F Formula Fterm). P (roll-Formula z)) is (cases.equivalence a.0 b.0 a.1 b.1)
  layer (Formula-F.«Formula::Ite» c a b) x is = subst (λ (z : Formula-F Formula Fterm). P (roll-Formula z)) is (cases.choice c.0 a.0 b.0 c.1 a.1 b.1)
  layer (Formula-F.Quant all vars body) x is = subst (λ (z : Formula-F Formula Fterm). P (roll-Formula z)) is (cases.quantifier all vars body.0 body.1)

  layer_term : (y : Fterm-F Shown ShownTerm) (x : Fterm-F Formula Fterm) → plain_term y ≡ x → Q (roll-Fterm x)
  unfolding Fterm.roll-Fterm denote.Hole.Carrier.roll
  layer_term (Fterm-F.Var v) x is = subst (λ (z : Fterm-F Formula Fterm). Q (roll-Fterm z)) is (cases.variable v)
  layer_term (Fterm-F.App f ts) x is = subst (λ (z : Fterm-F Formula Fterm). Q (roll-Fterm z)) is (cases.application f (map (λ (e : ShownTerm). e.0) ts) (each_term ts))
  layer_term (Fterm-F.«Fterm::Ite» c a b) x is = subst (λ (z : Fterm-F Formula Fterm). Q (roll-Fterm z)) is (cases.term_choice c.0 a.0 b.0 c.1 a.1 b.1)

  pub formula_induction : (f : Formula) → P f
  formula_induction = ind-Formula P Q (λ x y is. layer y x is) (λ x y is. layer_term y x is)

  pub fterm_induction : (t : Fterm) → Q t
  fterm_induction = ind-Fterm P Q (λ x y is. layer y x is) (λ x y is. layer_term y x is)

module _ (A B : Type 0) (step : Formula-F A B → A) (term_step : Fterm-F A B → B) where
  abbrev fold : Formula → A
  fold = fold-Formula A B step term_step

  abbrev fold_term : Fterm → B
  fold_term = fold-Fterm A B step term_step

  pub fold_at_truth : (b : Bool) → fold (Formula.Truth b) ≡ step (Formula-F.Truth b)
  unfolding Formula.roll-Formula denote.Hole.Carrier.roll
  fold_at_truth b = fold-roll-Formula A B step term_step (Formula-F.Truth b)

  pub fold_at_pred : (p : SymId) (ts : List Fterm) → fold (Formula.Pred p ts) ≡ step (Formula-F.Pred p (map fold_term ts))
  unfolding Formula.roll-Formula denote.Hole.Carrier.roll
  fold_at_pred p ts = fold-roll-Formula A B step term_step (Formula-F.Pred p ts)

  pub fold_at_equal : (a b : Fterm) → fold (Formula.Equal a b) ≡ step (Formula-F.Equal (fold_term a) (fold_term b))
  unfolding Formula.roll-Formula denote.Hole.Carrier.roll
  fold_at_equal a b = fold-roll-Formula A B step term_step (Formula-F.Equal a b)

  pub fold_at_not : (a : Formula) → fold (Formula.Not a) ≡ step (Formula-F.Not (fold a))
  unfolding Formula.roll-Formula denote.Hole.Carrier.roll
  fold_at_not a = fold-roll-Formula A B step term_step (Formula-F.Not a)

  pub fold_at_and : (fs : List Formula) → fold (Formula.And fs) ≡ step (Formula-F.And (map fold fs))
  unfolding Formula.roll-Formula denote.Hole.Carrier.roll
  fold_at_and fs = fold-roll-Formula A B step term_step (Formula-F.And fs)

  pub fold_at_or : (fs : List Formula) → fold (Formula.Or fs) ≡ step (Formula-F.Or (map fold fs))
  unfolding Formula.roll-Formula denote.Hole.Carrier.roll
  fold_at_or fs = fold-roll-Formula A B step term_step (Formula-F.Or fs)

  pub fold_at_iff : (a b : Formula) → fold (Formula.Iff a b) ≡ step (Formula-F.Iff (fold a) (fold b))
  unfolding Formula.roll-Formula denote.Hole.Carrier.roll
  fold_at_iff a b = fold-roll-Formula A B step term_step (Formula-F.Iff a b)

  pub fold_at_ite : (c a b : Formula) → fold (Formula.Ite c a b) ≡ step (Formula-F.«Formula::Ite» (fold c) (fold a) (fold b))
  unfolding Formula.roll-Formula denote.Hole.Carrier.roll
  fold_at_ite c a b = fold-roll-Formula A B step term_step (Formula-F.«Formula::Ite» c a b)

  pub fold_at_quant : (all : Bool) (vars : List SortId) (body : Formula) → fold (Formula.Quant all vars body) ≡ step (Formula-F.Quant all vars (fold body))
  unfolding Formula.roll-Formula denote.Hole.Carrier.roll
  fold_at_quant all vars body = fold-roll-Formula A B step term_step (Formula-F.Quant all vars body)

  pub fold_at_var : (v : ℕ) → fold_term (Fterm.Var v) ≡ term_step (Fterm-F.Var v)
  unfolding Fterm.roll-Fterm denote.Hole.Carrier.roll
  fold_at_var v = fold-roll-Fterm A B step term_step (Fterm-F.Var v)

  pub fold_at_app : (f : SymId) (ts : List Fterm) → fold_term (Fterm.App f ts) ≡ term_step (Fterm-F.App f (map fold_term ts))
  unfolding Fterm.roll-Fterm denote.Hole.Carrier.roll
  fold_at_app f ts = fold-roll-Fterm A B step term_step (Fterm-F.App f ts)

  pub fold_at_term_ite : (c : Formula) (a b : Fterm) → fold_term (Fterm.Ite c a b) ≡ term_step (Fterm-F.«Fterm::Ite» (fold c) (fold_term a) (fold_term b))
  unfolding Fterm.roll-Fterm denote.Hole.Carrier.roll
  fold_at_term_ite c a b = fold-roll-Fterm A B step term_step (Fterm-F.«Fterm::Ite» c a b)
