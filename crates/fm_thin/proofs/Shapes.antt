-- A thin assertion is a truth value or an equation of two constants, and closed and well sorted.
use Rattle.std.proofs.Common.{◌≡◌, ◌⊎◌, inl, inr, Bool, true, false, cond, List, [], ◌∷◌, map, Option, Some, None, ap, refl, sym, subst, ◌∙◌}
use Rattle.std.specs.Prelude.{slice_get}
use Rattle.std.specs.List.{list_all}
use Rattle.std.proofs.lemmas.Bool.{and_parts, cond-true, false≢true}
use Rattle.std.proofs.lemmas.List.Elements.{All-nil, All-cons}
use Rattle.fm_base.specs.Interpretations.{is_nil}
use Rattle.fm_base.specs.Truth.{Sort, Sorted, have_one_sort, is_closed, result_of, sort_of, sort_step, sorted_step}
use Rattle.fm_base.specs.declared.ids.SortId.{SortId}
use Rattle.fm_base.specs.declared.ids.SymId.{SymId}
use Rattle.fm_base.specs.declared.signature.Sig.{Sig}
use Rattle.fm_base.specs.declared.formula.Formula
use Rattle.fm_base.specs.declared.formula.Formula.{Formula}
use Rattle.fm_base.specs.declared.formula.Fterm
use Rattle.fm_base.specs.declared.formula.Fterm.{Fterm}
use Rattle.fm_base.proofs.NormalTerms.{Each}
use Rattle.fm_clauses.specs.TableLaw.{AreClosed}
use Rattle.fm_nnf.proofs.Formulas.{Cases, formula_induction, fold_at_truth, fold_at_pred, fold_at_equal, fold_at_not, fold_at_and, fold_at_or, fold_at_iff, fold_at_ite, fold_at_quant, fold_at_var, fold_at_app, fold_at_term_ite}
use Rattle.fm_nnf.proofs.Sorting.{one_sort_parts}
use Rattle.fm_thin.specs.Thin.{ConstantSort, constant_sort, constant_step, is_answered, is_thin, kind_of, kind_step, truth_kind}
use Rattle.fm_thin.specs.declared.thin.Kind.{Kind}

abbrev pub constant : SymId → Fterm
constant a = Fterm.App a []

abbrev pub equation : SymId → SymId → Formula
equation a b = Formula.Equal (constant a) (constant b)

-- the sort of a symbol without arguments
abbrev pub sort_at : Sig → SymId → Option SortId
sort_at sig a = result_of [] (slice_get sig.ranks a.0) sig []

-- two constants of one sort
pub record IsEquation (sig : Sig) (f : Formula) : Type 0 where
  pub left : SymId
  pub right : SymId
  pub is : f ≡ equation left right
  pub sorted : have_one_sort (sort_at sig left) (sort_at sig right) ≡ true

abbrev pub Shape : Sig → Formula → Type 0
Shape sig f = ((b : Bool) × (f ≡ Formula.Truth b)) ⊎ IsEquation sig f

module _ (sig : Sig) where
  abbrev K : Type 0
  K = Sig → Kind

  abbrev P : Formula → Type 0
  P f = is_answered (kind_of f sig) ≡ true → Shape sig f

  abbrev Q : Fterm → Type 0
  Q t = (s : SortId) → constant_sort t sig ≡ Some s → (a : SymId) × (t ≡ constant a) × (sort_at sig a ≡ Some s)

  other : (f : Formula) (k : K) → kind_of f ≡ k → is_answered (k sig) ≡ false → P f
  other f k e none h = absurd (false≢true (sym none ∙ (ap (λ (j : K). is_answered (j sig)) (sym e) ∙ h)))

  not_constant : (t : Fterm) (k : ConstantSort) → constant_sort t ≡ k → k sig ≡ None → Q t
  not_constant t k e none s h = cc (sym none ∙ (ap (λ (j : ConstantSort). j sig) (sym e) ∙ h))

  answered_sorted : (b : Bool) → is_answered (cond b Kind.Equation Kind.Other) ≡ true → b ≡ true
  answered_sorted true h = refl
  answered_sorted false h = absurd (false≢true h)

  at_equation : (a b : Fterm) → Q a → Q b → P (Formula.Equal a b)
  at_equation a b qa qb h =
      let at = ap (λ (k : K). is_answered (k sig)) (fold_at_equal K ConstantSort kind_step constant_step a b) in
      let one = answered_sorted (have_one_sort (constant_sort a sig) (constant_sort b sig)) (sym at ∙ h) in
      let o = one_sort_parts (constant_sort a sig) (constant_sort b sig) one in
      let x = qa o.0 o.1 in
      let y = qb o.0 o.2 in
      let left : have_one_sort (sort_at sig x.0) (sort_at sig y.0) ≡ true = subst (λ (s : Option SortId). have_one_sort s (sort_at sig y.0) ≡ true) (o.1 ∙ sym x.2) (subst (λ (s : Option SortId). have_one_sort (constant_sort a sig) s ≡ true) (o.2 ∙ sym y.2) one) in
      inr (record {
        left = x.0;
        right = y.0;
        is = ap (λ (t : Fterm). Formula.Equal t b) x.1 ∙ ap (λ (t : Fterm). Formula.Equal (constant x.0) t) y.1;
        sorted = left;
      })

  at_application : (f : SymId) (ts : List Fterm) → Each Q ts → Q (Fterm.App f ts)
  at_application f [] each s h = (f, refl, sym (ap (λ (k : ConstantSort). k sig) (fold_at_app K ConstantSort kind_step constant_step f [])) ∙ h)
  at_application f (t ∷ ts) each s h = cc (sym (ap (λ (k : ConstantSort). k sig) (fold_at_app K ConstantSort kind_step constant_step f (t ∷ ts))) ∙ h)

  cases : Cases P Q
  cases = record {
    constant = λ b h. inl (b, refl);
    predicate = λ p ts each. other (Formula.Pred p ts) _ (fold_at_pred K ConstantSort kind_step constant_step p ts) refl;
    equation = at_equation;
    negation = λ a pa. other (Formula.Not a) _ (fold_at_not K ConstantSort kind_step constant_step a) refl;
    conjunction = λ fs each. other (Formula.And fs) _ (fold_at_and K ConstantSort kind_step constant_step fs) refl;
    disjunction = λ fs each. other (Formula.Or fs) _ (fold_at_or K ConstantSort kind_step constant_step fs) refl;
    equivalence = λ a b pa pb. other (Formula.Iff a b) _ (fold_at_iff K ConstantSort kind_step constant_step a b) refl;
    choice = λ c a b pc pa pb. other (Formula.Ite c a b) _ (fold_at_ite K ConstantSort kind_step constant_step c a b) refl;
    quantifier = λ all vars body pb. other (Formula.Quant all vars body) _ (fold_at_quant K ConstantSort kind_step constant_step all vars body) refl;
    variable = λ v. not_constant (Fterm.Var v) _ (fold_at_var K ConstantSort kind_step constant_step v) refl;
    application = at_application;
    term_choice = λ c a b pc qa qb. not_constant (Fterm.Ite c a b) _ (fold_at_term_ite K ConstantSort kind_step constant_step c a b) refl;
  }

  pub shape : (f : Formula) → is_thin sig f ≡ true → Shape sig f
  shape f = formula_induction P Q cases f

  pub kind_of_truth : (b : Bool) → kind_of (Formula.Truth b) sig ≡ truth_kind b
  kind_of_truth b = ap (λ (k : K). k sig) (fold_at_truth K ConstantSort kind_step constant_step b)

  sort_of_constant : (a : SymId) → constant_sort (constant a) sig ≡ sort_at sig a
  sort_of_constant a = ap (λ (k : ConstantSort). k sig) (fold_at_app K ConstantSort kind_step constant_step a [])

  pub kind_of_equation : (a b : SymId) → have_one_sort (sort_at sig a) (sort_at sig b) ≡ true → kind_of (equation a b) sig ≡ Kind.Equation
  kind_of_equation a b one =
      let at = ap (λ (k : K). k sig) (fold_at_equal K ConstantSort kind_step constant_step (constant a) (constant b)) in
      let x = sort_of_constant a in
      let y = sort_of_constant b in
      let same : have_one_sort (constant_sort (constant a) sig) (constant_sort (constant b) sig) ≡ have_one_sort (sort_at sig a) (sort_at sig b) = λ i. have_one_sort (x i) (y i) in
      at ∙ cond-true (have_one_sort (constant_sort (constant a) sig) (constant_sort (constant b) sig)) Kind.Equation Kind.Other (same ∙ one)

  sort_is : (a : SymId) → sort_of (constant a) sig [] ≡ sort_at sig a
  sort_is a = ap (λ (k : Sort). k sig []) (fold_at_app Sorted Sort sorted_step sort_step a [])

  shape_closed : (f : Formula) → Shape sig f → is_closed f sig ≡ true
  shape_closed f (inl t) = subst (λ (g : Formula). is_closed g sig ≡ true) (sym t.1) (ap (λ (k : Sorted). k sig []) (fold_at_truth Sorted Sort sorted_step sort_step t.0))
  shape_closed f (inr e) =
      let at = ap (λ (k : Sorted). k sig []) (fold_at_equal Sorted Sort sorted_step sort_step (constant e.left) (constant e.right)) in
      let x = sort_is e.left in
      let y = sort_is e.right in
      let same : have_one_sort (sort_of (constant e.left) sig []) (sort_of (constant e.right) sig []) ≡ have_one_sort (sort_at sig e.left) (sort_at sig e.right) = λ i. have_one_sort (x i) (y i) in
      subst (λ (g : Formula). is_closed g sig ≡ true) (sym e.is) (at ∙ (same ∙ e.sorted))

  pub all_closed : (fs : List Formula) → list_all (is_thin sig) fs ≡ true → AreClosed sig fs
  all_closed [] h = All-nil (λ f. is_closed f sig ≡ true)
  all_closed (f ∷ fs) h =
      let p = and_parts (is_thin sig f) (list_all (is_thin sig) fs) h in
      All-cons (λ f. is_closed f sig ≡ true) f fs (shape_closed f (shape f p.0)) (all_closed fs p.1)

nil_mapped : {A B : Type 0} (g : A → B) (xs : List A) → is_nil (map g xs) ≡ is_nil xs
nil_mapped g [] = refl
nil_mapped g (x ∷ xs) = refl

pub constant_sort_at : (t : Fterm) (f : SymId) (ts : List Fterm) (sig : Sig) (s : Option SortId) → t ≡ Fterm.App f ts → s ≡ cond (is_nil ts) (sort_at sig f) None → s ≡ constant_sort t sig
constant_sort_at t f ts sig s is e =
    let at : constant_sort (Fterm.App f ts) sig ≡ cond (is_nil (map constant_sort ts)) (sort_at sig f) None = ap (λ (k : ConstantSort). k sig) (fold_at_app (Sig → Kind) ConstantSort kind_step constant_step f ts) in
    let same : cond (is_nil (map constant_sort ts)) (sort_at sig f) None ≡ cond (is_nil ts) (sort_at sig f) None = ap (λ (b : Bool). cond b (sort_at sig f) None) (nil_mapped constant_sort ts) in
    e ∙ (sym (at ∙ same) ∙ ap (λ (u : Fterm). constant_sort u sig) (sym is))
