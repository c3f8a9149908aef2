-- Lifting a well sorted formula says the same.
use Rattle.std.proofs.Common.{◌≡◌, ℕ, zero, suc, ◌<◌, ◌==◌, Bool, true, false, ◌&&◌, ◌||◌, not, cond, List, [], ◌∷◌, ◌++◌, length, map, Some, ap, refl, sym, subst, ◌∙◌, arith, length-append, append_assoc}
use Rattle.std.specs.Prelude.{slice_get, nat_lt}
use Rattle.std.specs.List.{list_all}
use mathlib.Core.Bool.{beq}
use Rattle.std.proofs.lemmas.Bool.{and_parts, and_from}
use Rattle.std.proofs.lemmas.List.{append-nil}
use Rattle.fm_base.specs.Interpretations.{Reading}
use Rattle.fm_base.specs.Models.{IsElements}
use Rattle.fm_base.specs.Truth.{Sorted, Sort, truth, value, values, all_true, some_true, block, quantified, all_below, any_below, is_well_sorted, is_closed, sort_of, are_arguments, is_of_sort, have_one_sort, all_sorted, sorted_step, sort_step}
use Rattle.fm_base.specs.declared.ids.SortId.{SortId}
use Rattle.fm_base.specs.declared.ids.SymId.{SymId}
use Rattle.fm_base.specs.declared.signature.Rank.{Rank}
use Rattle.fm_base.specs.declared.signature.Sig.{Sig}
use Rattle.fm_base.specs.declared.signature.Ty.{Ty}
use Rattle.fm_base.specs.declared.formula.Formula
use Rattle.fm_base.specs.declared.formula.Formula.{Formula}
use Rattle.fm_base.specs.declared.formula.Fterm
use Rattle.fm_base.specs.declared.formula.Fterm.{Fterm}
use Rattle.fm_base.proofs.Constructors.{truth_of_pred, truth_of_equal, truth_of_not, truth_of_and, truth_of_or, truth_of_iff, truth_of_ite, truth_of_quant, value_of_app}
use Rattle.fm_base.specs.Expansions.{with_symbols}
use Rattle.fm_nnf.specs.Lifting.{Lifter, TermLifter, alone, both, mapped, lift_all, lifted, lifts, under, lift_choice, lift_formula, lift_term, lift_formula_step, lift_term_step, type_of_variable, type_of_symbol, lifted}
use Rattle.fm_nnf.specs.Plain.{is_plain, is_plain_term, all_plain, formula_plain_step, term_plain_step}
use Rattle.fm_nnf.specs.LiftLaw.{with_ranks, LiftingSaysTheSame, LiftingIsReady}
use Rattle.fm_base.proofs.NormalTerms.{Each}
use Rattle.fm_nnf.proofs.Sorting.{of_sort_parts, of_sort_from, one_sort_parts, one_sort_from, when_some, predicate_parts, predicate_from, result_parts, result_from}
use Rattle.fm_nnf.proofs.Coincidence.{Extends, coincides, coincides_term}
use Rattle.fm_nnf.proofs.Formulas.{Cases, formula_induction, fold_at_truth, fold_at_pred, fold_at_equal, fold_at_not, fold_at_and, fold_at_or, fold_at_iff, fold_at_ite, fold_at_quant, fold_at_var, fold_at_app, fold_at_term_ite}
use Rattle.fm_nnf.proofs.Joined.{grow_extends, extends_chain, LiftsTo, lifts_alone, lifts_mapped, lifts_both, Monotone, GoodBoth, SaysBoth}
use Rattle.fm_nnf.proofs.Chosen.{GoodFormula, GoodTerm, SaysFormula, SaysTerm, lifts_choice}

-- blocks of what is the same at each tuple of elements
all_same : (n : ℕ) (p q : ℕ → Bool) → ((k : ℕ) → k < n → p k ≡ q k) → all_below n p ≡ all_below n q
unfolding all_below
all_same zero p q h = refl
all_same (suc n) p q h = let e = all_same n p q (λ k lt. h k (omega arith)) in let f = h n (omega arith) in λ i. e i && f i

any_same : (n : ℕ) (p q : ℕ → Bool) → ((k : ℕ) → k < n → p k ≡ q k) → any_below n p ≡ any_below n q
unfolding any_below
any_same zero p q h = refl
any_same (suc n) p q h = let e = any_same n p q (λ k lt. h k (omega arith)) in let f = h n (omega arith) in λ i. e i || f i

quantified_same : (all : Bool) (n : ℕ) (p q : ℕ → Bool) → ((k : ℕ) → k < n → p k ≡ q k) → quantified all n p ≡ quantified all n q
quantified_same true n p q h = all_same n p q h
quantified_same false n p q h = any_same n p q h

pub block_same : (m : Reading) (all : Bool) (vars : List SortId) (p q : List ℕ → Bool) (env : List ℕ) → ((xs : List ℕ) → IsElements m vars xs → p (env ++ xs) ≡ q (env ++ xs)) → block m all vars p env ≡ block m all vars q env
block_same m all [] p q env h = let e = append-nil env in ap p (sym e) ∙ h [] tt ∙ ap q e
block_same m all (s ∷ ss) p q env h =
    quantified_same all (m.size s.0) (λ x. block m all ss p (env ++ x ∷ [])) (λ x. block m all ss q (env ++ x ∷ [])) (λ x lt. block_same m all ss p q (env ++ x ∷ []) (λ xs at.
    let e = append_assoc env (x ∷ []) xs in
    ap p e ∙ h (x ∷ xs) (lt, at) ∙ ap q (sym e)))

elements_both : (m : Reading) (scope vars : List SortId) (env xs : List ℕ) → IsElements m scope env → IsElements m vars xs → IsElements m (scope ++ vars) (env ++ xs)
elements_both m [] vars [] xs h t = t
elements_both m [] vars (e ∷ es) xs h t = absurd h
elements_both m (s ∷ ss) vars [] xs h t = absurd h
elements_both m (s ∷ ss) vars (e ∷ es) xs h t = (h.0, elements_both m ss vars es xs h.1 t)

all_both : (f : SortId → Bool) (xs ys : List SortId) → list_all f xs ≡ true → list_all f ys ≡ true → list_all f (xs ++ ys) ≡ true
all_both f [] ys p q = q
all_both f (x ∷ xs) ys p q = let r = and_parts (f x) (list_all f xs) p in and_from (f x) (list_all f (xs ++ ys)) r.0 (all_both f xs ys r.1 q)

pub each_of : {X : Type 0} (P : X → Type 0) → ((x : X) → P x) → (xs : List X) → Each P xs
each_of P h [] = tt
each_of P h (x ∷ xs) = (h x, each_of P h xs)

abbrev GoodArguments : List Ty → List Fterm → Sig → List SortId → Type 0
GoodArguments types xs sig scope = (are_arguments (map sort_of xs) types sig scope ≡ true) × (all_plain (map is_plain_term xs) ≡ true)

abbrev SaysArguments : List Fterm → List Fterm → Reading → List ℕ → Type 0
SaysArguments ts xs m env = values (map value xs) m env ≡ values (map value ts) m env

abbrev GoodList : List Formula → Sig → List SortId → Type 0
GoodList xs sig scope = (all_sorted (map is_well_sorted xs) sig scope ≡ true) × (all_plain (map is_plain xs) ≡ true)

abbrev SaysList : List Formula → List Formula → Reading → List ℕ → Type 0
SaysList fs xs m env = (all_true (map truth xs) m env ≡ all_true (map truth fs) m env) × (some_true (map truth xs) m env ≡ some_true (map truth fs) m env)

mono_formula : Monotone Formula GoodFormula
mono_formula x s b scope more h = ((coincides s x scope h.0).grows b more, h.1)

mono_term : (u : SortId) → Monotone Fterm (GoodTerm u)
mono_term u x s b scope more h = ((coincides_term s x scope u h.0).grows b more, h.1)

module _ (sig : Sig) where
  abbrev InRange : Sig → List SortId → Type 0
  InRange big scope = list_all (λ (s : SortId). nat_lt s.0 big.sorts) scope ≡ true

  abbrev P : Formula → Type 0
  P f = (scope : List SortId) (big : Sig) → Extends sig big → InRange big scope → is_well_sorted f sig scope ≡ true → LiftsTo Formula GoodFormula (SaysFormula f) big scope (lift_formula sig f scope (length big.ranks))

  abbrev Q : Fterm → Type 0
  Q t = (scope : List SortId) (big : Sig) (s : SortId) → Extends sig big → InRange big scope → sort_of t sig scope ≡ Some s → LiftsTo Fterm (GoodTerm s) (SaysTerm t) big scope ((lift_term sig t).lift scope (length big.ranks)) × ((lift_term sig t).type scope ≡ Ty.Of s)

  -- two in a row
  pair : (A B : Type 0) (Good : A → Sig → List SortId → Type 0) (Says : A → Reading → List ℕ → Type 0) (Good' : B → Sig → List SortId → Type 0) (Says' : B → Reading → List ℕ → Type 0) (big : Sig) (scope : List SortId) (j : Lifter A) (k : Lifter B) → Extends sig big
      → Monotone A Good → LiftsTo A Good Says big scope (j scope (length big.ranks)) → ((more : Sig) → Extends sig more → (more.sorts ≡ big.sorts) → LiftsTo B Good' Says' more scope (k scope (length more.ranks)))
      → LiftsTo (A × B) (GoodBoth Good Good') (SaysBoth Says Says') big scope (both j k scope (length big.ranks))
  pair A B Good Says Good' Says' big scope j k ext mono one two =
      let r = j scope (length big.ranks) in
      let next = two (with_ranks big r.ranks) (extends_chain sig big (with_ranks big r.ranks) ext (grow_extends big r.ranks)) refl in
      let l = length-append big.ranks r.ranks in
      lifts_both A B Good Says Good' Says' big scope j k (length big.ranks) mono one (subst (λ (n : ℕ). LiftsTo B Good' Says' (with_ranks big r.ranks) scope (k scope n)) l next)

  range_along : (big more : Sig) (scope : List SortId) → more.sorts ≡ big.sorts → InRange big scope → InRange more scope
  range_along big more scope e h = subst (λ (n : ℕ). list_all (λ (s : SortId). nat_lt s.0 n) scope ≡ true) (sym e) h

  lift_terms : (ts : List Fterm) → Each Q ts → (types : List Ty) (scope : List SortId) (big : Sig) → Extends sig big → InRange big scope → are_arguments (map sort_of ts) types sig scope ≡ true
      → LiftsTo (List Fterm) (GoodArguments types) (SaysArguments ts) big scope (lift_all (lifts (map (lift_term sig) ts)) scope (length big.ranks))
  lift_terms [] each [] scope big ext range e = lifts_alone (List Fterm) (GoodArguments []) (SaysArguments []) big scope (length big.ranks) [] (refl, refl) (λ m env at. refl)
  lift_terms [] each (u ∷ us) scope big ext range e = cc
  lift_terms (t ∷ ts) each [] scope big ext range e = cc
  lift_terms (t ∷ ts) each (u ∷ us) scope big ext range e =
      let p = and_parts (is_of_sort (sort_of t sig scope) u) (are_arguments (map sort_of ts) us sig scope) e in
      let q = of_sort_parts (sort_of t sig scope) u p.0 in
      let two = pair Fterm (List Fterm) (GoodTerm q.0) (SaysTerm t) (GoodArguments us) (SaysArguments ts) big scope (lift_term sig t).lift (lift_all (lifts (map (lift_term sig) ts))) ext (mono_term q.0) (each.0 scope big q.0 ext range q.1).0
      (λ more ext' same. lift_terms ts each.1 us scope more ext' (range_along big more scope same range) p.1) in
      lifts_mapped (Fterm × List Fterm) (List Fterm) (GoodBoth (GoodTerm q.0) (GoodArguments us)) (SaysBoth (SaysTerm t) (SaysArguments ts)) (GoodArguments (u ∷ us)) (SaysArguments (t ∷ ts)) big scope (λ x. x.0 ∷ x.1) (both (lift_term sig t).lift (lift_all (lifts (map (lift_term sig) ts)))) (length big.ranks)
      (λ x s more g. (and_from (is_of_sort (sort_of x.0 s scope) u) (are_arguments (map sort_of x.1) us s scope) ((λ i. is_of_sort (g.0.0 i) (q.2 i)) ∙ of_sort_from q.0) g.1.0, and_from (is_plain_term x.0) (all_plain (map is_plain_term x.1)) g.0.1 g.1.1))
      (λ x m env h. (let a = h.0 in let b = h.1 in λ i. a i ∷ b i))
      two

  lift_formulas : (fs : List Formula) → Each P fs → (scope : List SortId) (big : Sig) → Extends sig big → InRange big scope → all_sorted (map is_well_sorted fs) sig scope ≡ true
      → LiftsTo (List Formula) GoodList (SaysList fs) big scope (lift_all (map (lift_formula sig) fs) scope (length big.ranks))
  lift_formulas [] each scope big ext range e = lifts_alone (List Formula) GoodList (SaysList []) big scope (length big.ranks) [] (refl, refl) (λ m env at. (refl, refl))
  lift_formulas (f ∷ fs) each scope big ext range e =
      let p = and_parts (is_well_sorted f sig scope) (all_sorted (map is_well_sorted fs) sig scope) e in
      let two = pair Formula (List Formula) GoodFormula (SaysFormula f) GoodList (SaysList fs) big scope (lift_formula sig f) (lift_all (map (lift_formula sig) fs)) ext mono_formula (each.0 scope big ext range p.0)
      (λ more ext' same. lift_formulas fs each.1 scope more ext' (range_along big more scope same range) p.1) in
      lifts_mapped (Formula × List Formula) (List Formula) (GoodBoth GoodFormula GoodList) (SaysBoth (SaysFormula f) (SaysList fs)) GoodList (SaysList (f ∷ fs)) big scope (λ x. x.0 ∷ x.1) (both (lift_formula sig f) (lift_all (map (lift_formula sig) fs))) (length big.ranks)
      (λ x s more g. (and_from (is_well_sorted x.0 s scope) (all_sorted (map is_well_sorted x.1) s scope) g.0.0 g.1.0, and_from (is_plain x.0) (all_plain (map is_plain x.1)) g.0.1 g.1.1))
      (λ x m env h. ((let a = h.0 in let b = h.1.0 in λ i. a i && b i), (let a = h.0 in let b = h.1.1 in λ i. a i || b i)))
      two

  -- along what the lifter of a formula is
  along : (f : Formula) (k : Lifter Formula) (scope : List SortId) (big : Sig) → lift_formula sig f ≡ k → LiftsTo Formula GoodFormula (SaysFormula f) big scope (k scope (length big.ranks)) → LiftsTo Formula GoodFormula (SaysFormula f) big scope (lift_formula sig f scope (length big.ranks))
  along f k scope big e h = subst (λ (j : Lifter Formula). LiftsTo Formula GoodFormula (SaysFormula f) big scope (j scope (length big.ranks))) (sym e) h

  along_term : (t : Fterm) (s : SortId) (k : TermLifter) (scope : List SortId) (big : Sig) → lift_term sig t ≡ k → LiftsTo Fterm (GoodTerm s) (SaysTerm t) big scope (k.lift scope (length big.ranks)) × (k.type scope ≡ Ty.Of s)
      → LiftsTo Fterm (GoodTerm s) (SaysTerm t) big scope ((lift_term sig t).lift scope (length big.ranks)) × ((lift_term sig t).type scope ≡ Ty.Of s)
  along_term t s k scope big e h = subst (λ (j : TermLifter). LiftsTo Fterm (GoodTerm s) (SaysTerm t) big scope (j.lift scope (length big.ranks)) × (j.type scope ≡ Ty.Of s)) (sym e) h

  abbrev F : Type 0
  F = Lifter Formula

  abbrev T : Fterm → TermLifter
  T = lift_term sig

  abbrev L : Formula → Lifter Formula
  L = lift_formula sig

  at_constant : (b : Bool) → P (Formula.Truth b)
  at_constant b scope big ext range e = along (Formula.Truth b) (alone (Formula.Truth b)) scope big (fold_at_truth F TermLifter lift_formula_step (lift_term_step sig) b)
      (lifts_alone Formula GoodFormula (SaysFormula (Formula.Truth b)) big scope (length big.ranks) (Formula.Truth b) (ap (λ (k : Sorted). k big scope) (fold_at_truth Sorted Sort sorted_step sort_step b), fold_at_truth Bool Bool formula_plain_step term_plain_step b) (λ m env at. refl))

  at_predicate : (p : SymId) (ts : List Fterm) → Each Q ts → P (Formula.Pred p ts)
  at_predicate p ts each scope big ext range e =
      let parts = predicate_parts (map sort_of ts) (slice_get sig.ranks p.0) sig scope (sym (ap (λ (k : Sorted). k sig scope) (fold_at_pred Sorted Sort sorted_step sort_step p ts)) ∙ e) in
      let args = lift_terms ts each parts.0.args scope big ext range parts.3 in
      along (Formula.Pred p ts) (mapped (λ xs. Formula.Pred p xs) (lift_all (lifts (map T ts)))) scope big (fold_at_pred F TermLifter lift_formula_step (lift_term_step sig) p ts)
      (lifts_mapped (List Fterm) Formula (GoodArguments parts.0.args) (SaysArguments ts) GoodFormula (SaysFormula (Formula.Pred p ts)) big scope (λ xs. Formula.Pred p xs) (lift_all (lifts (map T ts))) (length big.ranks)
      (λ xs s more g. (ap (λ (k : Sorted). k s scope) (fold_at_pred Sorted Sort sorted_step sort_step p xs) ∙ predicate_from (map sort_of xs) (slice_get s.ranks p.0) s scope parts.0 (more.ranks p.0 parts.0 (ext.ranks p.0 parts.0 parts.1)) parts.2 g.0, fold_at_pred Bool Bool formula_plain_step term_plain_step p xs ∙ g.1))
      (λ xs m env h. truth_of_pred p xs m env ∙ ap (λ (ys : List ℕ). m.at p.0 ys == 1) h ∙ sym (truth_of_pred p ts m env))
      args)

  at_equation : (a b : Fterm) → Q a → Q b → P (Formula.Equal a b)
  at_equation a b qa qb scope big ext range e =
      let parts = one_sort_parts (sort_of a sig scope) (sort_of b sig scope) (sym (ap (λ (k : Sorted). k sig scope) (fold_at_equal Sorted Sort sorted_step sort_step a b)) ∙ e) in
      let s = parts.0 in
      let two = pair Fterm Fterm (GoodTerm s) (SaysTerm a) (GoodTerm s) (SaysTerm b) big scope (T a).lift (T b).lift ext (mono_term s) (qa scope big s ext range parts.1).0 (λ more ext' same. (qb scope more s ext' (range_along big more scope same range) parts.2).0) in
      along (Formula.Equal a b) (mapped (λ x. Formula.Equal x.0 x.1) (both (T a).lift (T b).lift)) scope big (fold_at_equal F TermLifter lift_formula_step (lift_term_step sig) a b)
      (lifts_mapped (Fterm × Fterm) Formula (GoodBoth (GoodTerm s) (GoodTerm s)) (SaysBoth (SaysTerm a) (SaysTerm b)) GoodFormula (SaysFormula (Formula.Equal a b)) big scope (λ x. Formula.Equal x.0 x.1) (both (T a).lift (T b).lift) (length big.ranks)
      (λ x g more h. (ap (λ (k : Sorted). k g scope) (fold_at_equal Sorted Sort sorted_step sort_step x.0 x.1) ∙ one_sort_from (sort_of x.0 g scope) (sort_of x.1 g scope) s h.0.0 h.1.0, fold_at_equal Bool Bool formula_plain_step term_plain_step x.0 x.1 ∙ and_from (is_plain_term x.0) (is_plain_term x.1) h.0.1 h.1.1))
      (λ x m env h. truth_of_equal x.0 x.1 m env ∙ (let u = h.0 in let v = h.1 in λ i. u i == v i) ∙ sym (truth_of_equal a b m env))
      two)

  at_negation : (a : Formula) → P a → P (Formula.Not a)
  at_negation a pa scope big ext range e =
      along (Formula.Not a) (mapped (λ x. Formula.Not x) (L a)) scope big (fold_at_not F TermLifter lift_formula_step (lift_term_step sig) a)
      (lifts_mapped Formula Formula GoodFormula (SaysFormula a) GoodFormula (SaysFormula (Formula.Not a)) big scope (λ x. Formula.Not x) (L a) (length big.ranks)
      (λ x g more h. (ap (λ (k : Sorted). k g scope) (fold_at_not Sorted Sort sorted_step sort_step x) ∙ h.0, fold_at_not Bool Bool formula_plain_step term_plain_step x ∙ h.1))
      (λ x m env h. truth_of_not x m env ∙ ap not h ∙ sym (truth_of_not a m env))
      (pa scope big ext range (sym (ap (λ (k : Sorted). k sig scope) (fold_at_not Sorted Sort sorted_step sort_step a)) ∙ e)))

  at_conjunction : (fs : List Formula) → Each P fs → P (Formula.And fs)
  at_conjunction fs each scope big ext range e =
      along (Formula.And fs) (mapped (λ xs. Formula.And xs) (lift_all (map L fs))) scope big (fold_at_and F TermLifter lift_formula_step (lift_term_step sig) fs)
      (lifts_mapped (List Formula) Formula GoodList (SaysList fs) GoodFormula (SaysFormula (Formula.And fs)) big scope (λ xs. Formula.And xs) (lift_all (map L fs)) (length big.ranks)
      (λ x g more h. (ap (λ (k : Sorted). k g scope) (fold_at_and Sorted Sort sorted_step sort_step x) ∙ h.0, fold_at_and Bool Bool formula_plain_step term_plain_step x ∙ h.1))
      (λ x m env h. truth_of_and x m env ∙ h.0 ∙ sym (truth_of_and fs m env))
      (lift_formulas fs each scope big ext range (sym (ap (λ (k : Sorted). k sig scope) (fold_at_and Sorted Sort sorted_step sort_step fs)) ∙ e)))

  at_disjunction : (fs : List Formula) → Each P fs → P (Formula.Or fs)
  at_disjunction fs each scope big ext range e =
      along (Formula.Or fs) (mapped (λ xs. Formula.Or xs) (lift_all (map L fs))) scope big (fold_at_or F TermLifter lift_formula_step (lift_term_step sig) fs)
      (lifts_mapped (List Formula) Formula GoodList (SaysList fs) GoodFormula (SaysFormula (Formula.Or fs)) big scope (λ xs. Formula.Or xs) (lift_all (map L fs)) (length big.ranks)
      (λ x g more h. (ap (λ (k : Sorted). k g scope) (fold_at_or Sorted Sort sorted_step sort_step x) ∙ h.0, fold_at_or Bool Bool formula_plain_step term_plain_step x ∙ h.1))
      (λ x m env h. truth_of_or x m env ∙ h.1 ∙ sym (truth_of_or fs m env))
      (lift_formulas fs each scope big ext range (sym (ap (λ (k : Sorted). k sig scope) (fold_at_or Sorted Sort sorted_step sort_step fs)) ∙ e)))

  at_equivalence : (a b : Formula) → P a → P b → P (Formula.Iff a b)
  at_equivalence a b pa pb scope big ext range e =
      let p = and_parts (is_well_sorted a sig scope) (is_well_sorted b sig scope) (sym (ap (λ (k : Sorted). k sig scope) (fold_at_iff Sorted Sort sorted_step sort_step a b)) ∙ e) in
      let two = pair Formula Formula GoodFormula (SaysFormula a) GoodFormula (SaysFormula b) big scope (L a) (L b) ext mono_formula (pa scope big ext range p.0) (λ more ext' same. pb scope more ext' (range_along big more scope same range) p.1) in
      along (Formula.Iff a b) (mapped (λ x. Formula.Iff x.0 x.1) (both (L a) (L b))) scope big (fold_at_iff F TermLifter lift_formula_step (lift_term_step sig) a b)
      (lifts_mapped (Formula × Formula) Formula (GoodBoth GoodFormula GoodFormula) (SaysBoth (SaysFormula a) (SaysFormula b)) GoodFormula (SaysFormula (Formula.Iff a b)) big scope (λ x. Formula.Iff x.0 x.1) (both (L a) (L b)) (length big.ranks)
      (λ x g more h. (ap (λ (k : Sorted). k g scope) (fold_at_iff Sorted Sort sorted_step sort_step x.0 x.1) ∙ and_from (is_well_sorted x.0 g scope) (is_well_sorted x.1 g scope) h.0.0 h.1.0, fold_at_iff Bool Bool formula_plain_step term_plain_step x.0 x.1 ∙ and_from (is_plain x.0) (is_plain x.1) h.0.1 h.1.1))
      (λ x m env h. truth_of_iff x.0 x.1 m env ∙ (let u = h.0 in let v = h.1 in λ i. beq (u i) (v i)) ∙ sym (truth_of_iff a b m env))
      two)

  at_choice : (c a b : Formula) → P c → P a → P b → P (Formula.Ite c a b)
  at_choice c a b pc pa pb scope big ext range e =
      let p = and_parts (is_well_sorted c sig scope) (is_well_sorted a sig scope && is_well_sorted b sig scope) (sym (ap (λ (k : Sorted). k sig scope) (fold_at_ite Sorted Sort sorted_step sort_step c a b)) ∙ e) in
      let q = and_parts (is_well_sorted a sig scope) (is_well_sorted b sig scope) p.1 in
      let three = pair Formula (Formula × Formula) GoodFormula (SaysFormula c) (GoodBoth GoodFormula GoodFormula) (SaysBoth (SaysFormula a) (SaysFormula b)) big scope (L c) (both (L a) (L b)) ext mono_formula (pc scope big ext range p.0) (λ more ext' same.
      pair Formula Formula GoodFormula (SaysFormula a) GoodFormula (SaysFormula b) more scope (L a) (L b) ext' mono_formula (pa scope more ext' (range_along big more scope same range) q.0) (λ further ext'' same'. pb scope further ext'' (range_along more further scope same' (range_along big more scope same range)) q.1)) in
      along (Formula.Ite c a b) (mapped (λ x. Formula.Ite x.0 x.1.0 x.1.1) (both (L c) (both (L a) (L b)))) scope big (fold_at_ite F TermLifter lift_formula_step (lift_term_step sig) c a b)
      (lifts_mapped (Formula × (Formula × Formula)) Formula (GoodBoth GoodFormula (GoodBoth GoodFormula GoodFormula)) (SaysBoth (SaysFormula c) (SaysBoth (SaysFormula a) (SaysFormula b))) GoodFormula (SaysFormula (Formula.Ite c a b)) big scope (λ x. Formula.Ite x.0 x.1.0 x.1.1) (both (L c) (both (L a) (L b))) (length big.ranks)
      (λ x g more h. (
        ap (λ (k : Sorted). k g scope) (fold_at_ite Sorted Sort sorted_step sort_step x.0 x.1.0 x.1.1) ∙ and_from (is_well_sorted x.0 g scope) (is_well_sorted x.1.0 g scope && is_well_sorted x.1.1 g scope) h.0.0 (and_from (is_well_sorted x.1.0 g scope) (is_well_sorted x.1.1 g scope) h.1.0.0 h.1.1.0),
        fold_at_ite Bool Bool formula_plain_step term_plain_step x.0 x.1.0 x.1.1 ∙ and_from (is_plain x.0) (is_plain x.1.0 && is_plain x.1.1) h.0.1 (and_from (is_plain x.1.0) (is_plain x.1.1) h.1.0.1 h.1.1.1),
      ))
      (λ x m env h. truth_of_ite x.0 x.1.0 x.1.1 m env ∙ (let u = h.0 in let v = h.1.0 in let w = h.1.1 in λ i. cond (u i) (v i) (w i)) ∙ sym (truth_of_ite c a b m env))
      three)

  at_quantifier : (all : Bool) (vars : List SortId) (body : Formula) → P body → P (Formula.Quant all vars body)
  at_quantifier all vars body pb scope big ext range e =
      let p = and_parts (list_all (λ (s : SortId). nat_lt s.0 sig.sorts) vars) (is_well_sorted body sig (scope ++ vars)) (sym (ap (λ (k : Sorted). k sig scope) (fold_at_quant Sorted Sort sorted_step sort_step all vars body)) ∙ e) in
      let vars_in : InRange big vars = range_along sig big vars ext.sorts p.0 in
      let inner = pb (scope ++ vars) big ext (all_both (λ (s : SortId). nat_lt s.0 big.sorts) scope vars range vars_in) p.1 in
      let r = L body (scope ++ vars) (length big.ranks) in
      along (Formula.Quant all vars body) (mapped (λ x. Formula.Quant all vars x) (under vars (L body))) scope big (fold_at_quant F TermLifter lift_formula_step (lift_term_step sig) all vars body)
      (record {
        good = (ap (λ (k : Sorted). k (with_ranks big r.ranks) scope) (fold_at_quant Sorted Sort sorted_step sort_step all vars r.made) ∙ and_from (list_all (λ (s : SortId). nat_lt s.0 big.sorts) vars) (is_well_sorted r.made (with_ranks big r.ranks) (scope ++ vars)) vars_in inner.good.0, fold_at_quant Bool Bool formula_plain_step term_plain_step all vars r.made ∙ inner.good.1);
        ready = inner.ready;
        sound = λ m holds env at. truth_of_quant all vars r.made m env ∙ block_same m all vars (λ ys. truth r.made m ys) (λ ys. truth body m ys) env (λ xs el. inner.sound m holds (env ++ xs) (elements_both m scope vars env xs at el)) ∙ sym (truth_of_quant all vars body m env);
        expands = inner.expands;
      })

  at_variable : (v : ℕ) → Q (Fterm.Var v)
  at_variable v scope big s ext range e =
      let got = sym (ap (λ (k : Sort). k sig scope) (fold_at_var Sorted Sort sorted_step sort_step v)) ∙ e in
      along_term (Fterm.Var v) s (record { lift = alone (Fterm.Var v); type = λ scope. type_of_variable (slice_get scope v) }) scope big (fold_at_var F TermLifter lift_formula_step (lift_term_step sig) v)
      (lifts_alone Fterm (GoodTerm s) (SaysTerm (Fterm.Var v)) big scope (length big.ranks) (Fterm.Var v) (ap (λ (k : Sort). k big scope) (fold_at_var Sorted Sort sorted_step sort_step v) ∙ got, fold_at_var Bool Bool formula_plain_step term_plain_step v) (λ m env at. refl), ap type_of_variable got)

  at_application : (f : SymId) (ts : List Fterm) → Each Q ts → Q (Fterm.App f ts)
  at_application f ts each scope big s ext range e =
      let parts = result_parts (map sort_of ts) (slice_get sig.ranks f.0) sig scope s (sym (ap (λ (k : Sort). k sig scope) (fold_at_app Sorted Sort sorted_step sort_step f ts)) ∙ e) in
      let args = lift_terms ts each parts.0.args scope big ext range parts.3 in
      along_term (Fterm.App f ts) s (record { lift = mapped (λ xs. Fterm.App f xs) (lift_all (lifts (map T ts))); type = λ scope. type_of_symbol (slice_get sig.ranks f.0) }) scope big (fold_at_app F TermLifter lift_formula_step (lift_term_step sig) f ts) (
        lifts_mapped (List Fterm) Fterm (GoodArguments parts.0.args) (SaysArguments ts) (GoodTerm s) (SaysTerm (Fterm.App f ts)) big scope (λ xs. Fterm.App f xs) (lift_all (lifts (map T ts))) (length big.ranks)
            (λ xs g more h. (ap (λ (k : Sort). k g scope) (fold_at_app Sorted Sort sorted_step sort_step f xs) ∙ result_from (map sort_of xs) (slice_get g.ranks f.0) g scope s parts.0 (more.ranks f.0 parts.0 (ext.ranks f.0 parts.0 parts.1)) parts.2 h.0, fold_at_app Bool Bool formula_plain_step term_plain_step f xs ∙ h.1))
            (λ xs m env h. value_of_app f xs m env ∙ ap (m.at f.0) h ∙ sym (value_of_app f ts m env))
            args,
        ap type_of_symbol parts.1 ∙ parts.2,
      )

  at_term_choice : (c : Formula) (a b : Fterm) → P c → Q a → Q b → Q (Fterm.Ite c a b)
  at_term_choice c a b pc qa qb scope big s ext range e =
      let o = when_some (is_well_sorted c sig scope && have_one_sort (sort_of a sig scope) (sort_of b sig scope)) (sort_of a sig scope) s (sym (ap (λ (k : Sort). k sig scope) (fold_at_term_ite Sorted Sort sorted_step sort_step c a b)) ∙ e) in
      let p = and_parts (is_well_sorted c sig scope) (have_one_sort (sort_of a sig scope) (sort_of b sig scope)) o.0 in
      let q = one_sort_parts (sort_of a sig scope) (sort_of b sig scope) p.1 in
      let same_s : q.0 ≡ s = cc (sym q.1 ∙ o.1) in
      let type_is : (T a).type scope ≡ Ty.Of s = (qa scope big s ext range o.1).1 in
      let three = pair Formula (Fterm × Fterm) GoodFormula (SaysFormula c) (GoodBoth (GoodTerm s) (GoodTerm s)) (SaysBoth (SaysTerm a) (SaysTerm b)) big scope (L c) (both (T a).lift (T b).lift) ext mono_formula (pc scope big ext range p.0) (λ more ext' same.
      pair Fterm Fterm (GoodTerm s) (SaysTerm a) (GoodTerm s) (SaysTerm b) more scope (T a).lift (T b).lift ext' (mono_term s) (qa scope more s ext' (range_along big more scope same range) o.1).0 (λ further ext'' same'. (qb scope further s ext'' (range_along more further scope same' (range_along big more scope same range)) (q.2 ∙ ap Some same_s)).0)) in
      along_term (Fterm.Ite c a b) s (record { lift = lift_choice (both (L c) (both (T a).lift (T b).lift)) (T a).type; type = (T a).type }) scope big (fold_at_term_ite F TermLifter lift_formula_step (lift_term_step sig) c a b)
      (lifts_choice big scope (both (L c) (both (T a).lift (T b).lift)) (T a).type s c a b range type_is three, type_is)

  cases : Cases P Q
  cases = record { constant = at_constant; predicate = at_predicate; equation = at_equation; negation = at_negation; conjunction = at_conjunction; disjunction = at_disjunction; equivalence = at_equivalence; choice = at_choice; quantifier = at_quantifier; variable = at_variable; application = at_application; term_choice = at_term_choice }

  pub lifts_formula : (f : Formula) → P f
  lifts_formula = formula_induction P Q cases

-- nothing is in scope, and the new symbols come after those of the signature and the further ones
lifted_to : (sig : Sig) (more : List Rank) (f : Formula) → is_closed f sig ≡ true → LiftsTo Formula GoodFormula (SaysFormula f) (with_ranks sig more) [] (lifted sig f (length (with_ranks sig more).ranks))
lifted_to sig more f closed = lifts_formula sig f [] (with_ranks sig more) (grow_extends sig more) refl closed

pub lifting_ready : LiftingIsReady
lifting_ready sig more f closed = let x = lifted_to sig more f closed in (x.good.0, x.good.1, x.ready)

pub lifting : LiftingSaysTheSame
lifting sig more f m closed is =
    let big = with_ranks sig more in
    let x = lifted_to sig more f closed in
    let local = (coincides big f [] ((coincides sig f [] closed).grows big (grow_extends sig more))).local in (
      (λ h.
          let d = x.expands m.size m.at is in
          record {
            expansion = record { at = d.at; agrees = d.agrees; fits = d.fits };
            holds = x.sound (with_symbols m.size d.at) d.holds [] tt ∙ local m.size m.at d.at [] d.agrees ∙ h;
            defined = d.holds;
          }),
      λ e. sym (local m.size m.at e.expansion.at [] e.expansion.agrees) ∙ sym (x.sound (with_symbols m.size e.expansion.at) e.defined [] tt) ∙ e.holds,
    )
