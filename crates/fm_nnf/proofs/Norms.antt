-- The normal form of a well sorted formula without term `ite` says the same.
use Rattle.std.proofs.Common.{◌≡◌, ℕ, zero, suc, ◌+◌, ◌<◌, ◌≤◌, ◌==◌, Bool, true, false, ◌&&◌, ◌||◌, not, cond, List, [], ◌∷◌, ◌++◌, length, map, Some, ap, refl, sym, subst, ◌∙◌, arith, length-append}
use Rattle.std.specs.Prelude.{slice_get, slice_index, nat_lt, get_or}
use Rattle.std.specs.List.{list_all}
use mathlib.Core.Bool.{beq}
use Rattle.std.proofs.lemmas.Bool.{and_parts, and_from, lt-ltb, false≢true}
use Rattle.fm_base.specs.Interpretations.{Reading}
use Rattle.fm_base.specs.Truth.{Truth, Sorted, Sort, truth, value as fvalue, values, all_true, some_true, block, is_well_sorted, sort_of, are_arguments, is_of_sort, all_sorted, sorted_step, sort_step}
use Rattle.fm_base.specs.declared.ids.SortId.{SortId}
use Rattle.fm_base.specs.declared.ids.SymId.{SymId}
use Rattle.fm_base.specs.declared.signature.Sig.{Sig}
use Rattle.fm_base.specs.declared.signature.Ty.{Ty}
use Rattle.fm_base.specs.declared.formula.Formula
use Rattle.fm_base.specs.declared.formula.Formula.{Formula}
use Rattle.fm_base.specs.declared.formula.Fterm
use Rattle.fm_base.specs.declared.formula.Fterm.{Fterm}
use Rattle.fm_base.specs.declared.formula.Patom.{Patom}
use Rattle.fm_base.specs.declared.formula.Pterm.{Pterm}
use Rattle.fm_base.proofs.Constructors.{truth_of_truth, truth_of_pred, truth_of_equal, truth_of_not, truth_of_and, truth_of_or, truth_of_iff, truth_of_ite, truth_of_quant, value_of_var, value_of_app}
use Rattle.fm_base.specs.Normal.{value, signed}
use Rattle.fm_base.specs.Expansions.{with_symbols}
use Rattle.fm_nnf.specs.NormalTruth.{is_term_below, all_of}
use Rattle.fm_nnf.specs.Plain.{is_plain, is_plain_term, all_plain, formula_plain_step, term_plain_step}
use Rattle.fm_nnf.specs.NormalForm.{Former, Signed, formed_and, formed_or, formed_junction, formed_literal, formed_quantifier, with_sign, terms_at, form_step, term_form_step, normal_form, normal_term, normal}
use Rattle.fm_nnf.specs.NormalLaw.{IsPlainOver, NormalFormIsWithin, NormalFormSaysTheSame}
use Rattle.fm_base.proofs.NormalTerms.{Each, value_of_app as pvalue_of_app}
use Rattle.fm_nnf.proofs.Normals.{below_of_app, below_of_var}
use Rattle.fm_nnf.proofs.Sorting.{get_below, of_sort_parts, one_sort_parts, predicate_parts, result_parts}
use Rattle.fm_nnf.proofs.Coincidence.{coincides}
use Rattle.fm_nnf.proofs.Formulas.{Cases, formula_induction, fold_at_truth, fold_at_pred, fold_at_equal, fold_at_not, fold_at_and, fold_at_or, fold_at_iff, fold_at_ite, fold_at_quant, fold_at_var, fold_at_app, fold_at_term_ite}
use Rattle.fm_nnf.proofs.Locals.{Local, agree_less, local_some_true}
use Rattle.fm_nnf.proofs.Forming.{all_values, Forms, FormsTo, AllForms}
use Rattle.fm_nnf.proofs.Skolems.{forms_and, forms_or, forms_same, forms_each, forms_some, forms_literal, not_every, not_some}
use Rattle.fm_base.specs.declared.formula.Nnf.{Nnf}
use Rattle.fm_base.specs.declared.formula.Formula.TheOpen.{Formula-F}

abbrev T : Bool → Formula → Truth
T positive f m env = signed positive (truth f m env)

index_values : (terms : List Pterm) (v : ℕ) (m : Reading) (env : List ℕ) → v < length terms → value (get_or terms v (Pterm.Var zero)) m env ≡ slice_index (all_values terms m env) v
index_values [] v m env lt = absurd (omega arith)
index_values (t ∷ ts) zero m env lt = refl
index_values (t ∷ ts) (suc v) m env lt = index_values ts v m env (omega arith)

index_below : (n : ℕ) (terms : List Pterm) (v : ℕ) → all_of (map (is_term_below n) terms) ≡ true → is_term_below n (get_or terms v (Pterm.Var zero)) ≡ true
index_below n [] v e = below_of_var n zero
index_below n (t ∷ ts) zero e = (and_parts (is_term_below n t) (all_of (map (is_term_below n) ts)) e).0
index_below n (t ∷ ts) (suc v) e = index_below n ts v (and_parts (is_term_below n t) (all_of (map (is_term_below n) ts)) e).1

-- truth of lists under a sign
all_positive : (fs : List Formula) (m : Reading) (env : List ℕ) → all_true (map truth fs) m env ≡ all_true (map (T true) fs) m env
all_positive [] m env = refl
all_positive (f ∷ fs) m env = ap (λ (b : Bool). truth f m env && b) (all_positive fs m env)

some_positive : (fs : List Formula) (m : Reading) (env : List ℕ) → some_true (map truth fs) m env ≡ some_true (map (T true) fs) m env
some_positive [] m env = refl
some_positive (f ∷ fs) m env = ap (λ (b : Bool). truth f m env || b) (some_positive fs m env)

not_and : (a b : Bool) → not (a && b) ≡ (not a || not b)
not_and true b = refl
not_and false b = refl

not_or : (a b : Bool) → not (a || b) ≡ (not a && not b)
not_or true b = refl
not_or false b = refl

all_negative : (fs : List Formula) (m : Reading) (env : List ℕ) → not (all_true (map truth fs) m env) ≡ some_true (map (T false) fs) m env
all_negative [] m env = refl
all_negative (f ∷ fs) m env = not_and (truth f m env) (all_true (map truth fs) m env) ∙ ap (λ (b : Bool). not (truth f m env) || b) (all_negative fs m env)

some_negative : (fs : List Formula) (m : Reading) (env : List ℕ) → not (some_true (map truth fs) m env) ≡ all_true (map (T false) fs) m env
some_negative [] m env = refl
some_negative (f ∷ fs) m env = not_or (truth f m env) (some_true (map truth fs) m env) ∙ ap (λ (b : Bool). not (truth f m env) && b) (some_negative fs m env)

sign_not : (positive a : Bool) → signed positive (not a) ≡ signed (not positive) a
sign_not true a = refl
sign_not false true = refl
sign_not false false = refl

sign_iff : (positive a b : Bool) → signed positive (beq a b) ≡ ((signed (not positive) a || (b || false)) && ((signed positive a || (not b || false)) && true))
sign_iff true true true = refl
sign_iff true true false = refl
sign_iff true false true = refl
sign_iff true false false = refl
sign_iff false true true = refl
sign_iff false true false = refl
sign_iff false false true = refl
sign_iff false false false = refl

sign_ite : (positive c a b : Bool) → signed positive (cond c a b) ≡ ((not c || (signed positive a || false)) && ((c || (signed positive b || false)) && true))
sign_ite true true true b = refl
sign_ite true true false b = refl
sign_ite true false a true = refl
sign_ite true false a false = refl
sign_ite false true true b = refl
sign_ite false true false b = refl
sign_ite false false a true = refl
sign_ite false false a false = refl

sign_quantifier : (all positive : Bool) (m : Reading) (vars : List SortId) (p : List ℕ → Bool) (env : List ℕ) → signed positive (block m all vars p env) ≡ block m (beq all positive) vars (λ e. signed positive (p e)) env
sign_quantifier true true m vars p env = refl
sign_quantifier false true m vars p env = refl
sign_quantifier true false m vars p env = sym (not_every m vars p env)
sign_quantifier false false m vars p env = sym (not_some m vars p env)

module _ (sig : Sig) where
  abbrev bound : ℕ
  bound = length sig.ranks

  abbrev sorts : ℕ
  sorts = sig.sorts

  abbrev P : Formula → Type 0
  P f = (scope : List SortId) → is_well_sorted f sig scope ≡ true → is_plain f ≡ true → (positive : Bool) → Forms sorts bound (length scope) (normal_form f positive) (T positive f)

  record TermForms (t : Fterm) (terms : List Pterm) : Type 0 where
    same : (m : Reading) (env : List ℕ) → value (normal_term t terms) m env ≡ fvalue t m (all_values terms m env)
    below : (n : ℕ) → bound ≤ n → all_of (map (is_term_below n) terms) ≡ true → is_term_below n (normal_term t terms) ≡ true

  abbrev Q : Fterm → Type 0
  Q t = (scope : List SortId) (s : SortId) → sort_of t sig scope ≡ Some s → is_plain_term t ≡ true → (terms : List Pterm) → length terms ≡ length scope → TermForms t terms

  record ArgumentForms (ts : List Fterm) (terms : List Pterm) : Type 0 where
    same : (m : Reading) (env : List ℕ) → all_values (terms_at (map normal_term ts) terms) m env ≡ values (map fvalue ts) m (all_values terms m env)
    below : (n : ℕ) → bound ≤ n → all_of (map (is_term_below n) terms) ≡ true → all_of (map (is_term_below n) (terms_at (map normal_term ts) terms)) ≡ true

  arguments : (ts : List Fterm) → Each Q ts → (types : List Ty) (scope : List SortId) → are_arguments (map sort_of ts) types sig scope ≡ true → all_plain (map is_plain_term ts) ≡ true → (terms : List Pterm) → length terms ≡ length scope → ArgumentForms ts terms
  arguments [] each types scope e plain terms long = record { same = λ m env. refl; below = λ n le h. refl }
  arguments (t ∷ ts) each [] scope e plain terms long = absurd (false≢true e)
  arguments (t ∷ ts) each (u ∷ us) scope e plain terms long =
      let p = and_parts (is_of_sort (sort_of t sig scope) u) (are_arguments (map sort_of ts) us sig scope) e in
      let q = of_sort_parts (sort_of t sig scope) u p.0 in
      let r = and_parts (is_plain_term t) (all_plain (map is_plain_term ts)) plain in
      let x = each.0 scope q.0 q.1 r.0 terms long in
      let xs = arguments ts each.1 us scope p.1 r.1 terms long in
      record {
        same = λ m env. (let a = x.same m env in let b = xs.same m env in λ i. a i ∷ b i);
        below = λ n le h. and_from (is_term_below n (normal_term t terms)) (all_of (map (is_term_below n) (terms_at (map normal_term ts) terms))) (x.below n le h) (xs.below n le h);
      }

  local : (f : Formula) (scope : List SortId) → is_well_sorted f sig scope ≡ true → (positive : Bool) → Local bound (T positive f)
  local f scope e positive size a b env agree = ap (signed positive) ((coincides sig f scope e).local size a b env agree)

  along : (f : Formula) (positive : Bool) (k : Former Nnf) (t : Truth) (depth : ℕ) → normal_form f positive ≡ k → ((m : Reading) (env : List ℕ) → T positive f m env ≡ t m env) → Forms sorts bound depth k t → Forms sorts bound depth (normal_form f positive) (T positive f)
  along f positive k t depth e same h = subst (λ (j : Former Nnf). Forms sorts bound depth j (T positive f)) (sym e) (forms_same sorts bound depth k t (T positive f) same h)

  abbrev A : Type 0
  A = Signed

  abbrev B : Type 0
  B = List Pterm → Pterm

  at : (f : Formula) (y : Formula-F A B) (positive : Bool) → normal_form f ≡ form_step y → normal_form f positive ≡ form_step y positive
  at f y positive e = ap (λ (k : Signed). k positive) e

  at_constant : (b : Bool) → P (Formula.Truth b)
  at_constant b scope e plain positive =
      along (Formula.Truth b) positive (formed_junction (beq b positive) []) (λ m env. signed positive b) (length scope) (at (Formula.Truth b) (Formula-F.Truth b) positive (fold_at_truth A B form_step term_form_step b)) (λ m env. ap (signed positive) (truth_of_truth b m env)) (constant b positive)
    where
      constant : (b positive : Bool) → Forms sorts bound (length scope) (formed_junction (beq b positive) []) (λ m env. signed positive b)
      constant true true = forms_and sorts bound (length scope) [] [] tt
      constant true false = forms_or sorts bound (length scope) [] [] tt
      constant false true = forms_or sorts bound (length scope) [] [] tt
      constant false false = forms_and sorts bound (length scope) [] [] tt

  at_predicate : (p : SymId) (ts : List Fterm) → Each Q ts → P (Formula.Pred p ts)
  at_predicate p ts each scope e plain positive =
      let parts = predicate_parts (map sort_of ts) (slice_get sig.ranks p.0) sig scope (sym (ap (λ (k : Sorted). k sig scope) (fold_at_pred Sorted Sort sorted_step sort_step p ts)) ∙ e) in
      let plains = sym (fold_at_pred Bool Bool formula_plain_step term_plain_step p ts) ∙ plain in
      let args = arguments ts each parts.0.args scope parts.3 plains in
      along (Formula.Pred p ts) positive (formed_literal positive (λ terms. Patom.Pred p (terms_at (map normal_term ts) terms))) (T positive (Formula.Pred p ts)) (length scope) (at (Formula.Pred p ts) (Formula-F.Pred p (map normal_term ts)) positive (fold_at_pred A B form_step term_form_step p ts)) (λ m env. refl)
      (forms_literal sorts bound (length scope) positive (λ terms. Patom.Pred p (terms_at (map normal_term ts) terms)) (truth (Formula.Pred p ts))
      (λ terms long m env. ap (λ (xs : List ℕ). m.at p.0 xs == 1) ((args terms long).same m env) ∙ sym (truth_of_pred p ts m (all_values terms m env)))
      (λ terms n le long h. (let lt = get_below sig.ranks p.0 parts.0 parts.1 in and_from (nat_lt p.0 n) (all_of (map (is_term_below n) (terms_at (map normal_term ts) terms))) (lt-ltb p.0 n (omega (arith, lt, le))) ((args terms long).below n le h)))
      (coincides sig (Formula.Pred p ts) scope e).local)

  at_equation : (a b : Fterm) → Q a → Q b → P (Formula.Equal a b)
  at_equation a b qa qb scope e plain positive =
      let parts = one_sort_parts (sort_of a sig scope) (sort_of b sig scope) (sym (ap (λ (k : Sorted). k sig scope) (fold_at_equal Sorted Sort sorted_step sort_step a b)) ∙ e) in
      let plains = and_parts (is_plain_term a) (is_plain_term b) (sym (fold_at_equal Bool Bool formula_plain_step term_plain_step a b) ∙ plain) in
      let x = qa scope parts.0 parts.1 plains.0 in
      let y = qb scope parts.0 parts.2 plains.1 in
      along (Formula.Equal a b) positive (formed_literal positive (λ terms. Patom.Equal (normal_term a terms) (normal_term b terms))) (T positive (Formula.Equal a b)) (length scope) (at (Formula.Equal a b) (Formula-F.Equal (normal_term a) (normal_term b)) positive (fold_at_equal A B form_step term_form_step a b)) (λ m env. refl)
      (forms_literal sorts bound (length scope) positive (λ terms. Patom.Equal (normal_term a terms) (normal_term b terms)) (truth (Formula.Equal a b))
      (λ terms long m env. (let u = (x terms long).same m env in let v = (y terms long).same m env in λ i. u i == v i) ∙ sym (truth_of_equal a b m (all_values terms m env)))
      (λ terms n le long h. and_from (is_term_below n (normal_term a terms)) (is_term_below n (normal_term b terms)) ((x terms long).below n le h) ((y terms long).below n le h))
      (coincides sig (Formula.Equal a b) scope e).local)

  at_negation : (a : Formula) → P a → P (Formula.Not a)
  at_negation a pa scope e plain positive =
      let sorted = sym (ap (λ (k : Sorted). k sig scope) (fold_at_not Sorted Sort sorted_step sort_step a)) ∙ e in
      let plains = sym (fold_at_not Bool Bool formula_plain_step term_plain_step a) ∙ plain in
      along (Formula.Not a) positive (normal_form a (not positive)) (T (not positive) a) (length scope) (at (Formula.Not a) (Formula-F.Not (normal_form a)) positive (fold_at_not A B form_step term_form_step a)) (λ m env. ap (signed positive) (truth_of_not a m env) ∙ sign_not positive (truth a m env)) (pa scope sorted plains (not positive))

  lists : (fs : List Formula) → Each P fs → (scope : List SortId) → all_sorted (map is_well_sorted fs) sig scope ≡ true → all_plain (map is_plain fs) ≡ true → (positive : Bool) → AllForms sorts bound (length scope) (with_sign positive (map normal_form fs)) (map (T positive) fs)
  lists [] each scope e plain positive = tt
  lists (f ∷ fs) each scope e plain positive =
      let p = and_parts (is_well_sorted f sig scope) (all_sorted (map is_well_sorted fs) sig scope) e in
      let q = and_parts (is_plain f) (all_plain (map is_plain fs)) plain in
      ((each.0 scope p.0 q.0 positive, local f scope p.0 positive), lists fs each.1 scope p.1 q.1 positive)

  at_conjunction : (fs : List Formula) → Each P fs → P (Formula.And fs)
  at_conjunction fs each scope e plain true =
      let l = lists fs each scope (sym (ap (λ (k : Sorted). k sig scope) (fold_at_and Sorted Sort sorted_step sort_step fs)) ∙ e) (sym (fold_at_and Bool Bool formula_plain_step term_plain_step fs) ∙ plain) true in
      along (Formula.And fs) true (formed_and (with_sign true (map normal_form fs))) (all_true (map (T true) fs)) (length scope) (at (Formula.And fs) (Formula-F.And (map normal_form fs)) true (fold_at_and A B form_step term_form_step fs)) (λ m env. truth_of_and fs m env ∙ all_positive fs m env) (forms_and sorts bound (length scope) (with_sign true (map normal_form fs)) (map (T true) fs) l)
  at_conjunction fs each scope e plain false =
      let l = lists fs each scope (sym (ap (λ (k : Sorted). k sig scope) (fold_at_and Sorted Sort sorted_step sort_step fs)) ∙ e) (sym (fold_at_and Bool Bool formula_plain_step term_plain_step fs) ∙ plain) false in
      along (Formula.And fs) false (formed_or (with_sign false (map normal_form fs))) (some_true (map (T false) fs)) (length scope) (at (Formula.And fs) (Formula-F.And (map normal_form fs)) false (fold_at_and A B form_step term_form_step fs)) (λ m env. ap not (truth_of_and fs m env) ∙ all_negative fs m env) (forms_or sorts bound (length scope) (with_sign false (map normal_form fs)) (map (T false) fs) l)

  at_disjunction : (fs : List Formula) → Each P fs → P (Formula.Or fs)
  at_disjunction fs each scope e plain true =
      let l = lists fs each scope (sym (ap (λ (k : Sorted). k sig scope) (fold_at_or Sorted Sort sorted_step sort_step fs)) ∙ e) (sym (fold_at_or Bool Bool formula_plain_step term_plain_step fs) ∙ plain) true in
      along (Formula.Or fs) true (formed_or (with_sign true (map normal_form fs))) (some_true (map (T true) fs)) (length scope) (at (Formula.Or fs) (Formula-F.Or (map normal_form fs)) true (fold_at_or A B form_step term_form_step fs)) (λ m env. truth_of_or fs m env ∙ some_positive fs m env) (forms_or sorts bound (length scope) (with_sign true (map normal_form fs)) (map (T true) fs) l)
  at_disjunction fs each scope e plain false =
      let l = lists fs each scope (sym (ap (λ (k : Sorted). k sig scope) (fold_at_or Sorted Sort sorted_step sort_step fs)) ∙ e) (sym (fold_at_or Bool Bool formula_plain_step term_plain_step fs) ∙ plain) false in
      along (Formula.Or fs) false (formed_and (with_sign false (map normal_form fs))) (all_true (map (T false) fs)) (length scope) (at (Formula.Or fs) (Formula-F.Or (map normal_form fs)) false (fold_at_or A B form_step term_form_step fs)) (λ m env. ap not (truth_of_or fs m env) ∙ some_negative fs m env) (forms_and sorts bound (length scope) (with_sign false (map normal_form fs)) (map (T false) fs) l)

  -- And[Or[a, b], Or[c, d]]
  two_clauses : (depth : ℕ) (a b c d : Former Nnf) (s t u v : Truth) → Forms sorts bound depth a s → Forms sorts bound depth b t → Forms sorts bound depth c u → Forms sorts bound depth d v → Local bound s → Local bound t → Local bound u → Local bound v
      → Forms sorts bound depth (formed_and (formed_or (a ∷ b ∷ []) ∷ formed_or (c ∷ d ∷ []) ∷ [])) (all_true (some_true (s ∷ t ∷ []) ∷ some_true (u ∷ v ∷ []) ∷ []))
  two_clauses depth a b c d s t u v fa fb fc fd ls lt lu lv =
      forms_and sorts bound depth (formed_or (a ∷ b ∷ []) ∷ formed_or (c ∷ d ∷ []) ∷ []) (some_true (s ∷ t ∷ []) ∷ some_true (u ∷ v ∷ []) ∷ [])
      ((forms_or sorts bound depth (a ∷ b ∷ []) (s ∷ t ∷ []) ((fa, ls), ((fb, lt), tt)), local_some_true bound (s ∷ t ∷ []) (ls, (lt, tt))), ((forms_or sorts bound depth (c ∷ d ∷ []) (u ∷ v ∷ []) ((fc, lu), ((fd, lv), tt)), local_some_true bound (u ∷ v ∷ []) (lu, (lv, tt))), tt))

  at_equivalence : (a b : Formula) → P a → P b → P (Formula.Iff a b)
  at_equivalence a b pa pb scope e plain positive =
      let p = and_parts (is_well_sorted a sig scope) (is_well_sorted b sig scope) (sym (ap (λ (k : Sorted). k sig scope) (fold_at_iff Sorted Sort sorted_step sort_step a b)) ∙ e) in
      let q = and_parts (is_plain a) (is_plain b) (sym (fold_at_iff Bool Bool formula_plain_step term_plain_step a b) ∙ plain) in
      let x = pa scope p.0 q.0 in
      let y = pb scope p.1 q.1 in
      let la = local a scope p.0 in
      let lb = local b scope p.1 in
      along (Formula.Iff a b) positive (formed_and (formed_or (normal_form a (not positive) ∷ normal_form b true ∷ []) ∷ formed_or (normal_form a positive ∷ normal_form b false ∷ []) ∷ []))
      (all_true (some_true (T (not positive) a ∷ T true b ∷ []) ∷ some_true (T positive a ∷ T false b ∷ []) ∷ [])) (length scope) (at (Formula.Iff a b) (Formula-F.Iff (normal_form a) (normal_form b)) positive (fold_at_iff A B form_step term_form_step a b))
      (λ m env. ap (signed positive) (truth_of_iff a b m env) ∙ sign_iff positive (truth a m env) (truth b m env))
      (two_clauses (length scope) (normal_form a (not positive)) (normal_form b true) (normal_form a positive) (normal_form b false) (T (not positive) a) (T true b) (T positive a) (T false b) (x (not positive)) (y true) (x positive) (y false) (la (not positive)) (lb true) (la positive) (lb false))

  at_choice : (c a b : Formula) → P c → P a → P b → P (Formula.Ite c a b)
  at_choice c a b pc pa pb scope e plain positive =
      let p = and_parts (is_well_sorted c sig scope) (is_well_sorted a sig scope && is_well_sorted b sig scope) (sym (ap (λ (k : Sorted). k sig scope) (fold_at_ite Sorted Sort sorted_step sort_step c a b)) ∙ e) in
      let r = and_parts (is_well_sorted a sig scope) (is_well_sorted b sig scope) p.1 in
      let q = and_parts (is_plain c) (is_plain a && is_plain b) (sym (fold_at_ite Bool Bool formula_plain_step term_plain_step c a b) ∙ plain) in
      let s = and_parts (is_plain a) (is_plain b) q.1 in
      along (Formula.Ite c a b) positive (formed_and (formed_or (normal_form c false ∷ normal_form a positive ∷ []) ∷ formed_or (normal_form c true ∷ normal_form b positive ∷ []) ∷ []))
      (all_true (some_true (T false c ∷ T positive a ∷ []) ∷ some_true (T true c ∷ T positive b ∷ []) ∷ [])) (length scope) (at (Formula.Ite c a b) (Formula-F.«Formula::Ite» (normal_form c) (normal_form a) (normal_form b)) positive (fold_at_ite A B form_step term_form_step c a b))
      (λ m env. ap (signed positive) (truth_of_ite c a b m env) ∙ sign_ite positive (truth c m env) (truth a m env) (truth b m env))
      (two_clauses (length scope) (normal_form c false) (normal_form a positive) (normal_form c true) (normal_form b positive) (T false c) (T positive a) (T true c) (T positive b) (pc scope p.0 q.0 false) (pa scope r.0 s.0 positive) (pc scope p.0 q.0 true) (pb scope r.1 s.1 positive) (local c scope p.0 false) (local a scope r.0 positive) (local c scope p.0 true) (local b scope r.1 positive))

  quantified_forms : (universal : Bool) (depth : ℕ) (vars : List SortId) (k : Former Nnf) (t : Truth) → list_all (λ (s : SortId). nat_lt s.0 sorts) vars ≡ true → Local bound t → Forms sorts bound (depth + length vars) k t → Forms sorts bound depth (formed_quantifier universal vars k) (λ m env. block m universal vars (λ inner. t m inner) env)
  quantified_forms true depth vars k t range l h = forms_each sorts bound depth vars k t range h
  quantified_forms false depth vars k t range l h = forms_some sorts bound depth vars k t range l h

  at_quantifier : (all : Bool) (vars : List SortId) (body : Formula) → P body → P (Formula.Quant all vars body)
  at_quantifier all vars body pb scope e plain positive =
      let p = and_parts (list_all (λ (s : SortId). nat_lt s.0 sig.sorts) vars) (is_well_sorted body sig (scope ++ vars)) (sym (ap (λ (k : Sorted). k sig scope) (fold_at_quant Sorted Sort sorted_step sort_step all vars body)) ∙ e) in
      let plains = sym (fold_at_quant Bool Bool formula_plain_step term_plain_step all vars body) ∙ plain in
      let inner = subst (λ (n : ℕ). Forms sorts bound n (normal_form body positive) (T positive body)) (length-append scope vars) (pb (scope ++ vars) p.1 plains positive) in
      along (Formula.Quant all vars body) positive (formed_quantifier (beq all positive) vars (normal_form body positive)) (λ m env. block m (beq all positive) vars (λ e. T positive body m e) env) (length scope) (at (Formula.Quant all vars body) (Formula-F.Quant all vars (normal_form body)) positive (fold_at_quant A B form_step term_form_step all vars body))
      (λ m env. ap (signed positive) (truth_of_quant all vars body m env) ∙ sign_quantifier all positive m vars (λ e. truth body m e) env)
      (quantified_forms (beq all positive) (length scope) vars (normal_form body positive) (T positive body) p.0 (local body (scope ++ vars) p.1 positive) inner)

  at_variable : (v : ℕ) → Q (Fterm.Var v)
  at_variable v scope s e plain terms long =
      let got = sym (ap (λ (k : Sort). k sig scope) (fold_at_var Sorted Sort sorted_step sort_step v)) ∙ e in
      let lt = get_below scope v s got in
      let is = ap (λ (k : B). k terms) (fold_at_var A B form_step term_form_step v) in
      record {
        same = λ m env. ap (λ (t : Pterm). value t m env) is ∙ index_values terms v m env (omega (arith, lt, long)) ∙ sym (value_of_var v m (all_values terms m env));
        below = λ n le h. ap (is_term_below n) is ∙ index_below n terms v h;
      }

  mapped_values : (m : Reading) (env : List ℕ) (ts : List Pterm) → map (λ (t : Reading → List ℕ → ℕ). t m env) (map value ts) ≡ all_values ts m env
  mapped_values m env [] = refl
  mapped_values m env (t ∷ ts) = let rest = mapped_values m env ts in λ i. value t m env ∷ rest i

  at_application : (f : SymId) (ts : List Fterm) → Each Q ts → Q (Fterm.App f ts)
  at_application f ts each scope s e plain terms long =
      let parts = result_parts (map sort_of ts) (slice_get sig.ranks f.0) sig scope s (sym (ap (λ (k : Sort). k sig scope) (fold_at_app Sorted Sort sorted_step sort_step f ts)) ∙ e) in
      let plains = sym (fold_at_app Bool Bool formula_plain_step term_plain_step f ts) ∙ plain in
      let args = arguments ts each parts.0.args scope parts.3 plains terms long in
      let lt = get_below sig.ranks f.0 parts.0 parts.1 in
      let is = ap (λ (k : B). k terms) (fold_at_app A B form_step term_form_step f ts) in
      let inner = terms_at (map normal_term ts) terms in
      record {
        same = λ m env. ap (λ (t : Pterm). value t m env) is ∙ pvalue_of_app f inner m env ∙ ap (m.at f.0) (mapped_values m env inner ∙ args.same m env) ∙ sym (value_of_app f ts m (all_values terms m env));
        below = λ n le h. ap (is_term_below n) is ∙ below_of_app n f inner ∙ and_from (nat_lt f.0 n) (all_of (map (is_term_below n) inner)) (lt-ltb f.0 n (omega (arith, lt, le))) (args.below n le h);
      }

  at_term_choice : (c : Formula) (a b : Fterm) → P c → Q a → Q b → Q (Fterm.Ite c a b)
  at_term_choice c a b pc qa qb scope s e plain = absurd (false≢true (sym (fold_at_term_ite Bool Bool formula_plain_step term_plain_step c a b) ∙ plain))

  cases : Cases P Q
  cases = record { constant = at_constant; predicate = at_predicate; equation = at_equation; negation = at_negation; conjunction = at_conjunction; disjunction = at_disjunction; equivalence = at_equivalence; choice = at_choice; quantifier = at_quantifier; variable = at_variable; application = at_application; term_choice = at_term_choice }

  pub forms : (f : Formula) → P f
  forms = formula_induction P Q cases

-- nothing is in scope, and new symbols come after those of the signature
formed : (sig : Sig) (f : Formula) (next : ℕ) (over : IsPlainOver sig f next) → FormsTo sig.sorts (length sig.ranks) (T true f) [] [] next (normal f next)
formed sig f next over = forms sig f [] over.closed over.plain true [] [] next (record { old = over.after; long = refl; below = refl; stable = λ m env xs le. refl })

pub norm_within : NormalFormIsWithin
norm_within sig f next over = (formed sig f next over).within

pub norm : NormalFormSaysTheSame
norm sig f next m over is =
    let x = formed sig f next over in
    let local = (coincides sig f [] over.closed).local in (
      (λ h.
          let y = x.expands m.size is.inhabited m.at in
          record { expansion = record { at = y.at; agrees = y.agrees; fits = y.fits }; holds = y.holds [] tt h }),
      λ e.
          let agree = agree_less (length sig.ranks) next m.at e.expansion.at over.after e.expansion.agrees in
          sym (local m.size m.at e.expansion.at [] agree) ∙ x.sound (with_symbols m.size e.expansion.at) e.expansion.fits [] tt e.holds,
    )
