-- A well sorted formula reads the symbols of its signature alone, stays well sorted over a larger one, and a well sorted
-- term has a value of its sort.
use Rattle.std.proofs.Common.{◌≡◌, ℕ, ◌<◌, ◌==◌, Bool, true, ◌&&◌, ◌||◌, not, cond, List, [], ◌∷◌, ◌++◌, length, map, Some, None, ap, refl, sym, subst, ◌∙◌}
use Rattle.std.specs.Prelude.{slice_get, nat_lt}
use Rattle.std.specs.List.{list_all}
use mathlib.Core.Bool.{beq}
use Rattle.std.proofs.lemmas.Bool.{and_parts, and_from, lt-ltb, cond_both}
use Rattle.fm_base.specs.Interpretations.{Reading, IsInterpretation, is_tuple, values_of}
use Rattle.fm_base.specs.Models.{IsElements}
use Rattle.fm_base.specs.Truth.{Sorted, Sort, truth, value, values, all_true, some_true, block, is_of_sort, are_arguments, have_one_sort, all_sorted, is_well_sorted, sort_of, sorted_step, sort_step}
use Rattle.fm_base.specs.declared.ids.SortId.{SortId}
use Rattle.fm_base.specs.declared.ids.SymId.{SymId}
use Rattle.fm_base.specs.declared.signature.Rank.{Rank}
use Rattle.fm_base.specs.declared.signature.Sig.{Sig}
use Rattle.fm_base.specs.declared.signature.Ty.{Ty}
use Rattle.fm_base.specs.declared.formula.Formula
use Rattle.fm_base.specs.declared.formula.Formula.{Formula}
use Rattle.fm_base.specs.declared.formula.Fterm
use Rattle.fm_base.specs.declared.formula.Fterm.{Fterm}
use Rattle.fm_base.proofs.Constructors.{truth_of_truth, truth_of_pred, truth_of_equal, truth_of_not, truth_of_and, truth_of_or, truth_of_iff, truth_of_ite, truth_of_quant, value_of_var, value_of_app, value_of_ite}
use Rattle.fm_base.specs.Expansions.{Symbols, Agree, with_symbols}
use Rattle.fm_base.proofs.NormalTerms.{Each}
use Rattle.fm_nnf.proofs.Sorting.{get_below, of_sort_parts, of_sort_from, one_sort_parts, one_sort_from, when_some, predicate_parts, predicate_from, result_parts, result_from, element_at}
use Rattle.fm_nnf.proofs.Formulas.{Cases, formula_induction, fterm_induction, fold_at_truth, fold_at_pred, fold_at_equal, fold_at_not, fold_at_and, fold_at_or, fold_at_iff, fold_at_ite, fold_at_quant, fold_at_var, fold_at_app, fold_at_term_ite}

-- a signature with more symbols
pub record Extends (sig big : Sig) : Type 0 where
  pub sorts : big.sorts ≡ sig.sorts
  pub ranks : (f : ℕ) (r : Rank) → slice_get sig.ranks f ≡ Some r → slice_get big.ranks f ≡ Some r

pub record Coincides (sig : Sig) (f : Formula) (scope : List SortId) : Type 0 where
  pub local : (size : ℕ → ℕ) (a b : Symbols) (env : List ℕ) → Agree (length sig.ranks) a b → truth f (with_symbols size b) env ≡ truth f (with_symbols size a) env
  pub grows : (big : Sig) → Extends sig big → is_well_sorted f big scope ≡ true

pub record CoincidesTerm (sig : Sig) (t : Fterm) (scope : List SortId) (s : SortId) : Type 0 where
  pub local : (size : ℕ → ℕ) (a b : Symbols) (env : List ℕ) → Agree (length sig.ranks) a b → value t (with_symbols size b) env ≡ value t (with_symbols size a) env
  pub grows : (big : Sig) → Extends sig big → sort_of t big scope ≡ Some s
  pub within : (m : Reading) → IsInterpretation sig m → (env : List ℕ) → IsElements m scope env → value t m env < m.size s.0

pub record CoincideArguments (sig : Sig) (ts : List Fterm) (types : List Ty) (scope : List SortId) : Type 0 where
  pub local : (size : ℕ → ℕ) (a b : Symbols) (env : List ℕ) → Agree (length sig.ranks) a b → values (map value ts) (with_symbols size b) env ≡ values (map value ts) (with_symbols size a) env
  pub grows : (big : Sig) → Extends sig big → are_arguments (map sort_of ts) types big scope ≡ true
  pub within : (m : Reading) → IsInterpretation sig m → (env : List ℕ) → IsElements m scope env → is_tuple m types (values (map value ts) m env) ≡ true

module _ (sig : Sig) where
  abbrev P : Formula → Type 0
  P f = (scope : List SortId) → is_well_sorted f sig scope ≡ true → Coincides sig f scope

  abbrev Q : Fterm → Type 0
  Q t = (scope : List SortId) (s : SortId) → sort_of t sig scope ≡ Some s → CoincidesTerm sig t scope s

  pub arguments : (ts : List Fterm) → Each Q ts → (types : List Ty) (scope : List SortId) → are_arguments (map sort_of ts) types sig scope ≡ true → CoincideArguments sig ts types scope
  arguments [] each [] scope e = record { local = λ size a b env agree. refl; grows = λ big more. refl; within = λ m is env at. refl }
  arguments [] each (u ∷ us) scope e = cc
  arguments (t ∷ ts) each [] scope e = cc
  arguments (t ∷ ts) each (u ∷ us) scope e =
      let p = and_parts (is_of_sort (sort_of t sig scope) u) (are_arguments (map sort_of ts) us sig scope) e in
      let q = of_sort_parts (sort_of t sig scope) u p.0 in
      let head = each.0 scope q.0 q.1 in
      let tail = arguments ts each.1 us scope p.1 in
      record {
        local = λ size a b env agree. (let x = head.local size a b env agree in let xs = tail.local size a b env agree in λ i. x i ∷ xs i);
        grows = λ big more. (let x = head.grows big more in and_from (is_of_sort (sort_of t big scope) u) (are_arguments (map sort_of ts) us big scope) ((λ i. is_of_sort (x i) (q.2 i)) ∙ of_sort_from q.0) (tail.grows big more));
        within = λ m is env at.
            let small : value t m env < values_of m u = subst (λ (w : Ty). value t m env < values_of m w) (sym q.2) (head.within m is env at) in
            and_from (nat_lt (value t m env) (values_of m u)) (is_tuple m us (values (map value ts) m env)) (lt-ltb (value t m env) (values_of m u) small) (tail.within m is env at);
      }

  at_constant : (b : Bool) → P (Formula.Truth b)
  at_constant b scope e = record {
    local = λ size c d env agree. truth_of_truth b (with_symbols size d) env ∙ sym (truth_of_truth b (with_symbols size c) env);
    grows = λ big more. ap (λ (k : Sorted). k big scope) (fold_at_truth Sorted Sort sorted_step sort_step b);
  }

  at_predicate : (p : SymId) (ts : List Fterm) → Each Q ts → P (Formula.Pred p ts)
  at_predicate p ts each scope e =
      let parts = predicate_parts (map sort_of ts) (slice_get sig.ranks p.0) sig scope (sym (ap (λ (k : Sorted). k sig scope) (fold_at_pred Sorted Sort sorted_step sort_step p ts)) ∙ e) in
      let args = arguments ts each parts.0.args scope parts.3 in
      record {
        local = λ size a b env agree.
            truth_of_pred p ts (with_symbols size b) env ∙ ap (λ (xs : List ℕ). b p.0 xs == 1) (args.local size a b env agree) ∙ ap (λ (x : ℕ). x == 1) (agree p.0 (values (map value ts) (with_symbols size a) env) (get_below sig.ranks p.0 parts.0 parts.1)) ∙ sym (truth_of_pred p ts (with_symbols size a) env);
        grows = λ big more. ap (λ (k : Sorted). k big scope) (fold_at_pred Sorted Sort sorted_step sort_step p ts) ∙ predicate_from (map sort_of ts) (slice_get big.ranks p.0) big scope parts.0 (more.ranks p.0 parts.0 parts.1) parts.2 (args.grows big more);
      }

  at_equation : (a b : Fterm) → Q a → Q b → P (Formula.Equal a b)
  at_equation a b qa qb scope e =
      let parts = one_sort_parts (sort_of a sig scope) (sort_of b sig scope) (sym (ap (λ (k : Sorted). k sig scope) (fold_at_equal Sorted Sort sorted_step sort_step a b)) ∙ e) in
      let left = qa scope parts.0 parts.1 in
      let right = qb scope parts.0 parts.2 in
      record {
        local = λ size c d env agree. (let x = left.local size c d env agree in let y = right.local size c d env agree in truth_of_equal a b (with_symbols size d) env ∙ (λ i. x i == y i) ∙ sym (truth_of_equal a b (with_symbols size c) env));
        grows = λ big more. ap (λ (k : Sorted). k big scope) (fold_at_equal Sorted Sort sorted_step sort_step a b) ∙ one_sort_from (sort_of a big scope) (sort_of b big scope) parts.0 (left.grows big more) (right.grows big more);
      }

  at_negation : (a : Formula) → P a → P (Formula.Not a)
  at_negation a pa scope e =
      let x = pa scope (sym (ap (λ (k : Sorted). k sig scope) (fold_at_not Sorted Sort sorted_step sort_step a)) ∙ e) in
      record {
        local = λ size c d env agree. truth_of_not a (with_symbols size d) env ∙ ap not (x.local size c d env agree) ∙ sym (truth_of_not a (with_symbols size c) env);
        grows = λ big more. ap (λ (k : Sorted). k big scope) (fold_at_not Sorted Sort sorted_step sort_step a) ∙ x.grows big more;
      }

  pub record CoincideAll (fs : List Formula) (scope : List SortId) : Type 0 where
    pub conj : (size : ℕ → ℕ) (a b : Symbols) (env : List ℕ) → Agree (length sig.ranks) a b → all_true (map truth fs) (with_symbols size b) env ≡ all_true (map truth fs) (with_symbols size a) env
    pub disj : (size : ℕ → ℕ) (a b : Symbols) (env : List ℕ) → Agree (length sig.ranks) a b → some_true (map truth fs) (with_symbols size b) env ≡ some_true (map truth fs) (with_symbols size a) env
    pub grows : (big : Sig) → Extends sig big → all_sorted (map is_well_sorted fs) big scope ≡ true

  pub all_coincide : (fs : List Formula) → Each P fs → (scope : List SortId) → all_sorted (map is_well_sorted fs) sig scope ≡ true → CoincideAll fs scope
  all_coincide [] each scope e = record { conj = λ size a b env agree. refl; disj = λ size a b env agree. refl; grows = λ big more. refl }
  all_coincide (f ∷ fs) each scope e =
      let p = and_parts (is_well_sorted f sig scope) (all_sorted (map is_well_sorted fs) sig scope) e in
      let head = each.0 scope p.0 in
      let tail = all_coincide fs each.1 scope p.1 in
      record {
        conj = λ size a b env agree. (let x = head.local size a b env agree in let y = tail.conj size a b env agree in λ i. x i && y i);
        disj = λ size a b env agree. (let x = head.local size a b env agree in let y = tail.disj size a b env agree in λ i. x i || y i);
        grows = λ big more. and_from (is_well_sorted f big scope) (all_sorted (map is_well_sorted fs) big scope) (head.grows big more) (tail.grows big more);
      }

  at_conjunction : (fs : List Formula) → Each P fs → P (Formula.And fs)
  at_conjunction fs each scope e =
      let x = all_coincide fs each scope (sym (ap (λ (k : Sorted). k sig scope) (fold_at_and Sorted Sort sorted_step sort_step fs)) ∙ e) in
      record {
        local = λ size c d env agree. truth_of_and fs (with_symbols size d) env ∙ x.conj size c d env agree ∙ sym (truth_of_and fs (with_symbols size c) env);
        grows = λ big more. ap (λ (k : Sorted). k big scope) (fold_at_and Sorted Sort sorted_step sort_step fs) ∙ x.grows big more;
      }

  at_disjunction : (fs : List Formula) → Each P fs → P (Formula.Or fs)
  at_disjunction fs each scope e =
      let x = all_coincide fs each scope (sym (ap (λ (k : Sorted). k sig scope) (fold_at_or Sorted Sort sorted_step sort_step fs)) ∙ e) in
      record {
        local = λ size c d env agree. truth_of_or fs (with_symbols size d) env ∙ x.disj size c d env agree ∙ sym (truth_of_or fs (with_symbols size c) env);
        grows = λ big more. ap (λ (k : Sorted). k big scope) (fold_at_or Sorted Sort sorted_step sort_step fs) ∙ x.grows big more;
      }

  at_equivalence : (a b : Formula) → P a → P b → P (Formula.Iff a b)
  at_equivalence a b pa pb scope e =
      let p = and_parts (is_well_sorted a sig scope) (is_well_sorted b sig scope) (sym (ap (λ (k : Sorted). k sig scope) (fold_at_iff Sorted Sort sorted_step sort_step a b)) ∙ e) in
      let x = pa scope p.0 in
      let y = pb scope p.1 in
      record {
        local = λ size c d env agree. (let u = x.local size c d env agree in let v = y.local size c d env agree in truth_of_iff a b (with_symbols size d) env ∙ (λ i. beq (u i) (v i)) ∙ sym (truth_of_iff a b (with_symbols size c) env));
        grows = λ big more. ap (λ (k : Sorted). k big scope) (fold_at_iff Sorted Sort sorted_step sort_step a b) ∙ and_from (is_well_sorted a big scope) (is_well_sorted b big scope) (x.grows big more) (y.grows big more);
      }

  at_choice : (c a b : Formula) → P c → P a → P b → P (Formula.Ite c a b)
  at_choice c a b pc pa pb scope e =
      let p = and_parts (is_well_sorted c sig scope) (is_well_sorted a sig scope && is_well_sorted b sig scope) (sym (ap (λ (k : Sorted). k sig scope) (fold_at_ite Sorted Sort sorted_step sort_step c a b)) ∙ e) in
      let q = and_parts (is_well_sorted a sig scope) (is_well_sorted b sig scope) p.1 in
      let x = pc scope p.0 in
      let y = pa scope q.0 in
      let z = pb scope q.1 in
      record {
        local = λ size k d env agree. (let u = x.local size k d env agree in let v = y.local size k d env agree in let w = z.local size k d env agree in truth_of_ite c a b (with_symbols size d) env ∙ (λ i. cond (u i) (v i) (w i)) ∙ sym (truth_of_ite c a b (with_symbols size k) env));
        grows = λ big more. ap (λ (k : Sorted). k big scope) (fold_at_ite Sorted Sort sorted_step sort_step c a b) ∙ and_from (is_well_sorted c big scope) (is_well_sorted a big scope && is_well_sorted b big scope) (x.grows big more) (and_from (is_well_sorted a big scope) (is_well_sorted b big scope) (y.grows big more) (z.grows big more));
      }

  at_quantifier : (all : Bool) (vars : List SortId) (body : Formula) → P body → P (Formula.Quant all vars body)
  at_quantifier all vars body pb scope e =
      let p = and_parts (list_all (λ (s : SortId). nat_lt s.0 sig.sorts) vars) (is_well_sorted body sig (scope ++ vars)) (sym (ap (λ (k : Sorted). k sig scope) (fold_at_quant Sorted Sort sorted_step sort_step all vars body)) ∙ e) in
      let x = pb (scope ++ vars) p.1 in
      record {
        local = λ size c d env agree. truth_of_quant all vars body (with_symbols size d) env ∙ (λ i. block (with_symbols size c) all vars (λ inner. x.local size c d inner agree i) env) ∙ sym (truth_of_quant all vars body (with_symbols size c) env);
        grows = λ big more. ap (λ (k : Sorted). k big scope) (fold_at_quant Sorted Sort sorted_step sort_step all vars body) ∙ and_from (list_all (λ (s : SortId). nat_lt s.0 big.sorts) vars) (is_well_sorted body big (scope ++ vars)) (subst (λ (n : ℕ). list_all (λ (s : SortId). nat_lt s.0 n) vars ≡ true) (sym more.sorts) p.0) (x.grows big more);
      }

  at_variable : (v : ℕ) → Q (Fterm.Var v)
  at_variable v scope s e =
      let got = sym (ap (λ (k : Sort). k sig scope) (fold_at_var Sorted Sort sorted_step sort_step v)) ∙ e in
      record {
        local = λ size c d env agree. value_of_var v (with_symbols size d) env ∙ sym (value_of_var v (with_symbols size c) env);
        grows = λ big more. ap (λ (k : Sort). k big scope) (fold_at_var Sorted Sort sorted_step sort_step v) ∙ got;
        within = λ m is env at. subst (λ (x : ℕ). x < m.size s.0) (sym (value_of_var v m env)) (element_at m scope env v s at got);
      }

  at_application : (f : SymId) (ts : List Fterm) → Each Q ts → Q (Fterm.App f ts)
  at_application f ts each scope s e =
      let parts = result_parts (map sort_of ts) (slice_get sig.ranks f.0) sig scope s (sym (ap (λ (k : Sort). k sig scope) (fold_at_app Sorted Sort sorted_step sort_step f ts)) ∙ e) in
      let args = arguments ts each parts.0.args scope parts.3 in
      record {
        local = λ size a b env agree.
            value_of_app f ts (with_symbols size b) env ∙ ap (b f.0) (args.local size a b env agree) ∙ agree f.0 (values (map value ts) (with_symbols size a) env) (get_below sig.ranks f.0 parts.0 parts.1) ∙ sym (value_of_app f ts (with_symbols size a) env);
        grows = λ big more. ap (λ (k : Sort). k big scope) (fold_at_app Sorted Sort sorted_step sort_step f ts) ∙ result_from (map sort_of ts) (slice_get big.ranks f.0) big scope s parts.0 (more.ranks f.0 parts.0 parts.1) parts.2 (args.grows big more);
        within = λ m is env at.
            let small = is.closed f.0 parts.0 (values (map value ts) m env) parts.1 (args.within m is env at) in
            subst (λ (x : ℕ). x < m.size s.0) (sym (value_of_app f ts m env)) (subst (λ (u : Ty). m.at f.0 (values (map value ts) m env) < values_of m u) parts.2 small);
      }

  at_term_choice : (c : Formula) (a b : Fterm) → P c → Q a → Q b → Q (Fterm.Ite c a b)
  at_term_choice c a b pc qa qb scope s e =
      let o = when_some (is_well_sorted c sig scope && have_one_sort (sort_of a sig scope) (sort_of b sig scope)) (sort_of a sig scope) s (sym (ap (λ (k : Sort). k sig scope) (fold_at_term_ite Sorted Sort sorted_step sort_step c a b)) ∙ e) in
      let p = and_parts (is_well_sorted c sig scope) (have_one_sort (sort_of a sig scope) (sort_of b sig scope)) o.0 in
      let q = one_sort_parts (sort_of a sig scope) (sort_of b sig scope) p.1 in
      let same : q.0 ≡ s = cc (sym q.1 ∙ o.1) in
      let x = pc scope p.0 in
      let y = qa scope s o.1 in
      let z = qb scope s (q.2 ∙ ap Some same) in
      record {
        local = λ size k d env agree. (let u = x.local size k d env agree in let v = y.local size k d env agree in let w = z.local size k d env agree in value_of_ite c a b (with_symbols size d) env ∙ (λ i. cond (u i) (v i) (w i)) ∙ sym (value_of_ite c a b (with_symbols size k) env));
        grows = λ big more. ap (λ (k : Sort). k big scope) (fold_at_term_ite Sorted Sort sorted_step sort_step c a b) ∙ (let l = x.grows big more in let m = one_sort_from (sort_of a big scope) (sort_of b big scope) s (y.grows big more) (z.grows big more) in let r = y.grows big more in λ i. cond (l i && m i) (r i) None);
        within = λ m is env at. subst (λ (n : ℕ). n < m.size s.0) (sym (value_of_ite c a b m env)) (cond_both (truth c m env) (value a m env) (value b m env) (λ n. n < m.size s.0) (λ _. y.within m is env at) (λ _. z.within m is env at));
      }

  cases : Cases P Q
  cases = record { constant = at_constant; predicate = at_predicate; equation = at_equation; negation = at_negation; conjunction = at_conjunction; disjunction = at_disjunction; equivalence = at_equivalence; choice = at_choice; quantifier = at_quantifier; variable = at_variable; application = at_application; term_choice = at_term_choice }

  pub coincides : (f : Formula) → P f
  coincides = formula_induction P Q cases

  pub coincides_term : (t : Fterm) → Q t
  coincides_term = fterm_induction P Q cases
