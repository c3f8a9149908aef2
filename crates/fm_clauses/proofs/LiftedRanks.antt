-- What holds of the ranks of the symbols for term `ite`s, which take variables in scope and have the sort of a term.
use Rattle.std.proofs.Common.{◌≡◌, ℕ, ◌+◌, Bool, true, ◌&&◌, List, [], ◌∷◌, ◌++◌, length, map, Some, ap, refl, sym, subst, ◌∙◌}
use Rattle.std.specs.Prelude.{slice_get}
use Rattle.std.specs.List.{list_all}
use Rattle.std.proofs.lemmas.Bool.{and_parts, and_from}
use Rattle.fm_base.specs.Truth.{Sort, Sorted, all_sorted, are_arguments, have_one_sort, is_of_sort, is_well_sorted, sort_of, sort_step, sorted_step}
use Rattle.fm_base.specs.declared.ids.SortId.{SortId}
use Rattle.fm_base.specs.declared.ids.SymId.{SymId}
use Rattle.fm_base.specs.declared.signature.Rank.{Rank}
use Rattle.fm_base.specs.declared.signature.Sig.{Sig}
use Rattle.fm_base.specs.declared.signature.Ty.{Ty}
use Rattle.fm_base.specs.declared.formula.Formula
use Rattle.fm_base.specs.declared.formula.Formula.{Formula}
use Rattle.fm_base.specs.declared.formula.Fterm
use Rattle.fm_base.specs.declared.formula.Fterm.{Fterm}
use Rattle.fm_base.proofs.NormalTerms.{Each}
use Rattle.fm_nnf.specs.Lifting.{Lifter, Parts, TermLifter, alone, both, lift_all, lift_choice, lift_formula, lift_formula_step, lift_term, lift_term_step, lifted_choice, lifted_equal, lifted_iff, lifted_ite, lifts, mapped, rank_over, stays, type_of_symbol, type_of_variable, under}
use Rattle.fm_nnf.specs.Places.{kept}
use Rattle.fm_nnf.proofs.Formulas.{Cases, fold_at_and, fold_at_app, fold_at_equal, fold_at_iff, fold_at_ite, fold_at_not, fold_at_or, fold_at_pred, fold_at_quant, fold_at_term_ite, fold_at_truth, fold_at_var, formula_induction}
use Rattle.fm_nnf.proofs.Sorting.{of_sort_parts, one_sort_parts, predicate_parts, result_parts, when_some}
use Rattle.fm_clauses.proofs.SortedTerms.{all_append, all_kept, in_range}

-- `good` is what holds of the ranks, `Known` what holds of the sorts of terms
module _ (sig : Sig) (good : Rank → Bool) (Known : SortId → Type 0) (variable : (scope : List SortId) (v : ℕ) (s : SortId) → in_range sig scope ≡ true → slice_get scope v ≡ Some s → Known s)
    (symbol : (f : ℕ) (rank : Rank) (s : SortId) → slice_get sig.ranks f ≡ Some rank → rank.result ≡ Ty.Of s → Known s) (over : (vars : List SortId) (s : SortId) → in_range sig vars ≡ true → Known s → good (rank_over vars (Ty.Of s)) ≡ true) where
  abbrev Lifts : {A : Type 0} → Lifter A → List SortId → Type 0
  Lifts k scope = (next : ℕ) → list_all good (k scope next).ranks ≡ true

  abbrev AllLift : {A : Type 0} → List (Lifter A) → List SortId → Type 0
  AllLift [] scope = Unit {0}
  AllLift (k ∷ ks) scope = Lifts k scope × AllLift ks scope

  both_lift : {A B : Type 0} (j : Lifter A) (k : Lifter B) (scope : List SortId) → Lifts j scope → Lifts k scope → Lifts (both j k) scope
  both_lift j k scope p q next = let one = j scope next in all_append good one.ranks (k scope (next + length one.ranks)).ranks (p next) (q (next + length one.ranks))

  all_lift : {A : Type 0} (ks : List (Lifter A)) (scope : List SortId) → AllLift ks scope → Lifts (lift_all ks) scope
  all_lift [] scope h next = refl
  all_lift (k ∷ ks) scope h next = both_lift k (lift_all ks) scope h.0 (all_lift ks scope h.1) next

  choice_lifts : (k : Lifter Parts) (type : List SortId → Ty) (scope : List SortId) (s : SortId) → in_range sig scope ≡ true → type scope ≡ Ty.Of s → Known s → Lifts k scope → Lifts (lift_choice k type) scope
  choice_lifts k type scope s range e known h next =
      let r = k scope next in
      let vars = kept (stays (length scope) r.made) scope in
      let fit : good (rank_over vars (type scope)) ≡ true = subst (λ (t : Ty). good (rank_over vars t) ≡ true) (sym e) (over vars s (all_kept (stays (length scope) r.made) _ scope range) known) in
      all_append good r.ranks (rank_over vars (type scope) ∷ []) (h next) (and_from (good (rank_over vars (type scope))) true fit refl)

  abbrev L : Formula → Lifter Formula
  L = lift_formula sig

  abbrev T : Fterm → TermLifter
  T = lift_term sig

  record TermLifts (t : TermLifter) (scope : List SortId) (s : SortId) : Type 0 where
    ranks : Lifts t.lift scope
    type_is : t.type scope ≡ Ty.Of s
    known : Known s

  abbrev P : Formula → Type 0
  P f = (scope : List SortId) → in_range sig scope ≡ true → is_well_sorted f sig scope ≡ true → Lifts (L f) scope

  abbrev Q : Fterm → Type 0
  Q t = (scope : List SortId) (s : SortId) → in_range sig scope ≡ true → sort_of t sig scope ≡ Some s → TermLifts (T t) scope s

  along : (f : Formula) (k : Lifter Formula) (scope : List SortId) → L f ≡ k → Lifts k scope → Lifts (L f) scope
  along f k scope e h = subst (λ (j : Lifter Formula). Lifts j scope) (sym e) h

  along_term : (t : Fterm) (k : TermLifter) (scope : List SortId) (s : SortId) → T t ≡ k → TermLifts k scope s → TermLifts (T t) scope s
  along_term t k scope s e h = subst (λ (j : TermLifter). TermLifts j scope s) (sym e) h

  arguments : (ts : List Fterm) → Each Q ts → (types : List Ty) (scope : List SortId) → in_range sig scope ≡ true → are_arguments (map sort_of ts) types sig scope ≡ true → AllLift (lifts (map T ts)) scope
  arguments [] each types scope range e = tt
  arguments (t ∷ ts) each [] scope range e = cc
  arguments (t ∷ ts) each (u ∷ us) scope range e =
      let p = and_parts (is_of_sort (sort_of t sig scope) u) (are_arguments (map sort_of ts) us sig scope) e in
      let o = of_sort_parts (sort_of t sig scope) u p.0 in
      ((each.0 scope o.0 range o.1).ranks, arguments ts each.1 us scope range p.1)

  lists : (fs : List Formula) → Each P fs → (scope : List SortId) → in_range sig scope ≡ true → all_sorted (map is_well_sorted fs) sig scope ≡ true → AllLift (map L fs) scope
  lists [] each scope range e = tt
  lists (f ∷ fs) each scope range e =
      let p = and_parts (is_well_sorted f sig scope) (all_sorted (map is_well_sorted fs) sig scope) e in
      (each.0 scope range p.0, lists fs each.1 scope range p.1)

  at_constant : (b : Bool) → P (Formula.Truth b)
  at_constant b scope range e = along (Formula.Truth b) (alone (Formula.Truth b)) scope (fold_at_truth (Lifter Formula) TermLifter lift_formula_step (lift_term_step sig) b) (λ next. refl)

  at_predicate : (p : SymId) (ts : List Fterm) → Each Q ts → P (Formula.Pred p ts)
  at_predicate p ts each scope range e =
      let o = predicate_parts (map sort_of ts) (slice_get sig.ranks p.0) sig scope (sym (ap (λ (k : Sorted). k sig scope) (fold_at_pred Sorted Sort sorted_step sort_step p ts)) ∙ e) in
      along (Formula.Pred p ts) (mapped (λ xs. Formula.Pred p xs) (lift_all (lifts (map T ts)))) scope (fold_at_pred (Lifter Formula) TermLifter lift_formula_step (lift_term_step sig) p ts) (all_lift (lifts (map T ts)) scope (arguments ts each o.0.args scope range o.3))

  at_equation : (a b : Fterm) → Q a → Q b → P (Formula.Equal a b)
  at_equation a b qa qb scope range e =
      let o = one_sort_parts (sort_of a sig scope) (sort_of b sig scope) (sym (ap (λ (k : Sorted). k sig scope) (fold_at_equal Sorted Sort sorted_step sort_step a b)) ∙ e) in
      along (Formula.Equal a b) (lifted_equal (T a) (T b)) scope (fold_at_equal (Lifter Formula) TermLifter lift_formula_step (lift_term_step sig) a b) (both_lift (T a).lift (T b).lift scope (qa scope o.0 range o.1).ranks (qb scope o.0 range o.2).ranks)

  at_negation : (a : Formula) → P a → P (Formula.Not a)
  at_negation a pa scope range e =
      along (Formula.Not a) (mapped (λ x. Formula.Not x) (L a)) scope (fold_at_not (Lifter Formula) TermLifter lift_formula_step (lift_term_step sig) a) (pa scope range (sym (ap (λ (k : Sorted). k sig scope) (fold_at_not Sorted Sort sorted_step sort_step a)) ∙ e))

  at_conjunction : (fs : List Formula) → Each P fs → P (Formula.And fs)
  at_conjunction fs each scope range e =
      along (Formula.And fs) (mapped (λ xs. Formula.And xs) (lift_all (map L fs))) scope (fold_at_and (Lifter Formula) TermLifter lift_formula_step (lift_term_step sig) fs)
      (all_lift (map L fs) scope (lists fs each scope range (sym (ap (λ (k : Sorted). k sig scope) (fold_at_and Sorted Sort sorted_step sort_step fs)) ∙ e)))

  at_disjunction : (fs : List Formula) → Each P fs → P (Formula.Or fs)
  at_disjunction fs each scope range e =
      along (Formula.Or fs) (mapped (λ xs. Formula.Or xs) (lift_all (map L fs))) scope (fold_at_or (Lifter Formula) TermLifter lift_formula_step (lift_term_step sig) fs)
      (all_lift (map L fs) scope (lists fs each scope range (sym (ap (λ (k : Sorted). k sig scope) (fold_at_or Sorted Sort sorted_step sort_step fs)) ∙ e)))

  at_equivalence : (a b : Formula) → P a → P b → P (Formula.Iff a b)
  at_equivalence a b pa pb scope range e =
      let p = and_parts (is_well_sorted a sig scope) (is_well_sorted b sig scope) (sym (ap (λ (k : Sorted). k sig scope) (fold_at_iff Sorted Sort sorted_step sort_step a b)) ∙ e) in
      along (Formula.Iff a b) (lifted_iff (L a) (L b)) scope (fold_at_iff (Lifter Formula) TermLifter lift_formula_step (lift_term_step sig) a b) (both_lift (L a) (L b) scope (pa scope range p.0) (pb scope range p.1))

  at_choice : (c a b : Formula) → P c → P a → P b → P (Formula.Ite c a b)
  at_choice c a b pc pa pb scope range e =
      let p = and_parts (is_well_sorted c sig scope) (is_well_sorted a sig scope && is_well_sorted b sig scope) (sym (ap (λ (k : Sorted). k sig scope) (fold_at_ite Sorted Sort sorted_step sort_step c a b)) ∙ e) in
      let q = and_parts (is_well_sorted a sig scope) (is_well_sorted b sig scope) p.1 in
      along (Formula.Ite c a b) (lifted_ite (L c) (L a) (L b)) scope (fold_at_ite (Lifter Formula) TermLifter lift_formula_step (lift_term_step sig) c a b)
      (both_lift (L c) (both (L a) (L b)) scope (pc scope range p.0) (both_lift (L a) (L b) scope (pa scope range q.0) (pb scope range q.1)))

  at_quantifier : (all : Bool) (vars : List SortId) (body : Formula) → P body → P (Formula.Quant all vars body)
  at_quantifier all vars body pb scope range e =
      let p = and_parts (in_range sig vars) (is_well_sorted body sig (scope ++ vars)) (sym (ap (λ (k : Sorted). k sig scope) (fold_at_quant Sorted Sort sorted_step sort_step all vars body)) ∙ e) in
      along (Formula.Quant all vars body) (mapped (λ x. Formula.Quant all vars x) (under vars (L body))) scope (fold_at_quant (Lifter Formula) TermLifter lift_formula_step (lift_term_step sig) all vars body) (pb (scope ++ vars) (all_append _ scope vars range p.0) p.1)

  at_variable : (v : ℕ) → Q (Fterm.Var v)
  at_variable v scope s range e =
      let got = sym (ap (λ (k : Sort). k sig scope) (fold_at_var Sorted Sort sorted_step sort_step v)) ∙ e in
      along_term (Fterm.Var v) (record { lift = alone (Fterm.Var v); type = λ scope. type_of_variable (slice_get scope v) }) scope s (fold_at_var (Lifter Formula) TermLifter lift_formula_step (lift_term_step sig) v)
      (record { ranks = λ next. refl; type_is = ap type_of_variable got; known = variable scope v s range got })

  at_application : (f : SymId) (ts : List Fterm) → Each Q ts → Q (Fterm.App f ts)
  at_application f ts each scope s range e =
      let o = result_parts (map sort_of ts) (slice_get sig.ranks f.0) sig scope s (sym (ap (λ (k : Sort). k sig scope) (fold_at_app Sorted Sort sorted_step sort_step f ts)) ∙ e) in
      along_term (Fterm.App f ts) (record { lift = mapped (λ xs. Fterm.App f xs) (lift_all (lifts (map T ts))); type = λ scope. type_of_symbol (slice_get sig.ranks f.0) }) scope s (fold_at_app (Lifter Formula) TermLifter lift_formula_step (lift_term_step sig) f ts)
      (record { ranks = all_lift (lifts (map T ts)) scope (arguments ts each o.0.args scope range o.3); type_is = ap type_of_symbol o.1 ∙ o.2; known = symbol f.0 o.0 s o.1 o.2 })

  at_term_choice : (c : Formula) (a b : Fterm) → P c → Q a → Q b → Q (Fterm.Ite c a b)
  at_term_choice c a b pc qa qb scope s range e =
      let o = when_some (is_well_sorted c sig scope && have_one_sort (sort_of a sig scope) (sort_of b sig scope)) (sort_of a sig scope) s (sym (ap (λ (k : Sort). k sig scope) (fold_at_term_ite Sorted Sort sorted_step sort_step c a b)) ∙ e) in
      let p = and_parts (is_well_sorted c sig scope) (have_one_sort (sort_of a sig scope) (sort_of b sig scope)) o.0 in
      let q = one_sort_parts (sort_of a sig scope) (sort_of b sig scope) p.1 in
      let x = qa scope s range o.1 in
      let y = qb scope q.0 range q.2 in
      along_term (Fterm.Ite c a b) (record { lift = lifted_choice (L c) (T a) (T b); type = (T a).type }) scope s (fold_at_term_ite (Lifter Formula) TermLifter lift_formula_step (lift_term_step sig) c a b)
      (record {
        ranks = choice_lifts (both (L c) (both (T a).lift (T b).lift)) (T a).type scope s range x.type_is x.known (both_lift (L c) (both (T a).lift (T b).lift) scope (pc scope range p.0) (both_lift (T a).lift (T b).lift scope x.ranks y.ranks));
        type_is = x.type_is;
        known = x.known;
      })

  cases : Cases P Q
  cases = record { constant = at_constant; predicate = at_predicate; equation = at_equation; negation = at_negation; conjunction = at_conjunction; disjunction = at_disjunction; equivalence = at_equivalence; choice = at_choice; quantifier = at_quantifier; variable = at_variable; application = at_application; term_choice = at_term_choice }

  pub formula_lifts : (f : Formula) → P f
  formula_lifts = formula_induction P Q cases
