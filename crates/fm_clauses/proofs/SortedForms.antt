-- Normal forms are well sorted over the signature with their Skolem functions, whose ranks are of its sorts.
use Rattle.std.proofs.Common.{◌≡◌, ℕ, zero, suc, ◌+◌, Bool, true, false, ◌&&◌, not, List, [], ◌∷◌, ◌++◌, length, map, Some, ap, refl, sym, subst, ◌∙◌, arith, append_assoc, length-append}
use Rattle.std.specs.Prelude.{get_or, nat_lt, slice_get}
use Rattle.std.specs.List.{list_all}
use mathlib.Core.Bool.{beq}
use Rattle.std.proofs.lemmas.Bool.{and_parts, and_from, false≢true}
use Rattle.fm_base.specs.Interpretations.{is_sort_of}
use Rattle.fm_base.specs.Truth.{Sort, Sorted, all_sorted, are_arguments, is_of_sort, is_well_sorted, sort_of as fsort_of, sort_step, sorted_step}
use Rattle.fm_base.specs.declared.ids.SortId.{SortId}
use Rattle.fm_base.specs.declared.ids.SymId.{SymId}
use Rattle.fm_base.specs.declared.signature.Rank.{Rank}
use Rattle.fm_base.specs.declared.signature.Sig.{Sig}
use Rattle.fm_base.specs.declared.signature.Ty.{Ty}
use Rattle.fm_base.specs.declared.formula.Formula
use Rattle.fm_base.specs.declared.formula.Formula.{Formula}
use Rattle.fm_base.specs.declared.formula.Formula.TheOpen.{Formula-F}
use Rattle.fm_base.specs.declared.formula.Fterm
use Rattle.fm_base.specs.declared.formula.Fterm.{Fterm}
use Rattle.fm_base.specs.declared.formula.Nnf.{Nnf}
use Rattle.fm_base.specs.declared.formula.Patom.{Patom}
use Rattle.fm_base.specs.declared.formula.Pterm.{Pterm}
use Rattle.fm_base.proofs.NormalTerms.{Each}
use Rattle.fm_bank.specs.Sorted.{is_sorted_atom, sort_of}
use Rattle.fm_bank.proofs.Lengths.{sort_of_var}
use Rattle.fm_nnf.specs.LiftLaw.{with_ranks}
use Rattle.fm_nnf.specs.NormalForm.{Former, Signed, all_variables, form_step, formed_all, formed_and, formed_each, formed_junction, formed_literal, formed_or, formed_quantifier, formed_some, normal_form, normal_term, skolem_ranks, skolem_terms, term_form_step, terms_at, with_sign}
use Rattle.fm_nnf.specs.Plain.{all_plain, formula_plain_step, is_plain, is_plain_term, term_plain_step}
use Rattle.fm_nnf.proofs.Coincidence.{Extends}
use Rattle.fm_nnf.proofs.Formulas.{Cases, fold_at_and, fold_at_app, fold_at_equal, fold_at_iff, fold_at_ite, fold_at_not, fold_at_or, fold_at_pred, fold_at_quant, fold_at_term_ite, fold_at_truth, fold_at_var, formula_induction}
use Rattle.fm_nnf.proofs.Joined.{extends_chain, grow_both, grow_extends}
use Rattle.fm_nnf.proofs.Normals.{fold_of_all, fold_of_and, fold_of_lit, fold_of_or, nnf_induction}
use Rattle.fm_nnf.proofs.Sorting.{of_sort_from, of_sort_parts, one_sort_from, one_sort_parts, predicate_from, predicate_parts, result_from, result_parts}
use Rattle.fm_clauses.specs.SortLaw.{NormalFormsAreSorted, is_sorted_form, sorted_form_step}
use Rattle.fm_clauses.proofs.SortedTerms.{Widens, all_append, atom_stays, get_seam, in_range, more_scope, range_stays, same_scope, same_signature, sort_of_app, sort_stays, types_of, variables_are}

-- a form stays well sorted over a larger signature

module _ (sig big : Sig) (more : Extends sig big) where
  abbrev Grows : Nnf → Type 0
  Grows f = (scope : List SortId) → is_sorted_form f sig scope ≡ true → is_sorted_form f big scope ≡ true

  all_grow : (fs : List Nnf) → Each Grows fs → (scope : List SortId) → all_sorted (map is_sorted_form fs) sig scope ≡ true → all_sorted (map is_sorted_form fs) big scope ≡ true
  all_grow [] each scope e = refl
  all_grow (f ∷ fs) each scope e =
      let p = and_parts (is_sorted_form f sig scope) (all_sorted (map is_sorted_form fs) sig scope) e in
      and_from (is_sorted_form f big scope) (all_sorted (map is_sorted_form fs) big scope) (each.0 scope p.0) (all_grow fs each.1 scope p.1)

  pub form_grows : (f : Nnf) → Grows f
  form_grows = nnf_induction Grows
      (λ positive a scope e. ap (λ (k : Sorted). k big scope) (fold_of_lit Sorted sorted_form_step positive a) ∙ atom_stays sig big scope scope more (same_scope scope) a (sym (ap (λ (k : Sorted). k sig scope) (fold_of_lit Sorted sorted_form_step positive a)) ∙ e))
      (λ fs each scope e. ap (λ (k : Sorted). k big scope) (fold_of_and Sorted sorted_form_step fs) ∙ all_grow fs each scope (sym (ap (λ (k : Sorted). k sig scope) (fold_of_and Sorted sorted_form_step fs)) ∙ e))
      (λ fs each scope e. ap (λ (k : Sorted). k big scope) (fold_of_or Sorted sorted_form_step fs) ∙ all_grow fs each scope (sym (ap (λ (k : Sorted). k sig scope) (fold_of_or Sorted sorted_form_step fs)) ∙ e))
      (λ vars body h scope e.
      let p = and_parts (in_range sig vars) (is_sorted_form body sig (scope ++ vars)) (sym (ap (λ (k : Sorted). k sig scope) (fold_of_all Sorted sorted_form_step vars body)) ∙ e) in
      ap (λ (k : Sorted). k big scope) (fold_of_all Sorted sorted_form_step vars body) ∙ and_from (in_range big vars) (is_sorted_form body big (scope ++ vars)) (range_stays sig big vars more p.0) (h (scope ++ vars) p.1))

-- ranks of declared sorts: no argument is Bool, and all sorts are below the number
abbrev pub is_declared : ℕ → Ty → Bool
is_declared sorts Ty.Bool = false
is_declared sorts (Ty.Of s) = nat_lt s.0 sorts

abbrev pub is_proper : ℕ → Rank → Bool
is_proper sorts r = list_all (is_declared sorts) r.args && is_sort_of sorts r.result

abbrev pub AreProper : ℕ → List Rank → Type 0
AreProper sorts rs = list_all (is_proper sorts) rs ≡ true

pub types_declared : (sorts : ℕ) (scope : List SortId) → list_all (λ (s : SortId). nat_lt s.0 sorts) scope ≡ true → list_all (is_declared sorts) (types_of scope) ≡ true
types_declared sorts [] e = refl
types_declared sorts (s ∷ ss) e = let p = and_parts (nat_lt s.0 sorts) (list_all (λ (u : SortId). nat_lt u.0 sorts) ss) e in and_from (nat_lt s.0 sorts) (list_all (is_declared sorts) (types_of ss)) p.0 (types_declared sorts ss p.1)

-- terms that stand for variables of these sorts, one for each
abbrev pub StandFor : Sig → List SortId → List Pterm → List SortId → Type 0
StandFor sig scope [] [] = Unit {0}
StandFor sig scope [] (s ∷ ss) = ⊥
StandFor sig scope (t ∷ ts) [] = ⊥
StandFor sig scope (t ∷ ts) (s ∷ ss) = (sort_of t sig scope ≡ Some s) × StandFor sig scope ts ss

stand_wider : (sig big : Sig) (scope wide : List SortId) → Extends sig big → Widens scope wide → (ts : List Pterm) (ss : List SortId) → StandFor sig scope ts ss → StandFor big wide ts ss
stand_wider sig big scope wide more wider [] [] h = tt
stand_wider sig big scope wide more wider [] (s ∷ ss) h = absurd h
stand_wider sig big scope wide more wider (t ∷ ts) [] h = absurd h
stand_wider sig big scope wide more wider (t ∷ ts) (s ∷ ss) h = (sort_stays sig big scope wide more wider t s h.0, stand_wider sig big scope wide more wider ts ss h.1)

stand_both : (sig : Sig) (scope : List SortId) (ts us : List Pterm) (ss vs : List SortId) → StandFor sig scope ts ss → StandFor sig scope us vs → StandFor sig scope (ts ++ us) (ss ++ vs)
stand_both sig scope [] us [] vs h k = k
stand_both sig scope [] us (s ∷ ss) vs h k = absurd h
stand_both sig scope (t ∷ ts) us [] vs h k = absurd h
stand_both sig scope (t ∷ ts) us (s ∷ ss) vs h k = (h.0, stand_both sig scope ts us ss vs h.1 k)

variables_stand : (sig : Sig) (k : ℕ) (pre ss : List SortId) → k ≡ length pre → StandFor sig (pre ++ ss) (all_variables k ss) ss
variables_stand sig k pre [] e = tt
variables_stand sig k pre (s ∷ ss) e =
    let l = length-append pre (s ∷ []) in
    let rest = variables_stand sig (suc k) (pre ++ s ∷ []) ss (omega (arith, l, e)) in
    (sort_of_var k sig (pre ++ s ∷ ss) ∙ ap (slice_get (pre ++ s ∷ ss)) e ∙ get_seam pre s ss, subst (λ (scope : List SortId). StandFor sig scope (all_variables (suc k) ss) ss) (append_assoc pre (s ∷ []) ss) rest)

abbrev skolem_rank : List SortId → SortId → Rank
skolem_rank scope v = record { args = map (λ (s : SortId). Ty.Of s) scope; result = Ty.Of v }

skolems_stand : (sig : Sig) (scope : List SortId) (n : ℕ) (pre : List Rank) (vs : List SortId) → sig.ranks ≡ pre ++ skolem_ranks scope vs → n ≡ length pre → StandFor sig scope (skolem_terms scope n vs) vs
skolems_stand sig scope n pre [] e l = tt
skolems_stand sig scope n pre (v ∷ vs) e l =
    let rank = skolem_rank scope v in
    let there : slice_get sig.ranks n ≡ Some rank = (λ i. slice_get (e i) (l i)) ∙ get_seam pre rank (skolem_ranks scope vs) in
    let k = length-append pre (rank ∷ []) in (
      sort_of_app (record { 0 = n }) (all_variables zero scope) sig scope ∙ result_from (map sort_of (all_variables zero scope)) (slice_get sig.ranks n) sig scope v rank there refl (variables_are sig zero [] scope refl),
      skolems_stand sig scope (n + 1) (pre ++ rank ∷ []) vs (e ∙ sym (append_assoc pre (rank ∷ []) (skolem_ranks scope vs))) (omega (arith, k, l)),
    )

skolems_long : (scope vs : List SortId) → length (skolem_ranks scope vs) ≡ length vs
skolems_long scope [] = refl
skolems_long scope (v ∷ vs) = ap suc (skolems_long scope vs)

skolems_proper : (sorts : ℕ) (scope vs : List SortId) → list_all (λ (s : SortId). nat_lt s.0 sorts) scope ≡ true → list_all (λ (s : SortId). nat_lt s.0 sorts) vs ≡ true → AreProper sorts (skolem_ranks scope vs)
skolems_proper sorts scope [] e h = refl
skolems_proper sorts scope (v ∷ vs) e h =
    let p = and_parts (nat_lt v.0 sorts) (list_all (λ (s : SortId). nat_lt s.0 sorts) vs) h in
    and_from (is_proper sorts (skolem_rank scope v)) (list_all (is_proper sorts) (skolem_ranks scope vs)) (and_from (list_all (is_declared sorts) (types_of scope)) (nat_lt v.0 sorts) (types_declared sorts scope e) p.0) (skolems_proper sorts scope vs e p.1)

pub stand_get : (sig : Sig) (scope : List SortId) (ts : List Pterm) (ss : List SortId) (v : ℕ) (s : SortId) (d : Pterm) → StandFor sig scope ts ss → slice_get ss v ≡ Some s → sort_of (get_or ts v d) sig scope ≡ Some s
stand_get sig scope [] [] v s d h e = cc
stand_get sig scope [] (u ∷ ss) v s d h e = absurd h
stand_get sig scope (t ∷ ts) [] v s d h e = absurd h
stand_get sig scope (t ∷ ts) (u ∷ ss) zero s d h e = h.0 ∙ e
stand_get sig scope (t ∷ ts) (u ∷ ss) (suc v) s d h e = stand_get sig scope ts ss v s d h.1 e

-- what is formed

pub record FormIsSorted (now : Sig) (scope : List SortId) (r : Nnf × List Rank) : Type 0 where
  pub sorted : is_sorted_form r.0 (with_ranks now r.1) scope ≡ true
  pub proper : AreProper now.sorts r.1

record FormsAreSorted (now : Sig) (scope : List SortId) (r : List Nnf × List Rank) : Type 0 where
  sorted : all_sorted (map is_sorted_form r.0) (with_ranks now r.1) scope ≡ true
  proper : AreProper now.sorts r.1

-- where terms stand for variables of these sorts, what is formed is well sorted under the universal variables in scope
abbrev pub FormsSorted : Sig → List SortId → Former Nnf → Type 0
FormsSorted sig sorts k = (now : Sig) (terms : List Pterm) (scope : List SortId) → Extends sig now → in_range now scope ≡ true → StandFor now scope terms sorts → FormIsSorted now scope (k terms scope (length now.ranks))

abbrev AllFormSorted : Sig → List SortId → List (Former Nnf) → Type 0
AllFormSorted sig sorts [] = Unit {0}
AllFormSorted sig sorts (k ∷ ks) = FormsSorted sig sorts k × AllFormSorted sig sorts ks

form_along : (now : Sig) (scope : List SortId) (k : ℕ → Nnf × List Rank) (m n : ℕ) → m ≡ n → FormIsSorted now scope (k m) → FormIsSorted now scope (k n)
form_along now scope k m n e h = subst (λ (i : ℕ). FormIsSorted now scope (k i)) e h

all_formed : (sig : Sig) (sorts : List SortId) (ks : List (Former Nnf)) → AllFormSorted sig sorts ks → (now : Sig) (terms : List Pterm) (scope : List SortId) → Extends sig now → in_range now scope ≡ true → StandFor now scope terms sorts → FormsAreSorted now scope (formed_all ks terms scope (length now.ranks))
all_formed sig sorts [] h now terms scope more range stand = record { sorted = refl; proper = refl }
all_formed sig sorts (k ∷ ks) h now terms scope more range stand =
    let n = length now.ranks in
    let r = k terms scope n in
    let mid = with_ranks now r.1 in
    let grown = grow_extends now r.1 in
    let l = length-append now.ranks r.1 in
    let q = formed_all ks terms scope (n + length r.1) in
    let one = h.0 now terms scope more range stand in
    let two : FormsAreSorted mid scope q =
    subst (λ (i : ℕ). FormsAreSorted mid scope (formed_all ks terms scope i)) l (all_formed sig sorts ks h.1 mid terms scope (extends_chain sig now mid more grown) range (stand_wider now mid scope scope grown (same_scope scope) terms sorts stand)) in
    let all = grow_both now r.1 q.1 in
    record {
      sorted = and_from (is_sorted_form r.0 (with_ranks now (r.1 ++ q.1)) scope) (all_sorted (map is_sorted_form q.0) (with_ranks now (r.1 ++ q.1)) scope)
          (subst (λ (s : Sig). is_sorted_form r.0 s scope ≡ true) all (form_grows mid (with_ranks mid q.1) (grow_extends mid q.1) r.0 scope one.sorted))
          (subst (λ (s : Sig). all_sorted (map is_sorted_form q.0) s scope ≡ true) all two.sorted);
      proper = all_append (is_proper now.sorts) r.1 q.1 one.proper two.proper;
    }

and_sorted : (sig : Sig) (sorts : List SortId) (ks : List (Former Nnf)) → AllFormSorted sig sorts ks → FormsSorted sig sorts (formed_and ks)
and_sorted sig sorts ks h now terms scope more range stand =
    let x = all_formed sig sorts ks h now terms scope more range stand in
    let r = formed_all ks terms scope (length now.ranks) in
    record { sorted = ap (λ (k : Sorted). k (with_ranks now r.1) scope) (fold_of_and Sorted sorted_form_step r.0) ∙ x.sorted; proper = x.proper }

or_sorted : (sig : Sig) (sorts : List SortId) (ks : List (Former Nnf)) → AllFormSorted sig sorts ks → FormsSorted sig sorts (formed_or ks)
or_sorted sig sorts ks h now terms scope more range stand =
    let x = all_formed sig sorts ks h now terms scope more range stand in
    let r = formed_all ks terms scope (length now.ranks) in
    record { sorted = ap (λ (k : Sorted). k (with_ranks now r.1) scope) (fold_of_or Sorted sorted_form_step r.0) ∙ x.sorted; proper = x.proper }

junction_sorted : (b : Bool) (sig : Sig) (sorts : List SortId) (ks : List (Former Nnf)) → AllFormSorted sig sorts ks → FormsSorted sig sorts (formed_junction b ks)
junction_sorted true = and_sorted
junction_sorted false = or_sorted

literal_sorted : (sig : Sig) (sorts : List SortId) (positive : Bool) (atom : List Pterm → Patom) → ((now : Sig) (terms : List Pterm) (scope : List SortId) → Extends sig now → StandFor now scope terms sorts → is_sorted_atom now scope (atom terms) ≡ true) → FormsSorted sig sorts (formed_literal positive atom)
literal_sorted sig sorts positive atom h now terms scope more range stand =
    let big = with_ranks now [] in
    record {
      sorted = ap (λ (k : Sorted). k big scope) (fold_of_lit Sorted sorted_form_step positive (atom terms)) ∙ atom_stays now big scope scope (grow_extends now []) (same_scope scope) (atom terms) (h now terms scope more stand);
      proper = refl;
    }

each_sorted : (sig : Sig) (sorts vars : List SortId) (k : Former Nnf) → in_range sig vars ≡ true → FormsSorted sig (sorts ++ vars) k → FormsSorted sig sorts (formed_each vars k)
each_sorted sig sorts vars k fit h now terms scope more range stand =
    let inner : List Pterm = terms ++ all_variables (length scope) vars in
    let there = range_stays sig now vars more fit in
    let r = k inner (scope ++ vars) (length now.ranks) in
    let x = h now inner (scope ++ vars) more (all_append (λ (s : SortId). nat_lt s.0 now.sorts) scope vars range there)
    (stand_both now (scope ++ vars) terms (all_variables (length scope) vars) sorts vars (stand_wider now now scope (scope ++ vars) (same_signature now) (more_scope scope vars) terms sorts stand) (variables_stand now (length scope) scope vars refl)) in
    record {
      sorted = ap (λ (j : Sorted). j (with_ranks now r.1) scope) (fold_of_all Sorted sorted_form_step vars r.0) ∙ and_from (in_range now vars) (is_sorted_form r.0 (with_ranks now r.1) (scope ++ vars)) there x.sorted;
      proper = x.proper;
    }

some_sorted : (sig : Sig) (sorts vars : List SortId) (k : Former Nnf) → in_range sig vars ≡ true → FormsSorted sig (sorts ++ vars) k → FormsSorted sig sorts (formed_some vars k)
some_sorted sig sorts vars k fit h now terms scope more range stand =
    let n = length now.ranks in
    let made = skolem_ranks scope vars in
    let mid = with_ranks now made in
    let grown = grow_extends now made in
    let inner : List Pterm = terms ++ skolem_terms scope n vars in
    let there = range_stays sig now vars more fit in
    let a = length-append now.ranks made in
    let b = skolems_long scope vars in
    let l : length mid.ranks ≡ n + length vars = omega (arith, a, b) in
    let r = k inner scope (n + length vars) in
    let x : FormIsSorted mid scope r =
    form_along mid scope (k inner scope) (length mid.ranks) (n + length vars) l (h mid inner scope (extends_chain sig now mid more grown) range
    (stand_both mid scope terms (skolem_terms scope n vars) sorts vars (stand_wider now mid scope scope grown (same_scope scope) terms sorts stand) (skolems_stand mid scope n now.ranks vars refl refl))) in
    record {
      sorted = subst (λ (s : Sig). is_sorted_form r.0 s scope ≡ true) (grow_both now made r.1) x.sorted;
      proper = all_append (is_proper now.sorts) made r.1 (skolems_proper now.sorts scope vars range there) x.proper;
    }

quantifier_sorted : (universal : Bool) (sig : Sig) (sorts vars : List SortId) (k : Former Nnf) → in_range sig vars ≡ true → FormsSorted sig (sorts ++ vars) k → FormsSorted sig sorts (formed_quantifier universal vars k)
quantifier_sorted true = each_sorted
quantifier_sorted false = some_sorted

-- And[Or[a, b], Or[c, d]]
two_clauses : (sig : Sig) (sorts : List SortId) (a b c d : Former Nnf) → FormsSorted sig sorts a → FormsSorted sig sorts b → FormsSorted sig sorts c → FormsSorted sig sorts d → FormsSorted sig sorts (formed_and (formed_or (a ∷ b ∷ []) ∷ formed_or (c ∷ d ∷ []) ∷ []))
two_clauses sig sorts a b c d fa fb fc fd =
    and_sorted sig sorts (formed_or (a ∷ b ∷ []) ∷ formed_or (c ∷ d ∷ []) ∷ []) (or_sorted sig sorts (a ∷ b ∷ []) (fa, (fb, tt)), (or_sorted sig sorts (c ∷ d ∷ []) (fc, (fd, tt)), tt))

-- by the constructors of formulas and terms
module _ (sig : Sig) where
  abbrev A : Type 0
  A = Signed

  abbrev B : Type 0
  B = List Pterm → Pterm

  abbrev P : Formula → Type 0
  P f = (sorts : List SortId) → is_well_sorted f sig sorts ≡ true → is_plain f ≡ true → (positive : Bool) → FormsSorted sig sorts (normal_form f positive)

  abbrev Q : Fterm → Type 0
  Q t = (sorts : List SortId) (s : SortId) → fsort_of t sig sorts ≡ Some s → is_plain_term t ≡ true → (now : Sig) (terms : List Pterm) (scope : List SortId) → Extends sig now → StandFor now scope terms sorts → sort_of (normal_term t terms) now scope ≡ Some s

  along : (f : Formula) (positive : Bool) (sorts : List SortId) (x : Formula-F A B) → normal_form f ≡ form_step x → FormsSorted sig sorts (form_step x positive) → FormsSorted sig sorts (normal_form f positive)
  along f positive sorts x e h = subst (λ (j : Signed). FormsSorted sig sorts (j positive)) (sym e) h

  arguments : (ts : List Fterm) → Each Q ts → (types : List Ty) (sorts : List SortId) → are_arguments (map fsort_of ts) types sig sorts ≡ true → all_plain (map is_plain_term ts) ≡ true → (now : Sig) (terms : List Pterm) (scope : List SortId) → Extends sig now → StandFor now scope terms sorts
      → are_arguments (map sort_of (terms_at (map normal_term ts) terms)) types now scope ≡ true
  arguments [] each [] sorts e plain now terms scope more stand = refl
  arguments [] each (u ∷ us) sorts e plain now terms scope more stand = e
  arguments (t ∷ ts) each [] sorts e plain now terms scope more stand = e
  arguments (t ∷ ts) each (u ∷ us) sorts e plain now terms scope more stand =
      let p = and_parts (is_of_sort (fsort_of t sig sorts) u) (are_arguments (map fsort_of ts) us sig sorts) e in
      let q = and_parts (is_plain_term t) (all_plain (map is_plain_term ts)) plain in
      let o = of_sort_parts (fsort_of t sig sorts) u p.0 in
      let is = each.0 sorts o.0 o.1 q.0 now terms scope more stand in
      and_from (is_of_sort (sort_of (normal_term t terms) now scope) u) (are_arguments (map sort_of (terms_at (map normal_term ts) terms)) us now scope) ((λ i. is_of_sort (is i) (o.2 i)) ∙ of_sort_from o.0) (arguments ts each.1 us sorts p.1 q.1 now terms scope more stand)

  at_constant : (b : Bool) → P (Formula.Truth b)
  at_constant b sorts e plain positive = along (Formula.Truth b) positive sorts (Formula-F.Truth b) (fold_at_truth A B form_step term_form_step b) (junction_sorted (beq b positive) sig sorts [] tt)

  at_predicate : (p : SymId) (ts : List Fterm) → Each Q ts → P (Formula.Pred p ts)
  at_predicate p ts each sorts e plain positive =
      let o = predicate_parts (map fsort_of ts) (slice_get sig.ranks p.0) sig sorts (sym (ap (λ (k : Sorted). k sig sorts) (fold_at_pred Sorted Sort sorted_step sort_step p ts)) ∙ e) in
      let plains = sym (fold_at_pred Bool Bool formula_plain_step term_plain_step p ts) ∙ plain in
      let atom : List Pterm → Patom = λ terms. Patom.Pred p (terms_at (map normal_term ts) terms) in
      along (Formula.Pred p ts) positive sorts (Formula-F.Pred p (map normal_term ts)) (fold_at_pred A B form_step term_form_step p ts)
      (literal_sorted sig sorts positive atom (λ now terms scope more stand.
      predicate_from (map sort_of (terms_at (map normal_term ts) terms)) (slice_get now.ranks p.0) now scope o.0 (more.ranks p.0 o.0 o.1) o.2 (arguments ts each o.0.args sorts o.3 plains now terms scope more stand)))

  at_equation : (a b : Fterm) → Q a → Q b → P (Formula.Equal a b)
  at_equation a b qa qb sorts e plain positive =
      let o = one_sort_parts (fsort_of a sig sorts) (fsort_of b sig sorts) (sym (ap (λ (k : Sorted). k sig sorts) (fold_at_equal Sorted Sort sorted_step sort_step a b)) ∙ e) in
      let plains = and_parts (is_plain_term a) (is_plain_term b) (sym (fold_at_equal Bool Bool formula_plain_step term_plain_step a b) ∙ plain) in
      let atom : List Pterm → Patom = λ terms. Patom.Equal (normal_term a terms) (normal_term b terms) in
      along (Formula.Equal a b) positive sorts (Formula-F.Equal (normal_term a) (normal_term b)) (fold_at_equal A B form_step term_form_step a b)
      (literal_sorted sig sorts positive atom (λ now terms scope more stand.
      one_sort_from (sort_of (normal_term a terms) now scope) (sort_of (normal_term b terms) now scope) o.0 (qa sorts o.0 o.1 plains.0 now terms scope more stand) (qb sorts o.0 o.2 plains.1 now terms scope more stand)))

  at_negation : (a : Formula) → P a → P (Formula.Not a)
  at_negation a pa sorts e plain positive =
      let sorted = sym (ap (λ (k : Sorted). k sig sorts) (fold_at_not Sorted Sort sorted_step sort_step a)) ∙ e in
      let plains = sym (fold_at_not Bool Bool formula_plain_step term_plain_step a) ∙ plain in
      along (Formula.Not a) positive sorts (Formula-F.Not (normal_form a)) (fold_at_not A B form_step term_form_step a) (pa sorts sorted plains (not positive))

  lists : (fs : List Formula) → Each P fs → (sorts : List SortId) → all_sorted (map is_well_sorted fs) sig sorts ≡ true → all_plain (map is_plain fs) ≡ true → (positive : Bool) → AllFormSorted sig sorts (with_sign positive (map normal_form fs))
  lists [] each sorts e plain positive = tt
  lists (f ∷ fs) each sorts e plain positive =
      let p = and_parts (is_well_sorted f sig sorts) (all_sorted (map is_well_sorted fs) sig sorts) e in
      let q = and_parts (is_plain f) (all_plain (map is_plain fs)) plain in
      (each.0 sorts p.0 q.0 positive, lists fs each.1 sorts p.1 q.1 positive)

  at_conjunction : (fs : List Formula) → Each P fs → P (Formula.And fs)
  at_conjunction fs each sorts e plain positive =
      along (Formula.And fs) positive sorts (Formula-F.And (map normal_form fs)) (fold_at_and A B form_step term_form_step fs)
      (junction_sorted positive sig sorts (with_sign positive (map normal_form fs)) (lists fs each sorts (sym (ap (λ (k : Sorted). k sig sorts) (fold_at_and Sorted Sort sorted_step sort_step fs)) ∙ e) (sym (fold_at_and Bool Bool formula_plain_step term_plain_step fs) ∙ plain) positive))

  at_disjunction : (fs : List Formula) → Each P fs → P (Formula.Or fs)
  at_disjunction fs each sorts e plain positive =
      along (Formula.Or fs) positive sorts (Formula-F.Or (map normal_form fs)) (fold_at_or A B form_step term_form_step fs)
      (junction_sorted (not positive) sig sorts (with_sign positive (map normal_form fs)) (lists fs each sorts (sym (ap (λ (k : Sorted). k sig sorts) (fold_at_or Sorted Sort sorted_step sort_step fs)) ∙ e) (sym (fold_at_or Bool Bool formula_plain_step term_plain_step fs) ∙ plain) positive))

  at_equivalence : (a b : Formula) → P a → P b → P (Formula.Iff a b)
  at_equivalence a b pa pb sorts e plain positive =
      let p = and_parts (is_well_sorted a sig sorts) (is_well_sorted b sig sorts) (sym (ap (λ (k : Sorted). k sig sorts) (fold_at_iff Sorted Sort sorted_step sort_step a b)) ∙ e) in
      let q = and_parts (is_plain a) (is_plain b) (sym (fold_at_iff Bool Bool formula_plain_step term_plain_step a b) ∙ plain) in
      let x = pa sorts p.0 q.0 in
      let y = pb sorts p.1 q.1 in
      along (Formula.Iff a b) positive sorts (Formula-F.Iff (normal_form a) (normal_form b)) (fold_at_iff A B form_step term_form_step a b)
      (two_clauses sig sorts (normal_form a (not positive)) (normal_form b true) (normal_form a positive) (normal_form b false) (x (not positive)) (y true) (x positive) (y false))

  at_choice : (c a b : Formula) → P c → P a → P b → P (Formula.Ite c a b)
  at_choice c a b pc pa pb sorts e plain positive =
      let p = and_parts (is_well_sorted c sig sorts) (is_well_sorted a sig sorts && is_well_sorted b sig sorts) (sym (ap (λ (k : Sorted). k sig sorts) (fold_at_ite Sorted Sort sorted_step sort_step c a b)) ∙ e) in
      let r = and_parts (is_well_sorted a sig sorts) (is_well_sorted b sig sorts) p.1 in
      let q = and_parts (is_plain c) (is_plain a && is_plain b) (sym (fold_at_ite Bool Bool formula_plain_step term_plain_step c a b) ∙ plain) in
      let s = and_parts (is_plain a) (is_plain b) q.1 in
      along (Formula.Ite c a b) positive sorts (Formula-F.«Formula::Ite» (normal_form c) (normal_form a) (normal_form b)) (fold_at_ite A B form_step term_form_step c a b)
      (two_clauses sig sorts (normal_form c false) (normal_form a positive) (normal_form c true) (normal_form b positive) (pc sorts p.0 q.0 false) (pa sorts r.0 s.0 positive) (pc sorts p.0 q.0 true) (pb sorts r.1 s.1 positive))

  at_quantifier : (all : Bool) (vars : List SortId) (body : Formula) → P body → P (Formula.Quant all vars body)
  at_quantifier all vars body pb sorts e plain positive =
      let p = and_parts (in_range sig vars) (is_well_sorted body sig (sorts ++ vars)) (sym (ap (λ (k : Sorted). k sig sorts) (fold_at_quant Sorted Sort sorted_step sort_step all vars body)) ∙ e) in
      let plains = sym (fold_at_quant Bool Bool formula_plain_step term_plain_step all vars body) ∙ plain in
      along (Formula.Quant all vars body) positive sorts (Formula-F.Quant all vars (normal_form body)) (fold_at_quant A B form_step term_form_step all vars body)
      (quantifier_sorted (beq all positive) sig sorts vars (normal_form body positive) p.0 (pb (sorts ++ vars) p.1 plains positive))

  at_variable : (v : ℕ) → Q (Fterm.Var v)
  at_variable v sorts s e plain now terms scope more stand =
      let got = sym (ap (λ (k : Sort). k sig sorts) (fold_at_var Sorted Sort sorted_step sort_step v)) ∙ e in
      ap (λ (k : B). sort_of (k terms) now scope) (fold_at_var A B form_step term_form_step v) ∙ stand_get now scope terms sorts v s (Pterm.Var zero) stand got

  at_application : (f : SymId) (ts : List Fterm) → Each Q ts → Q (Fterm.App f ts)
  at_application f ts each sorts s e plain now terms scope more stand =
      let o = result_parts (map fsort_of ts) (slice_get sig.ranks f.0) sig sorts s (sym (ap (λ (k : Sort). k sig sorts) (fold_at_app Sorted Sort sorted_step sort_step f ts)) ∙ e) in
      let plains = sym (fold_at_app Bool Bool formula_plain_step term_plain_step f ts) ∙ plain in
      let inner = terms_at (map normal_term ts) terms in
      ap (λ (k : B). sort_of (k terms) now scope) (fold_at_app A B form_step term_form_step f ts) ∙ sort_of_app f inner now scope
      ∙ result_from (map sort_of inner) (slice_get now.ranks f.0) now scope s o.0 (more.ranks f.0 o.0 o.1) o.2 (arguments ts each o.0.args sorts o.3 plains now terms scope more stand)

  at_term_choice : (c : Formula) (a b : Fterm) → P c → Q a → Q b → Q (Fterm.Ite c a b)
  at_term_choice c a b pc qa qb sorts s e plain = absurd (false≢true (sym (fold_at_term_ite Bool Bool formula_plain_step term_plain_step c a b) ∙ plain))

  cases : Cases P Q
  cases = record { constant = at_constant; predicate = at_predicate; equation = at_equation; negation = at_negation; conjunction = at_conjunction; disjunction = at_disjunction; equivalence = at_equivalence; choice = at_choice; quantifier = at_quantifier; variable = at_variable; application = at_application; term_choice = at_term_choice }

  pub forms_sorted : (f : Formula) → P f
  forms_sorted = formula_induction P Q cases

-- nothing is in scope
pub form_is_sorted : (sig : Sig) (f : Formula) → is_well_sorted f sig [] ≡ true → is_plain f ≡ true → FormIsSorted sig [] (normal_form f true [] [] (length sig.ranks))
form_is_sorted sig f closed plain = forms_sorted sig f [] closed plain true sig [] [] (same_signature sig) refl tt

pub normal_forms_are_sorted : NormalFormsAreSorted
normal_forms_are_sorted sig f closed plain = (form_is_sorted sig f closed plain).sorted
