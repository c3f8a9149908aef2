-- Junctions and quantifiers of normal forms, with Skolem functions that find what there is.
use Rattle.std.proofs.Common.{◌≡◌, ℕ, zero, suc, ◌+◌, ◌<◌, ◌≤◌, ◌==◌, Bool, true, false, ◌&&◌, ◌||◌, not, cond, inl, inr, List, [], ◌∷◌, ◌++◌, length, map, ap, refl, sym, subst, ◌∙◌, arith, length-append, append_assoc}
use Rattle.std.specs.Prelude.{slice_index, nat_lt}
use Rattle.std.specs.List.{list_all}
use Rattle.std.proofs.lemmas.Bool.{and_parts, and_from, or_cases, ltb-true, lt-ltb, eq-eqb, ne_eqb, cases_Bool, false≢true, both_ways}
use Rattle.std.proofs.lemmas.List.{append-nil, map-append}
use Rattle.fm_base.specs.Interpretations.{Reading, values_of}
use Rattle.fm_base.specs.Models.{IsElements}
use Rattle.fm_base.specs.Truth.{Truth, all_true, some_true, block, any_below, all_below}
use Rattle.fm_base.specs.declared.ids.SortId.{SortId}
use Rattle.fm_base.specs.declared.signature.Rank.{Rank}
use Rattle.fm_base.specs.declared.formula.Nnf
use Rattle.fm_base.specs.declared.formula.Nnf.{Nnf}
use Rattle.fm_base.specs.declared.formula.Patom.{Patom}
use Rattle.fm_base.specs.declared.formula.Pterm
use Rattle.fm_base.specs.declared.formula.Pterm.{Pterm}
use Rattle.fm_base.proofs.Quantified.{every_tuple, from_every_tuple, from_some_tuple}
use Rattle.fm_base.specs.Normal.{Valued, value, patom_true, signed}
use Rattle.fm_base.specs.Expansions.{Symbols, Agree, RanksFit, with_symbols}
use Rattle.fm_nnf.specs.NormalTruth.{nnf_true, nnf_step, is_within, within_step, is_atom_below, is_term_below, all_of}
use Rattle.fm_nnf.specs.NormalForm.{Former, formed_all, formed_and, formed_or, formed_each, formed_some, formed_literal, skolem_terms, skolem_ranks, all_variables}
use Rattle.fm_base.proofs.NormalTerms.{value_of_app}
use Rattle.fm_nnf.proofs.Normals.{below_of_app, below_of_var, fold_of_lit, fold_of_and, fold_of_or, fold_of_all}
use Rattle.fm_nnf.proofs.Tuples.{elements_length, elements_append, own_values, front_values, tuple_elements, elements_tuple}
use Rattle.fm_nnf.proofs.Locals.{Local, agree_less, agree_chain, local_terms, fits_along, fits_both}
use Rattle.fm_nnf.proofs.Forming.{all_values, Stable, Ready, Inhabited, Forms, AllForms, all_forms, fits_split, more_terms}

along : (x : Nnf) (t : Truth) → nnf_true x ≡ t → (m : Reading) (env : List ℕ) → nnf_true x m env ≡ t m env
along x t e m env = ap (λ (u : Truth). u m env) e

pub forms_and : (sorts bound depth : ℕ) (ks : List (Former Nnf)) (ts : List Truth) → AllForms sorts bound depth ks ts → Forms sorts bound depth (formed_and ks) (all_true ts)
forms_and sorts bound depth ks ts h terms scope next ready =
    let x = all_forms sorts bound depth ks ts h terms scope next ready in
    let r = formed_all ks terms scope next in
    record {
      within = fold_of_and Bool (within_step (next + length r.1) sorts) r.0 ∙ x.within;
      sound = λ m fits env at e. (x.sound m fits env at).0 (sym (along (Nnf.And r.0) (all_true (map nnf_true r.0)) (fold_of_and Truth nnf_step r.0) m env) ∙ e);
      expands = λ size some a. (let y = x.expands size some a in record { at = y.at; agrees = y.agrees; fits = y.fits; holds = λ env at e. along (Nnf.And r.0) (all_true (map nnf_true r.0)) (fold_of_and Truth nnf_step r.0) (with_symbols size y.at) env ∙ (y.holds env at tt).0 e });
    }

pub forms_or : (sorts bound depth : ℕ) (ks : List (Former Nnf)) (ts : List Truth) → AllForms sorts bound depth ks ts → Forms sorts bound depth (formed_or ks) (some_true ts)
forms_or sorts bound depth ks ts h terms scope next ready =
    let x = all_forms sorts bound depth ks ts h terms scope next ready in
    let r = formed_all ks terms scope next in
    record {
      within = fold_of_or Bool (within_step (next + length r.1) sorts) r.0 ∙ x.within;
      sound = λ m fits env at e. (x.sound m fits env at).1 (sym (along (Nnf.Or r.0) (some_true (map nnf_true r.0)) (fold_of_or Truth nnf_step r.0) m env) ∙ e);
      expands = λ size some a. (let y = x.expands size some a in record { at = y.at; agrees = y.agrees; fits = y.fits; holds = λ env at e. along (Nnf.Or r.0) (some_true (map nnf_true r.0)) (fold_of_or Truth nnf_step r.0) (with_symbols size y.at) env ∙ (y.holds env at tt).1 e });
    }

-- another meaning that is the same truth
pub forms_same : (sorts bound depth : ℕ) (k : Former Nnf) (t u : Truth) → ((m : Reading) (env : List ℕ) → u m env ≡ t m env) → Forms sorts bound depth k t → Forms sorts bound depth k u
forms_same sorts bound depth k t u same h terms scope next ready =
    let x = h terms scope next ready in
    record {
      within = x.within;
      sound = λ m fits env at e. same m (all_values terms m env) ∙ x.sound m fits env at e;
      expands = λ size some a. (let y = x.expands size some a in record { at = y.at; agrees = y.agrees; fits = y.fits; holds = λ env at e. y.holds env at (sym (same (with_symbols size a) (all_values terms (with_symbols size a) env)) ∙ e) });
    }

values_both : (m : Reading) (env : List ℕ) (ts us : List Pterm) → all_values (ts ++ us) m env ≡ all_values ts m env ++ all_values us m env
values_both m env ts us = map-append (λ (t : Pterm). value t m env) ts us

below_both : (n : ℕ) (ts us : List Pterm) → all_of (map (is_term_below n) ts) ≡ true → all_of (map (is_term_below n) us) ≡ true → all_of (map (is_term_below n) (ts ++ us)) ≡ true
below_both n [] us p q = q
below_both n (t ∷ ts) us p q = let r = and_parts (is_term_below n t) (all_of (map (is_term_below n) ts)) p in and_from (is_term_below n t) (all_of (map (is_term_below n) (ts ++ us))) r.0 (below_both n ts us r.1 q)

variables_below : (n k : ℕ) (ss : List SortId) → all_of (map (is_term_below n) (all_variables k ss)) ≡ true
variables_below n k [] = refl
variables_below n k (s ∷ ss) = and_from (is_term_below n (Pterm.Var k)) (all_of (map (is_term_below n) (all_variables (suc k) ss))) (below_of_var n k) (variables_below n (suc k) ss)

variables_long : (k : ℕ) (ss : List SortId) → length (all_variables k ss) ≡ length ss
variables_long k [] = refl
variables_long k (s ∷ ss) = ap suc (variables_long (suc k) ss)

-- a universal block
ready_each : (bound depth : ℕ) (terms : List Pterm) (scope vars : List SortId) (next : ℕ) → Ready bound depth terms scope next → Ready bound (depth + length vars) (terms ++ all_variables (length scope) vars) (scope ++ vars) next
ready_each bound depth terms scope vars next ready =
    let l = length-append terms (all_variables (length scope) vars) in
    let v = variables_long (length scope) vars in
    let s = length-append scope vars in
    let d = ready.long in
    record {
      old = ready.old;
      long = omega (arith, l, v, d);
      below = below_both next terms (all_variables (length scope) vars) ready.below (variables_below next (length scope) vars);
      stable = λ m env xs le.
          let a = ready.stable m env xs (omega (arith, s)) in
          let b = front_values m (length scope) vars env xs (omega (arith, s)) in
          values_both m (env ++ xs) terms (all_variables (length scope) vars) ∙ (λ i. a i ++ b i) ∙ sym (values_both m env terms (all_variables (length scope) vars));
    }

each_values : (m : Reading) (terms : List Pterm) (scope vars : List SortId) → Stable terms scope → (env xs : List ℕ) → IsElements m scope env → IsElements m vars xs → all_values (terms ++ all_variables (length scope) vars) m (env ++ xs) ≡ all_values terms m env ++ xs
each_values m terms scope vars stable env xs at el =
    let n = elements_length m scope env at in
    let a = stable m env xs (omega (arith, n)) in
    let b = own_values m (length scope) vars env xs (sym n) (elements_length m vars xs el) in
    values_both m (env ++ xs) terms (all_variables (length scope) vars) ∙ (λ i. a i ++ b i)

pub forms_each : (sorts bound depth : ℕ) (vars : List SortId) (k : Former Nnf) (t : Truth) → list_all (λ (s : SortId). nat_lt s.0 sorts) vars ≡ true → Forms sorts bound (depth + length vars) k t → Forms sorts bound depth (formed_each vars k) (λ m env. block m true vars (λ inner. t m inner) env)
forms_each sorts bound depth vars k t range h terms scope next ready =
    let more : List Pterm = terms ++ all_variables (length scope) vars in
    let r = k more (scope ++ vars) next in
    let x = h more (scope ++ vars) next (ready_each bound depth terms scope vars next ready) in
    let is = along (Nnf.All vars r.0) (λ m env. block m true vars (λ inner. nnf_true r.0 m inner) env) (fold_of_all Truth nnf_step vars r.0) in
    record {
      within = fold_of_all Bool (within_step (next + length r.1) sorts) vars r.0 ∙ and_from (list_all (λ (s : SortId). nat_lt s.0 sorts) vars) (is_within (next + length r.1) sorts r.0) range x.within;
      sound = λ m fits env at e. from_every_tuple m vars (λ inner. t m inner) (all_values terms m env) (λ xs el.
          let tree = every_tuple m vars (λ inner. nnf_true r.0 m inner) env (sym (is m env) ∙ e) xs el in
          subst (λ (ys : List ℕ). t m ys ≡ true) (each_values m terms scope vars ready.stable env xs at el) (x.sound m fits (env ++ xs) (elements_append m scope vars env xs at el) tree));
      expands = λ size some a.
          let y = x.expands size some a in
          record {
            at = y.at;
            agrees = y.agrees;
            fits = y.fits;
            holds = λ env at e. is (with_symbols size y.at) env ∙ from_every_tuple (with_symbols size y.at) vars (λ inner. nnf_true r.0 (with_symbols size y.at) inner) env (λ xs el.
                let old = every_tuple (with_symbols size a) vars (λ inner. t (with_symbols size a) inner) (all_values terms (with_symbols size a) env) e xs el in
                y.holds (env ++ xs) (elements_append (with_symbols size y.at) scope vars env xs at el) (subst (λ (ys : List ℕ). t (with_symbols size a) ys ≡ true) (sym (each_values (with_symbols size a) terms scope vars ready.stable env xs at el)) old));
          };
    }

-- the greatest number below n that passes, else 0
unfoldable found : ℕ → (ℕ → Bool) → ℕ
found zero p = zero
found (suc n) p = cond (p n) n (found n p)

found_step : (b : Bool) (n k : ℕ) → k < suc n → cond b n k < suc n
found_step true n k lt = omega arith
found_step false n k lt = lt

found_below : (n : ℕ) (p : ℕ → Bool) → found n p < suc n
unfolding found
found_below zero p = omega arith
found_below (suc n) p = let h = found_below n p in found_last (p n) n (found n p) h
  where
    found_last : (b : Bool) (n k : ℕ) → k < suc n → cond b n k < suc (suc n)
    found_last true n k lt = omega arith
    found_last false n k lt = omega (arith, lt)

found_within : (n : ℕ) (p : ℕ → Bool) → 0 < n → found n p < n
unfolding found
found_within zero p lt = lt
found_within (suc n) p lt = found_step (p n) n (found n p) (found_below n p)

found_passes : (n : ℕ) (p : ℕ → Bool) → any_below n p ≡ true → p (found n p) ≡ true
unfolding found any_below
found_passes zero p e = absurd (false≢true e)
found_passes (suc n) p e =
    elim (cases_Bool (p n)) [
      | inl h ↦ subst (λ (b : Bool). p (cond b n (found n p)) ≡ true) (sym h) h
      | inr h ↦
          let rest : any_below n p ≡ true = elim (or_cases (any_below n p) (p n) e) [ inl x ↦ x | inr x ↦ absurd (both_ways (p n) h x) ] in
          subst (λ (b : Bool). p (cond b n (found n p)) ≡ true) (sym h) (found_passes n p rest)
    ]

-- a tuple at which the body is true, where there is one
pub witness : Reading → List SortId → (List ℕ → Bool) → List ℕ → List ℕ
witness m [] p env = []
witness m (s ∷ ss) p env = let x = found (m.size s.0) (λ k. block m false ss p (env ++ k ∷ [])) in x ∷ witness m ss p (env ++ x ∷ [])

pub witness_elements : (m : Reading) (sorts : ℕ) (vars : List SortId) (p : List ℕ → Bool) (env : List ℕ) → Inhabited sorts m.size → list_all (λ (s : SortId). nat_lt s.0 sorts) vars ≡ true → IsElements m vars (witness m vars p env)
unfolding witness
witness_elements m sorts [] p env some range = tt
witness_elements m sorts (s ∷ ss) p env some range =
    let r = and_parts (nat_lt s.0 sorts) (list_all (λ (u : SortId). nat_lt u.0 sorts) ss) range in
    let q : ℕ → Bool = λ k. block m false ss p (env ++ k ∷ []) in
    (found_within (m.size s.0) q (some s.0 (ltb-true s.0 sorts r.0)), witness_elements m sorts ss p (env ++ found (m.size s.0) q ∷ []) some r.1)

pub witness_passes : (m : Reading) (vars : List SortId) (p : List ℕ → Bool) (env : List ℕ) → block m false vars p env ≡ true → p (env ++ witness m vars p env) ≡ true
unfolding witness
witness_passes m [] p env e = subst (λ (ys : List ℕ). p ys ≡ true) (sym (append-nil env)) e
witness_passes m (s ∷ ss) p env e =
    let q : ℕ → Bool = λ k. block m false ss p (env ++ k ∷ []) in
    let x = found (m.size s.0) q in
    let here : block m false ss p (env ++ x ∷ []) ≡ true = found_passes (m.size s.0) q e in
    subst (λ (ys : List ℕ). p ys ≡ true) (append_assoc env (x ∷ []) (witness m ss p (env ++ x ∷ []))) (witness_passes m ss p (env ++ x ∷ []) here)

-- Skolem symbols
pub skolem_ranks_long : (scope vars : List SortId) → length (skolem_ranks scope vars) ≡ length vars
skolem_ranks_long scope [] = refl
skolem_ranks_long scope (v ∷ vs) = ap suc (skolem_ranks_long scope vs)

skolem_terms_long : (scope : List SortId) (next : ℕ) (vars : List SortId) → length (skolem_terms scope next vars) ≡ length vars
skolem_terms_long scope next [] = refl
skolem_terms_long scope next (v ∷ vs) = ap suc (skolem_terms_long scope (next + 1) vs)

skolem_below : (scope : List SortId) (next : ℕ) (vars : List SortId) (n : ℕ) → next + length vars ≤ n → all_of (map (is_term_below n) (skolem_terms scope next vars)) ≡ true
skolem_below scope next [] n le = refl
skolem_below scope next (v ∷ vs) n le = and_from (is_term_below n (Pterm.App (record { 0 = next }) (all_variables zero scope))) (all_of (map (is_term_below n) (skolem_terms scope (next + 1) vs)))
    (below_of_app n (record { 0 = next }) (all_variables zero scope) ∙ and_from (nat_lt next n) (all_of (map (is_term_below n) (all_variables zero scope))) (lt-ltb next n (omega arith)) (variables_below n zero scope)) (skolem_below scope (next + 1) vs n (omega arith))

as_valued : (m : Reading) (env : List ℕ) (ts : List Pterm) → map (λ (t : Valued). t m env) (map value ts) ≡ all_values ts m env
as_valued m env [] = refl
as_valued m env (t ∷ ts) = let rest = as_valued m env ts in λ i. value t m env ∷ rest i

skolem_value : (m : Reading) (scope : List SortId) (p : ℕ) (env : List ℕ) → value (Pterm.App (record { 0 = p }) (all_variables zero scope)) m env ≡ m.at p (all_values (all_variables zero scope) m env)
skolem_value m scope p env = value_of_app (record { 0 = p }) (all_variables zero scope) m env ∙ ap (m.at p) (as_valued m env (all_variables zero scope))

skolem_stable : (scope : List SortId) (next : ℕ) (vars : List SortId) → Stable (skolem_terms scope next vars) scope
skolem_stable scope next [] m env xs le = refl
skolem_stable scope next (v ∷ vs) m env xs le =
    let a = skolem_value m scope next (env ++ xs) ∙ ap (m.at next) (front_values m zero scope env xs (omega arith)) ∙ sym (skolem_value m scope next env) in
    let b = skolem_stable scope (next + 1) vs m env xs le in
    λ i. a i ∷ b i

symbol_values : Reading → ℕ → List SortId → List ℕ → List ℕ
symbol_values m next [] env = []
symbol_values m next (v ∷ vs) env = m.at next env ∷ symbol_values m (next + 1) vs env

skolem_values : (m : Reading) (scope : List SortId) (next : ℕ) (vars : List SortId) (env : List ℕ) → IsElements m scope env → all_values (skolem_terms scope next vars) m env ≡ symbol_values m next vars env
unfolding symbol_values
skolem_values m scope next [] env at = refl
skolem_values m scope next (v ∷ vs) env at =
    let a = skolem_value m scope next env ∙ ap (m.at next) (own_values m zero scope [] env refl (elements_length m scope env at)) in
    let b = skolem_values m scope (next + 1) vs env at in
    λ i. a i ∷ b i

symbol_elements : (m : Reading) (scope : List SortId) (next : ℕ) (vars : List SortId) (env : List ℕ) → IsElements m scope env → RanksFit m next (skolem_ranks scope vars) → IsElements m vars (symbol_values m next vars env)
unfolding symbol_values
symbol_elements m scope next [] env at fits = tt
symbol_elements m scope next (v ∷ vs) env at fits = (fits.0 env (elements_tuple m scope env at), symbol_elements m scope (next + 1) vs env at fits.1)

pub rest_of : List ℕ → List ℕ
rest_of [] = []
rest_of (y ∷ ys) = ys

-- the symbols from p on give what w gives, one after the other
abbrev skolemized : List SortId → (List ℕ → List ℕ) → Symbols → ℕ → Symbols
skolemized [] w a p f xs = a f xs
skolemized (v ∷ vs) w a p f xs = cond (f == p) (slice_index (w xs) zero) (skolemized vs (λ ys. rest_of (w ys)) a (p + 1) f xs)

skolemized_below : (vars : List SortId) (w : List ℕ → List ℕ) (a : Symbols) (p f : ℕ) (xs : List ℕ) → f < p → skolemized vars w a p f xs ≡ a f xs
skolemized_below [] w a p f xs lt = refl
skolemized_below (v ∷ vs) w a p f xs lt = ap (λ (b : Bool). cond b (slice_index (w xs) zero) (skolemized vs (λ ys. rest_of (w ys)) a (p + 1) f xs)) (ne_eqb f p (λ e. absurd (omega (arith, e, lt)))) ∙ skolemized_below vs (λ ys. rest_of (w ys)) a (p + 1) f xs (omega arith)

skolemized_above : (v : SortId) (vs : List SortId) (w : List ℕ → List ℕ) (a : Symbols) (p f : ℕ) (xs : List ℕ) → p + 1 ≤ f → skolemized (v ∷ vs) w a p f xs ≡ skolemized vs (λ ys. rest_of (w ys)) a (p + 1) f xs
skolemized_above v vs w a p f xs le = ap (λ (b : Bool). cond b (slice_index (w xs) zero) (skolemized vs (λ ys. rest_of (w ys)) a (p + 1) f xs)) (ne_eqb f p (λ e. absurd (omega (arith, e, le))))

skolemized_here : (v : SortId) (vs : List SortId) (w : List ℕ → List ℕ) (a : Symbols) (p : ℕ) (xs : List ℕ) → skolemized (v ∷ vs) w a p p xs ≡ slice_index (w xs) zero
skolemized_here v vs w a p xs = ap (λ (b : Bool). cond b (slice_index (w xs) zero) (skolemized vs (λ ys. rest_of (w ys)) a (p + 1) p xs)) (eq-eqb p p refl)

values_from : (size : ℕ → ℕ) (b c : Symbols) (p : ℕ) (vars : List SortId) (env : List ℕ) → ((f : ℕ) (xs : List ℕ) → p ≤ f → c f xs ≡ b f xs) → symbol_values (with_symbols size c) p vars env ≡ symbol_values (with_symbols size b) p vars env
unfolding symbol_values
values_from size b c p [] env agree = refl
values_from size b c p (v ∷ vs) env agree = let x = agree p env (omega arith) in let xs = values_from size b c (p + 1) vs env (λ f ys le. agree f ys (omega arith)) in λ i. x i ∷ xs i

fits_from : (size : ℕ → ℕ) (b c : Symbols) (p : ℕ) (rs : List Rank) → ((f : ℕ) (xs : List ℕ) → p ≤ f → c f xs ≡ b f xs) → RanksFit (with_symbols size b) p rs → RanksFit (with_symbols size c) p rs
fits_from size b c p [] agree h = tt
fits_from size b c p (r ∷ rs) agree h = ((λ xs t. subst (λ (n : ℕ). n < values_of (with_symbols size b) r.result) (sym (agree p xs (omega arith))) (h.0 xs t)), fits_from size b c (p + 1) rs (λ f ys le. agree f ys (omega arith)) h.1)

whole_again : (ys : List ℕ) (n : ℕ) → length ys ≡ suc n → slice_index ys zero ∷ rest_of ys ≡ ys
unfolding rest_of
whole_again [] n e = absurd (omega (arith, e))
whole_again (y ∷ ys) n e = refl

rest_long : (ys : List ℕ) (n : ℕ) → length ys ≡ suc n → length (rest_of ys) ≡ n
unfolding rest_of
rest_long [] n e = absurd (omega (arith, e))
rest_long (y ∷ ys) n e = omega (arith, e)

rest_elements : (m : Reading) (v : SortId) (vs : List SortId) (ys : List ℕ) → IsElements m (v ∷ vs) ys → IsElements m vs (rest_of ys)
unfolding rest_of
rest_elements m v vs [] h = absurd h
rest_elements m v vs (y ∷ ys) h = h.1

first_element : (m : Reading) (v : SortId) (vs : List SortId) (ys : List ℕ) → IsElements m (v ∷ vs) ys → slice_index ys zero < m.size v.0
first_element m v vs [] h = absurd h
first_element m v vs (y ∷ ys) h = h.0

skolemized_values : (size : ℕ → ℕ) (vars : List SortId) (w : List ℕ → List ℕ) (a : Symbols) (p : ℕ) (env : List ℕ) → length (w env) ≡ length vars → symbol_values (with_symbols size (skolemized vars w a p)) p vars env ≡ w env
unfolding symbol_values
skolemized_values size [] w a p env e = none (w env) e
  where
    none : (ys : List ℕ) → length ys ≡ 0 → [] ≡ ys
    none [] e = refl
    none (y ∷ ys) e = absurd (omega (arith, e))
skolemized_values size (v ∷ vs) w a p env e =
    let head = skolemized_here v vs w a p env in
    let e' : length (w env) ≡ suc (length vs) = omega (arith, e) in
    let tail = values_from size (skolemized vs (λ ys. rest_of (w ys)) a (p + 1)) (skolemized (v ∷ vs) w a p) (p + 1) vs env (λ f xs le. skolemized_above v vs w a p f xs le) ∙ skolemized_values size vs (λ ys. rest_of (w ys)) a (p + 1) env (rest_long (w env) (length vs) e') in
    (λ i. head i ∷ tail i) ∙ whole_again (w env) (length vs) e'

skolemized_fit : (size : ℕ → ℕ) (scope vars : List SortId) (w : List ℕ → List ℕ) (a : Symbols) (p : ℕ) → ((xs : List ℕ) → IsElements (with_symbols size a) scope xs → IsElements (with_symbols size a) vars (w xs)) → RanksFit (with_symbols size (skolemized vars w a p)) p (skolem_ranks scope vars)
skolemized_fit size scope [] w a p h = tt
skolemized_fit size scope (v ∷ vs) w a p h = (
  (λ xs t. subst (λ (n : ℕ). n < size v.0) (sym (skolemized_here v vs w a p xs)) (first_element (with_symbols size a) v vs (w xs) (h xs (tuple_elements (with_symbols size a) scope xs t)))),
  fits_from size (skolemized vs (λ ys. rest_of (w ys)) a (p + 1)) (skolemized (v ∷ vs) w a p) (p + 1) (skolem_ranks scope vs) (λ f xs le. skolemized_above v vs w a p f xs le) (skolemized_fit size scope vs (λ ys. rest_of (w ys)) a (p + 1) (λ xs at. rest_elements (with_symbols size a) v vs (w xs) (h xs at))),
)

ready_some : (bound depth : ℕ) (terms : List Pterm) (scope vars : List SortId) (next : ℕ) → Ready bound depth terms scope next → Ready bound (depth + length vars) (terms ++ skolem_terms scope next vars) scope (next + length vars)
ready_some bound depth terms scope vars next ready =
    let l = length-append terms (skolem_terms scope next vars) in
    let v = skolem_terms_long scope next vars in
    let d = ready.long in
    let o = ready.old in
    record {
      old = omega (arith, o);
      long = omega (arith, l, v, d);
      below = below_both (next + length vars) terms (skolem_terms scope next vars) (more_terms next (next + length vars) 0 (omega arith) terms ready.below) (skolem_below scope next vars (next + length vars) (omega arith));
      stable = λ m env xs le.
          let a = ready.stable m env xs le in
          let b = skolem_stable scope next vars m env xs le in
          values_both m (env ++ xs) terms (skolem_terms scope next vars) ∙ (λ i. a i ++ b i) ∙ sym (values_both m env terms (skolem_terms scope next vars));
    }

some_values : (m : Reading) (terms : List Pterm) (scope vars : List SortId) (next : ℕ) (env : List ℕ) → IsElements m scope env → all_values (terms ++ skolem_terms scope next vars) m env ≡ all_values terms m env ++ symbol_values m next vars env
some_values m terms scope vars next env at = values_both m env terms (skolem_terms scope next vars) ∙ ap (λ (ys : List ℕ). all_values terms m env ++ ys) (skolem_values m scope next vars env at)

pub forms_some : (sorts bound depth : ℕ) (vars : List SortId) (k : Former Nnf) (t : Truth) → list_all (λ (s : SortId). nat_lt s.0 sorts) vars ≡ true → Local bound t → Forms sorts bound (depth + length vars) k t → Forms sorts bound depth (formed_some vars k) (λ m env. block m false vars (λ inner. t m inner) env)
forms_some sorts bound depth vars k t range local h terms scope next ready =
    let more : List Pterm = terms ++ skolem_terms scope next vars in
    let n = next + length vars in
    let r = k more scope n in
    let x = h more scope n (ready_some bound depth terms scope vars next ready) in
    let sl = skolem_ranks_long scope vars in
    let l = length-append (skolem_ranks scope vars) r.1 in
    record {
      within = subst (λ (i : ℕ). is_within i sorts r.0 ≡ true) (omega (arith, l, sl)) x.within;
      sound = λ m fits env at e.
          let p = fits_split m next (skolem_ranks scope vars) r.1 fits in
          let q : RanksFit m n r.1 = subst (λ (i : ℕ). RanksFit m i r.1) (omega (arith, sl)) p.1 in
          let body = x.sound m q env at e in
          from_some_tuple m vars (λ inner. t m inner) (all_values terms m env) (symbol_values m next vars env) (symbol_elements m scope next vars env at p.0) (subst (λ (ys : List ℕ). t m ys ≡ true) (some_values m terms scope vars next env at) body);
      expands = λ size some a.
          let w : List ℕ → List ℕ = λ xs. witness (with_symbols size a) vars (λ inner. t (with_symbols size a) inner) (all_values terms (with_symbols size a) xs) in
          let s : Symbols = skolemized vars w a next in
          let sb : Agree next a s = λ f xs lt. skolemized_below vars w a next f xs lt in
          let wit : (xs : List ℕ) → IsElements (with_symbols size a) vars (w xs) = λ xs. witness_elements (with_symbols size a) sorts vars (λ inner. t (with_symbols size a) inner) (all_values terms (with_symbols size a) xs) some range in
          let sf = skolemized_fit size scope vars w a next (λ xs at. wit xs) in
          let y = x.expands size some s in
          record {
            at = y.at;
            agrees = agree_chain next a s y.at sb (agree_less next n s y.at (omega arith) y.agrees);
            fits = fits_both (with_symbols size y.at) next (skolem_ranks scope vars) r.1 (fits_along size s y.at n next (skolem_ranks scope vars) (omega (arith, sl)) y.agrees sf) (subst (λ (i : ℕ). RanksFit (with_symbols size y.at) i r.1) (omega (arith, sl)) y.fits);
            holds = λ env at e.
                let long = elements_length (with_symbols size a) vars (w env) (wit env) in
                let old = ready.old in
                let v1 = some_values (with_symbols size s) terms scope vars next env at in
                let v2 = local_terms next terms ready.below size a s env sb in
                let v3 = skolemized_values size vars w a next env long in
                let vals : all_values more (with_symbols size s) env ≡ all_values terms (with_symbols size a) env ++ w env = v1 ∙ (λ i. v2 i ++ v3 i) in
                let was = witness_passes (with_symbols size a) vars (λ inner. t (with_symbols size a) inner) (all_values terms (with_symbols size a) env) e in
                let moved = local size a s (all_values terms (with_symbols size a) env ++ w env) (agree_less bound next a s old sb) in
                y.holds env at (ap (t (with_symbols size s)) vals ∙ moved ∙ was);
          };
    }

pub forms_literal : (sorts bound depth : ℕ) (positive : Bool) (atom : List Pterm → Patom) (t : Truth) → ((terms : List Pterm) → length terms ≡ depth → (m : Reading) (env : List ℕ) → patom_true m env (atom terms) ≡ t m (all_values terms m env)) → ((terms : List Pterm) (n : ℕ) → bound ≤ n → length terms ≡ depth → all_of (map (is_term_below n) terms) ≡ true → is_atom_below n (atom terms) ≡ true) → Local bound t
    → Forms sorts bound depth (formed_literal positive atom) (λ m env. signed positive (t m env))
forms_literal sorts bound depth positive atom t same below local terms scope next ready =
    let is : (m : Reading) (env : List ℕ) → nnf_true (Nnf.Lit positive (atom terms)) m env ≡ signed positive (t m (all_values terms m env)) = λ m env. along (Nnf.Lit positive (atom terms)) (λ n e. signed positive (patom_true n e (atom terms))) (fold_of_lit Truth nnf_step positive (atom terms)) m env ∙ ap (signed positive) (same terms ready.long m env) in
    let old = ready.old in
    record {
      within = fold_of_lit Bool (within_step (next + 0) sorts) positive (atom terms) ∙ below terms (next + 0) (omega (arith, old)) ready.long (more_terms next (next + 0) 0 (omega arith) terms ready.below);
      sound = λ m fits env at e. sym (is m env) ∙ e;
      expands = λ size some a. record { at = a; agrees = λ f xs lt. refl; fits = tt; holds = λ env at e. is (with_symbols size a) env ∙ e };
    }

-- de Morgan for blocks
not_all : (n : ℕ) (p : ℕ → Bool) → any_below n (λ k. not (p k)) ≡ not (all_below n p)
unfolding any_below all_below
not_all zero p = refl
not_all (suc n) p = let e = not_all n p in (λ i. e i || not (p n)) ∙ morgan (all_below n p) (p n)
  where
    morgan : (a b : Bool) → (not a || not b) ≡ not (a && b)
    morgan true b = refl
    morgan false b = refl

not_any : (n : ℕ) (p : ℕ → Bool) → all_below n (λ k. not (p k)) ≡ not (any_below n p)
unfolding any_below all_below
not_any zero p = refl
not_any (suc n) p = let e = not_any n p in (λ i. e i && not (p n)) ∙ morgan (any_below n p) (p n)
  where
    morgan : (a b : Bool) → (not a && not b) ≡ not (a || b)
    morgan true b = refl
    morgan false b = refl

pub not_every : (m : Reading) (vars : List SortId) (p : List ℕ → Bool) (env : List ℕ) → block m false vars (λ e. not (p e)) env ≡ not (block m true vars p env)
not_every m [] p env = refl
not_every m (s ∷ ss) p env = (λ i. any_below (m.size s.0) (λ x. not_every m ss p (env ++ x ∷ []) i)) ∙ not_all (m.size s.0) (λ x. block m true ss p (env ++ x ∷ []))

pub not_some : (m : Reading) (vars : List SortId) (p : List ℕ → Bool) (env : List ℕ) → block m true vars (λ e. not (p e)) env ≡ not (block m false vars p env)
not_some m [] p env = refl
not_some m (s ∷ ss) p env = (λ i. all_below (m.size s.0) (λ x. not_some m ss p (env ++ x ∷ []) i)) ∙ not_any (m.size s.0) (λ x. block m false ss p (env ++ x ∷ []))
