-- The count on the formula is the size of its normal form.
use Rattle.std.proofs.Common.{◌≡◌, ℕ, zero, suc, ◌+◌, Bool, true, false, not, List, [], ◌∷◌, ◌++◌, length, map, ap, refl, sym, subst, ◌∙◌, arith, length-append}
use Rattle.std.specs.Prelude.{get_or, replicate}
use Rattle.std.proofs.lemmas.List.{map-append}
use mathlib.Core.Bool.{beq}
use Rattle.fm_base.specs.declared.ids.SortId.{SortId}
use Rattle.fm_base.specs.declared.ids.SymId.{SymId}
use Rattle.fm_base.specs.declared.formula.Formula
use Rattle.fm_base.specs.declared.formula.Formula.{Formula}
use Rattle.fm_base.specs.declared.formula.Fterm.{Fterm}
use Rattle.fm_base.specs.declared.formula.Nnf.{Nnf}
use Rattle.fm_base.specs.declared.formula.Patom.{Patom}
use Rattle.fm_base.specs.declared.formula.Pterm
use Rattle.fm_base.specs.declared.formula.Pterm.{Pterm}
use Rattle.fm_base.specs.declared.formula.Pterm.TheOpen.{Pterm-F}
use Rattle.fm_base.specs.declared.formula.Pterm.TheFolds.{fold-roll-Pterm}
use Rattle.fm_nnf.specs.NormalForm.{Former, Signed, formed_all, formed_and, formed_or, formed_junction, formed_literal, formed_quantifier, skolem_terms, with_sign, terms_at, form_step, term_form_step, normal, normal_form, normal_term, all_variables}
use Rattle.fm_nnf.specs.NormalSize.{total, term_nodes, term_nodes_step, nodes, nodes_step}
use Rattle.fm_nnf.specs.Counting.{Counted, count_all, term_counts, count_quantifier, count_step, term_count_step, normal_count, term_count}
use Rattle.fm_base.proofs.NormalTerms.{Each}
use Rattle.fm_nnf.proofs.Normals.{fold_of_lit, fold_of_and, fold_of_or, fold_of_all}
use Rattle.fm_nnf.proofs.Formulas.{Cases, formula_induction, fold_at_truth, fold_at_pred, fold_at_equal, fold_at_not, fold_at_and, fold_at_or, fold_at_iff, fold_at_ite, fold_at_quant, fold_at_var, fold_at_app, fold_at_term_ite}

nodes_of_var : (v : ℕ) → term_nodes (Pterm.Var v) ≡ 1
unfolding Pterm.roll-Pterm denote.Hole.Carrier.roll
nodes_of_var v = fold-roll-Pterm ℕ term_nodes_step (Pterm-F.Var v)

nodes_of_app : (f : SymId) (ts : List Pterm) → term_nodes (Pterm.App f ts) ≡ 1 + total (map term_nodes ts)
unfolding Pterm.roll-Pterm denote.Hole.Carrier.roll
nodes_of_app f ts = fold-roll-Pterm ℕ term_nodes_step (Pterm-F.App f ts)

abbrev Counts : Former Nnf → (List ℕ → ℕ → ℕ) → Type 0
Counts k c = (terms : List Pterm) (scope : List SortId) (next : ℕ) → nodes (k terms scope next).0 ≡ c (map term_nodes terms) (length scope)

abbrev P : Formula → Type 0
P f = (positive : Bool) → Counts (normal_form f positive) (normal_count f positive)

abbrev Q : Fterm → Type 0
Q t = (terms : List Pterm) → term_nodes (normal_term t terms) ≡ term_count t (map term_nodes terms)

abbrev A : Type 0
A = List Pterm → Pterm

abbrev B : Type 0
B = List ℕ → ℕ

variables_nodes : (k : ℕ) (vars : List SortId) → map term_nodes (all_variables k vars) ≡ replicate (length vars) 1
variables_nodes k [] = refl
variables_nodes k (v ∷ vs) = let x = nodes_of_var k in let xs = variables_nodes (suc k) vs in λ i. x i ∷ xs i

ones : (n : ℕ) → total (replicate n 1) ≡ n
ones zero = refl
ones (suc n) = let e = ones n in omega (arith, e)

skolem_nodes : (scope : List SortId) (next : ℕ) (vars : List SortId) → map term_nodes (skolem_terms scope next vars) ≡ replicate (length vars) (1 + length scope)
skolem_nodes scope next [] = refl
skolem_nodes scope next (v ∷ vs) =
    let x : term_nodes (Pterm.App (record { 0 = next }) (all_variables zero scope)) ≡ 1 + length scope = nodes_of_app (record { 0 = next }) (all_variables zero scope) ∙ ap (λ (ns : List ℕ). 1 + total ns) (variables_nodes zero scope) ∙ ap (λ (n : ℕ). 1 + n) (ones (length scope)) in
    let xs = skolem_nodes scope (next + 1) vs in
    λ i. x i ∷ xs i

lists : (fs : List Formula) → Each P fs → (positive : Bool) (terms : List Pterm) (scope : List SortId) (next : ℕ) → total (map nodes (formed_all (with_sign positive (map normal_form fs)) terms scope next).0) ≡ count_all positive (map normal_count fs) (map term_nodes terms) (length scope)
lists [] each positive terms scope next = refl
lists (f ∷ fs) each positive terms scope next =
    let x = each.0 positive terms scope next in
    let xs = lists fs each.1 positive terms scope (next + length (normal_form f positive terms scope next).1) in
    λ i. x i + xs i

arguments : (ts : List Fterm) → Each Q ts → (terms : List Pterm) → total (map term_nodes (terms_at (map normal_term ts) terms)) ≡ term_counts (map term_count ts) (map term_nodes terms)
arguments [] each terms = refl
arguments (t ∷ ts) each terms = let x = each.0 terms in let xs = arguments ts each.1 terms in λ i. x i + xs i

along : (f : Formula) (positive : Bool) (k : Former Nnf) (c : List ℕ → ℕ → ℕ) → normal_form f positive ≡ k → normal_count f positive ≡ c → Counts k c → Counts (normal_form f positive) (normal_count f positive)
along f positive k c e d h = subst (λ (j : Former Nnf). Counts j (normal_count f positive)) (sym e) (subst (λ (x : List ℕ → ℕ → ℕ). Counts k x) (sym d) h)

junction : (universal : Bool) (ks : List (Former Nnf)) (c : List ℕ → ℕ → ℕ) → ((terms : List Pterm) (scope : List SortId) (next : ℕ) → total (map nodes (formed_all ks terms scope next).0) ≡ c (map term_nodes terms) (length scope)) → Counts (formed_junction universal ks) (λ sizes u. 1 + c sizes u)
junction true ks c h terms scope next = fold_of_and ℕ nodes_step (formed_all ks terms scope next).0 ∙ ap (λ (n : ℕ). 1 + n) (h terms scope next)
junction false ks c h terms scope next = fold_of_or ℕ nodes_step (formed_all ks terms scope next).0 ∙ ap (λ (n : ℕ). 1 + n) (h terms scope next)

two_clauses : (a b c d : Former Nnf) (ca cb cc' cd : List ℕ → ℕ → ℕ) → Counts a ca → Counts b cb → Counts c cc' → Counts d cd → Counts (formed_and (formed_or (a ∷ b ∷ []) ∷ formed_or (c ∷ d ∷ []) ∷ [])) (λ sizes u. 3 + (ca sizes u + cb sizes u) + (cc' sizes u + cd sizes u))
two_clauses a b c d ca cb cc' cd ha hb hc hd terms scope next =
    let s = map term_nodes terms in
    let u = length scope in
    let one = junction false (a ∷ b ∷ []) (λ sizes v. ca sizes v + (cb sizes v + 0)) (λ ts sc n. (let x = ha ts sc n in let y = hb ts sc (n + length (a ts sc n).1) in λ i. x i + (y i + 0))) in
    let two = junction false (c ∷ d ∷ []) (λ sizes v. cc' sizes v + (cd sizes v + 0)) (λ ts sc n. (let x = hc ts sc n in let y = hd ts sc (n + length (c ts sc n).1) in λ i. x i + (y i + 0))) in
    let all = junction true (formed_or (a ∷ b ∷ []) ∷ formed_or (c ∷ d ∷ []) ∷ []) (λ sizes v. (1 + (ca sizes v + (cb sizes v + 0))) + ((1 + (cc' sizes v + (cd sizes v + 0))) + 0)) (λ ts sc n. (let x = one ts sc n in let y = two ts sc (n + length (formed_or (a ∷ b ∷ []) ts sc n).1) in λ i. x i + (y i + 0))) in
    all terms scope next ∙ omega arith

quantifier : (universal : Bool) (vars : List SortId) (k : Former Nnf) (c : List ℕ → ℕ → ℕ) → Counts k c → Counts (formed_quantifier universal vars k) (count_quantifier universal vars c)
quantifier true vars k c h terms scope next =
    let more : List Pterm = terms ++ all_variables (length scope) vars in
    let e = map-append term_nodes terms (all_variables (length scope) vars) ∙ ap (λ (ns : List ℕ). map term_nodes terms ++ ns) (variables_nodes (length scope) vars) in
    let l = length-append scope vars in
    fold_of_all ℕ nodes_step vars (k more (scope ++ vars) next).0 ∙ ap (λ (n : ℕ). 1 + n) (h more (scope ++ vars) next ∙ (λ i. c (e i) (l i)))
quantifier false vars k c h terms scope next =
    let more : List Pterm = terms ++ skolem_terms scope next vars in
    let e = map-append term_nodes terms (skolem_terms scope next vars) ∙ ap (λ (ns : List ℕ). map term_nodes terms ++ ns) (skolem_nodes scope next vars) in
    h more scope (next + length vars) ∙ ap (λ (ns : List ℕ). c ns (length scope)) e

index_nodes : (terms : List Pterm) (v : ℕ) → term_nodes (get_or terms v (Pterm.Var zero)) ≡ get_or (map term_nodes terms) v 1
index_nodes [] v = nodes_of_var zero
index_nodes (t ∷ ts) zero = refl
index_nodes (t ∷ ts) (suc v) = index_nodes ts v

abbrev N : Bool → Signed → Former Nnf
N positive k = k positive

abbrev C : Bool → Counted → List ℕ → ℕ → ℕ
C positive c = c positive

cases : Cases P Q
cases = record {
  constant = λ b positive. along (Formula.Truth b) positive (formed_junction (beq b positive) []) (λ sizes u. 1) (ap (N positive) (fold_at_truth Signed A form_step term_form_step b)) (ap (C positive) (fold_at_truth Counted B count_step term_count_step b)) (junction (beq b positive) [] (λ sizes u. 0) (λ terms scope next. refl));
  predicate = λ p ts each positive. along (Formula.Pred p ts) positive (formed_literal positive (λ terms. Patom.Pred p (terms_at (map normal_term ts) terms))) (λ sizes u. 1 + term_counts (map term_count ts) sizes) (ap (N positive) (fold_at_pred Signed A form_step term_form_step p ts)) (ap (C positive) (fold_at_pred Counted B count_step term_count_step p ts))
      (λ terms scope next. fold_of_lit ℕ nodes_step positive (Patom.Pred p (terms_at (map normal_term ts) terms)) ∙ ap (λ (n : ℕ). 1 + n) (arguments ts each terms));
  equation = λ a b qa qb positive. along (Formula.Equal a b) positive (formed_literal positive (λ terms. Patom.Equal (normal_term a terms) (normal_term b terms))) (λ sizes u. 1 + (term_count a sizes + term_count b sizes)) (ap (N positive) (fold_at_equal Signed A form_step term_form_step a b)) (ap (C positive) (fold_at_equal Counted B count_step term_count_step a b))
      (λ terms scope next. fold_of_lit ℕ nodes_step positive (Patom.Equal (normal_term a terms) (normal_term b terms)) ∙ (let x = qa terms in let y = qb terms in λ i. 1 + (x i + y i)));
  negation = λ a pa positive. along (Formula.Not a) positive (normal_form a (not positive)) (normal_count a (not positive)) (ap (N positive) (fold_at_not Signed A form_step term_form_step a)) (ap (C positive) (fold_at_not Counted B count_step term_count_step a)) (pa (not positive));
  conjunction = λ fs each positive. along (Formula.And fs) positive (formed_junction positive (with_sign positive (map normal_form fs))) (λ sizes u. 1 + count_all positive (map normal_count fs) sizes u) (ap (N positive) (fold_at_and Signed A form_step term_form_step fs)) (ap (C positive) (fold_at_and Counted B count_step term_count_step fs)) (junction positive (with_sign positive (map normal_form fs)) (count_all positive (map normal_count fs)) (lists fs each positive));
  disjunction = λ fs each positive. along (Formula.Or fs) positive (formed_junction (not positive) (with_sign positive (map normal_form fs))) (λ sizes u. 1 + count_all positive (map normal_count fs) sizes u) (ap (N positive) (fold_at_or Signed A form_step term_form_step fs)) (ap (C positive) (fold_at_or Counted B count_step term_count_step fs)) (junction (not positive) (with_sign positive (map normal_form fs)) (count_all positive (map normal_count fs)) (lists fs each positive));
  equivalence = λ a b pa pb positive. along (Formula.Iff a b) positive (formed_and (formed_or (normal_form a (not positive) ∷ normal_form b true ∷ []) ∷ formed_or (normal_form a positive ∷ normal_form b false ∷ []) ∷ [])) (λ sizes u. 3 + (normal_count a (not positive) sizes u + normal_count b true sizes u) + (normal_count a positive sizes u + normal_count b false sizes u)) (ap (N positive) (fold_at_iff Signed A form_step term_form_step a b)) (ap (C positive) (fold_at_iff Counted B count_step term_count_step a b))
      (two_clauses (normal_form a (not positive)) (normal_form b true) (normal_form a positive) (normal_form b false) (normal_count a (not positive)) (normal_count b true) (normal_count a positive) (normal_count b false) (pa (not positive)) (pb true) (pa positive) (pb false));
  choice = λ c a b pc pa pb positive. along (Formula.Ite c a b) positive (formed_and (formed_or (normal_form c false ∷ normal_form a positive ∷ []) ∷ formed_or (normal_form c true ∷ normal_form b positive ∷ []) ∷ [])) (λ sizes u. 3 + (normal_count c false sizes u + normal_count a positive sizes u) + (normal_count c true sizes u + normal_count b positive sizes u)) (ap (N positive) (fold_at_ite Signed A form_step term_form_step c a b)) (ap (C positive) (fold_at_ite Counted B count_step term_count_step c a b))
      (two_clauses (normal_form c false) (normal_form a positive) (normal_form c true) (normal_form b positive) (normal_count c false) (normal_count a positive) (normal_count c true) (normal_count b positive) (pc false) (pa positive) (pc true) (pb positive));
  quantifier = λ all vars body pb positive. along (Formula.Quant all vars body) positive (formed_quantifier (beq all positive) vars (normal_form body positive)) (count_quantifier (beq all positive) vars (normal_count body positive)) (ap (N positive) (fold_at_quant Signed A form_step term_form_step all vars body)) (ap (C positive) (fold_at_quant Counted B count_step term_count_step all vars body)) (quantifier (beq all positive) vars (normal_form body positive) (normal_count body positive) (pb positive));
  variable = λ v terms. ap (λ (k : A). term_nodes (k terms)) (fold_at_var Signed A form_step term_form_step v) ∙ index_nodes terms v ∙ sym (ap (λ (c : B). c (map term_nodes terms)) (fold_at_var Counted B count_step term_count_step v));
  application = λ f ts each terms. ap (λ (k : A). term_nodes (k terms)) (fold_at_app Signed A form_step term_form_step f ts) ∙ nodes_of_app f (terms_at (map normal_term ts) terms) ∙ ap (λ (n : ℕ). 1 + n) (arguments ts each terms) ∙ sym (ap (λ (c : B). c (map term_nodes terms)) (fold_at_app Counted B count_step term_count_step f ts));
  term_choice = λ c a b pc qa qb terms. ap (λ (k : A). term_nodes (k terms)) (fold_at_term_ite Signed A form_step term_form_step c a b) ∙ nodes_of_var zero ∙ sym (ap (λ (d : B). d (map term_nodes terms)) (fold_at_term_ite Counted B count_step term_count_step c a b));
}

pub counts : (f : Formula) (next : ℕ) → nodes (normal f next).0 ≡ normal_count f true [] 0
counts f next = formula_induction P Q cases f true [] [] next
