-- Steps of what makes a normal form: variables and symbols behind those that are there, and what is formed one after the other.
use Rattle.std.proofs.Common.{◌≡◌, ℕ, zero, suc, ◌+◌, ◌<◌, ◌≤◌, Bool, List, [], ◌∷◌, ◌++◌, length, map, get_or, drop, ap, refl, sym, subst, ◌∙◌, arith, append_assoc, add-one, length-append}
use Rattle.std.proofs.lemmas.List.{append-nil, map-append, drop_more, drop_all}
use Rattle.fm_base.specs.declared.ids.SortId.{SortId}
use Rattle.fm_base.specs.declared.signature.Rank.{Rank}
use Rattle.fm_base.specs.declared.signature.Ty.{Ty}
use Rattle.fm_base.specs.declared.formula.Formula.{Formula}
use Rattle.fm_base.specs.declared.formula.Nnf.{Nnf}
use Rattle.fm_base.specs.declared.formula.Pterm
use Rattle.fm_base.specs.declared.formula.Pterm.{Pterm}
use Rattle.fm_nnf.specs.declared.making.Binding.{Binding}
use Rattle.fm_nnf.specs.Bindings.{Makes, first_variables, term_of, terms_of}
use Rattle.fm_nnf.specs.NormalForm.{Former, all_variables, formed_all, formed_some, normal_form, skolem_ranks, skolem_terms, with_sign}
use Rattle.fm_nnf.proofs.Skolems.{skolem_ranks_long}

pub first_none : [] ≡ first_variables 0
unfolding first_variables
first_none = refl

pub first_more : (n : ℕ) → first_variables n ++ Pterm.Var n ∷ [] ≡ first_variables (n + 1)
unfolding first_variables
first_more n = sym (ap first_variables (add-one n))

variables_behind : (n : ℕ) (ss : List SortId) → first_variables n ++ all_variables n ss ≡ first_variables (n + length ss)
unfolding first_variables
variables_behind n [] = let e : n ≡ n + 0 = omega arith in append-nil (first_variables n) ∙ ap first_variables e
variables_behind n (s ∷ ss) =
    let e : suc n + length ss ≡ n + suc (length ss) = omega arith in
    sym (append_assoc (first_variables n) (Pterm.Var n ∷ []) (all_variables (suc n) ss)) ∙ variables_behind (suc n) ss ∙ ap first_variables e

all_first : (ss : List SortId) → all_variables zero ss ≡ first_variables (length ss)
unfolding first_variables
all_first ss = let e : zero + length ss ≡ length ss = omega arith in variables_behind zero ss ∙ ap first_variables e

pub drop_read : {X : Type 0} (xs : List X) (i : ℕ) (x : X) → i < length xs → x ≡ get_or xs i x → drop i xs ≡ x ∷ drop (i + 1) xs
drop_read xs i x lt e = drop_more xs i x lt ∙ ap (λ y. y ∷ drop (i + 1) xs) (sym e)

pub variable_step : (all : List Binding) (k i : ℕ) (vars : List SortId) → i < length vars → terms_of (all ++ Binding.Universal (k + i) ∷ []) ++ all_variables (k + (i + 1)) (drop (i + 1) vars) ≡ terms_of all ++ all_variables (k + i) (drop i vars)
variable_step all k i vars lt =
    let s : SortId = record { 0 = 0 } in
    let n : k + (i + 1) ≡ suc (k + i) = omega arith in
    ap (λ (ts : List Pterm). ts ++ all_variables (k + (i + 1)) (drop (i + 1) vars)) (map-append term_of all (Binding.Universal (k + i) ∷ []))
    ∙ append_assoc (terms_of all) (Pterm.Var (k + i) ∷ []) (all_variables (k + (i + 1)) (drop (i + 1) vars))
    ∙ ap (λ (j : ℕ). terms_of all ++ Pterm.Var (k + i) ∷ all_variables j (drop (i + 1) vars)) n
    ∙ ap (λ (ss : List SortId). terms_of all ++ all_variables (k + i) ss) (sym (drop_more vars i s lt))

pub symbol_step : (all : List Binding) (scope : List SortId) (next later i : ℕ) (vars : List SortId) → i < length vars → later ≡ next + 1 → terms_of (all ++ Binding.Applied (record { 0 = next }) (length scope) ∷ []) ++ skolem_terms scope later (drop (i + 1) vars) ≡ terms_of all ++ skolem_terms scope next (drop i vars)
symbol_step all scope next later i vars lt e =
    let s : SortId = record { 0 = 0 } in
    ap (λ (ts : List Pterm). ts ++ skolem_terms scope later (drop (i + 1) vars)) (map-append term_of all (Binding.Applied (record { 0 = next }) (length scope) ∷ []))
    ∙ append_assoc (terms_of all) (Pterm.App (record { 0 = next }) (first_variables (length scope)) ∷ []) (skolem_terms scope later (drop (i + 1) vars))
    ∙ ap (λ (ts : List Pterm). terms_of all ++ Pterm.App (record { 0 = next }) ts ∷ skolem_terms scope later (drop (i + 1) vars)) (sym (all_first scope))
    ∙ ap (λ (j : ℕ). terms_of all ++ Pterm.App (record { 0 = next }) (all_variables zero scope) ∷ skolem_terms scope j (drop (i + 1) vars)) e
    ∙ ap (λ (ss : List SortId). terms_of all ++ skolem_terms scope next ss) (sym (drop_more vars i s lt))

abbrev pub skolem_rank : List SortId → SortId → Rank
skolem_rank scope v = record { args = map (λ (s : SortId). Ty.Of s) scope; result = Ty.Of v }

pub rank_step : (ranks : List Rank) (scope : List SortId) (i : ℕ) (vars : List SortId) → i < length vars → (ranks ++ skolem_rank scope (get_or vars i (record { 0 = 0 })) ∷ []) ++ skolem_ranks scope (drop (i + 1) vars) ≡ ranks ++ skolem_ranks scope (drop i vars)
rank_step ranks scope i vars lt =
    let zero_sort : SortId = record { 0 = 0 } in
    append_assoc ranks (skolem_rank scope (get_or vars i zero_sort) ∷ []) (skolem_ranks scope (drop (i + 1) vars)) ∙ ap (λ (ss : List SortId). ranks ++ skolem_ranks scope ss) (sym (drop_more vars i zero_sort lt))

-- formed one after the other
makes_more : (k : Former Nnf) (ks : List (Former Nnf)) (bindings : List Binding) (scope : List SortId) (first : ℕ) (r0 r1 r2 : List Rank) (x : Nnf) (xs : List Nnf) → Makes k bindings scope first r0 r1 x → Makes (formed_all ks) bindings scope first r1 r2 xs → Makes (formed_all (k ∷ ks)) bindings scope first r0 r2 (x ∷ xs)
makes_more k ks bindings scope first r0 r1 r2 x xs one two =
    let terms = terms_of bindings in
    let r = k terms scope (first + length r0) in
    let n : first + length r1 ≡ first + length r0 + length r.1 = (let e = ap length one.1 in let l = length-append r0 r.1 in omega (arith, e, l)) in
    let head = one.0 in
    let tail = two.0 ∙ ap (λ (j : ℕ). (formed_all ks terms scope j).0) n in
    let front = one.1 in
    ((λ i. head i ∷ tail i), two.1 ∙ (λ i. front i ++ (formed_all ks terms scope (n i)).1) ∙ append_assoc r0 r.1 (formed_all ks terms scope (first + length r0 + length r.1)).1)

makes_none : (bindings : List Binding) (scope : List SortId) (first : ℕ) (r : List Rank) → Makes (formed_all []) bindings scope first r r []
makes_none bindings scope first r = (refl, sym (append-nil r))

pub makes_both : (a b : Former Nnf) (bindings : List Binding) (scope : List SortId) (first : ℕ) (r0 r1 r2 : List Rank) (x y : Nnf) → Makes a bindings scope first r0 r1 x → Makes b bindings scope first r1 r2 y → Makes (formed_all (a ∷ b ∷ [])) bindings scope first r0 r2 (x ∷ y ∷ [])
makes_both a b bindings scope first r0 r1 r2 x y one two = makes_more a (b ∷ []) bindings scope first r0 r1 r2 x (y ∷ []) one (makes_more b [] bindings scope first r1 r2 r2 y [] two (makes_none bindings scope first r2))

abbrev pub all_formed : Bool → List Formula → Former (List Nnf)
all_formed positive fs = formed_all (with_sign positive (map normal_form fs))

pub all_more : (fs : List Formula) (i : ℕ) (f : Formula) → i < length fs → f ≡ get_or fs i f → (positive : Bool) (bindings : List Binding) (scope : List SortId) (first : ℕ) (r0 r1 r2 : List Rank) (x : Nnf) (xs : List Nnf) → Makes (normal_form f positive) bindings scope first r0 r1 x
    → Makes (all_formed positive (drop (i + 1) fs)) bindings scope first r1 r2 xs → Makes (all_formed positive (drop i fs)) bindings scope first r0 r2 (x ∷ xs)
all_more fs i f lt e positive bindings scope first r0 r1 r2 x xs one two =
    subst (λ (gs : List Formula). Makes (all_formed positive gs) bindings scope first r0 r2 (x ∷ xs)) (sym (drop_read fs i f lt e)) (makes_more (normal_form f positive) (with_sign positive (map normal_form (drop (i + 1) fs))) bindings scope first r0 r1 r2 x xs one two)

pub all_none : (fs : List Formula) (i : ℕ) → length fs ≤ i → (positive : Bool) (bindings : List Binding) (scope : List SortId) (first : ℕ) (r : List Rank) → Makes (all_formed positive (drop i fs)) bindings scope first r r []
all_none fs i le positive bindings scope first r = subst (λ (gs : List Formula). Makes (all_formed positive gs) bindings scope first r r []) (sym (drop_all i fs le)) (makes_none bindings scope first r)

-- a replaced block: its symbols, then what is formed under them
pub makes_some : (k : Former Nnf) (vars : List SortId) (bindings inner : List Binding) (scope : List SortId) (first : ℕ) (r0 r1 r2 : List Rank) (x : Nnf) → terms_of inner ≡ terms_of bindings ++ skolem_terms scope (first + length r0) vars → r1 ≡ r0 ++ skolem_ranks scope vars → Makes k inner scope first r1 r2 x
    → Makes (formed_some vars k) bindings scope first r0 r2 x
makes_some k vars bindings inner scope first r0 r1 r2 x terms ranks made =
    let more = terms_of bindings ++ skolem_terms scope (first + length r0) vars in
    let n : first + length r1 ≡ first + length r0 + length vars = (let e = ap length ranks in let l = length-append r0 (skolem_ranks scope vars) in let s = skolem_ranks_long scope vars in omega (arith, e, l, s)) in
    (made.0 ∙ (λ i. (k (terms i) scope (n i)).0), made.1 ∙ (λ i. ranks i ++ (k (terms i) scope (n i)).1) ∙ append_assoc r0 (skolem_ranks scope vars) (k more scope (first + length r0 + length vars)).1)
