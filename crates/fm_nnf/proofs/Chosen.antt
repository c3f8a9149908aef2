-- A term `ite` lifted: its definition says what the new symbol is, and the symbol that is so satisfies the definition.
use Rattle.std.proofs.Common.{◌≡◌, ℕ, zero, suc, ◌+◌, ◌<◌, ◌≤◌, ◌==◌, Bool, true, false, ◌&&◌, ◌||◌, not, cond, List, [], ◌∷◌, ◌++◌, length, map, Some, ap, refl, sym, subst, ◌∙◌, arith, length-append, append_assoc}
use Rattle.std.specs.Prelude.{slice_get, slice_index, nat_lt, nat_le}
use Rattle.std.specs.List.{list_all}
use Rattle.std.proofs.lemmas.Bool.{and_parts, and_from, or_left, or_right, eqb-true, eq-eqb, ne_eqb, false≢true, le-leb, ltb-true, cond_both}
use Rattle.fm_base.specs.Interpretations.{Reading, IsInterpretation, is_tuple, values_of}
use Rattle.fm_base.specs.Models.{IsElements}
use Rattle.fm_base.specs.Truth.{Sorted, Sort, truth, value, values, is_well_sorted, is_closed, sort_of, are_arguments, is_of_sort, sorted_step, sort_step}
use Rattle.fm_base.specs.declared.ids.SortId.{SortId}
use Rattle.fm_base.specs.declared.signature.Rank.{Rank}
use Rattle.fm_base.specs.declared.signature.Sig.{Sig}
use Rattle.fm_base.specs.declared.signature.Ty.{Ty}
use Rattle.fm_base.specs.declared.formula.Formula
use Rattle.fm_base.specs.declared.formula.Formula.{Formula}
use Rattle.fm_base.specs.declared.formula.Fterm
use Rattle.fm_base.specs.declared.formula.Fterm.{Fterm}
use Rattle.fm_base.proofs.Constructors.{truth_of_not, truth_of_equal, truth_of_and, truth_of_or, truth_of_quant, value_of_var, value_of_app, value_of_ite}
use Rattle.fm_base.proofs.Quantified.{every_tuple, from_every_tuple}
use Rattle.fm_base.specs.Expansions.{Symbols, Agree, with_symbols}
use Rattle.fm_nnf.specs.Places.{Occurs, kept, later, place}
use Rattle.fm_nnf.specs.Lifting.{Lifted, Lifter, Parts, is_choice, closed_over, term_variables, symbol_term, stays, parts_renamed, formula_has, term_has, lift_choice}
use Rattle.fm_nnf.specs.Plain.{is_plain, is_plain_term, all_plain, formula_plain_step, term_plain_step}
use Rattle.fm_nnf.specs.LiftLaw.{with_ranks, AreReady, AllHold}
use Rattle.fm_nnf.proofs.Tuples.{elements_length}
use Rattle.fm_nnf.proofs.Keeping.{kept_elements}
use Rattle.fm_nnf.proofs.Locals.{agree_less, agree_chain, fits_along, fits_both}
use Rattle.fm_nnf.proofs.Sorting.{of_sort_from, one_sort_from, result_from}
use Rattle.fm_nnf.proofs.Coincidence.{Extends, coincides, coincides_term}
use Rattle.fm_nnf.proofs.Renaming.{Renames, RenamesTerm, renames, renames_term}
use Rattle.fm_nnf.proofs.Formulas.{fold_at_equal, fold_at_not, fold_at_and, fold_at_or, fold_at_quant, fold_at_var, fold_at_app}
use Rattle.fm_nnf.proofs.Joined.{grow_extends, grow_both, ready_more, ready_both, hold_along, hold_both, hold_parts, interprets_more, Defined, LiftsTo, GoodBoth, SaysBoth}

abbrev pub choice_bool : Bool → ℕ → ℕ → ℕ → Bool
choice_bool c g a b = (not c || ((g == a) || false)) && ((c || ((g == b) || false)) && true)

choice_truth : (m : Reading) (xs : List ℕ) (g : Fterm) (p : Parts) → truth (is_choice g p) m xs ≡ choice_bool (truth p.0 m xs) (value g m xs) (value p.1.0 m xs) (value p.1.1 m xs)
choice_truth m xs g p =
    let first : List Formula = Formula.Not p.0 ∷ Formula.Equal g p.1.0 ∷ [] in
    let second : List Formula = p.0 ∷ Formula.Equal g p.1.1 ∷ [] in
    let x : truth (Formula.Or first) m xs ≡ (not (truth p.0 m xs) || ((value g m xs == value p.1.0 m xs) || false)) = truth_of_or first m xs ∙ (λ i. truth_of_not p.0 m xs i || (truth_of_equal g p.1.0 m xs i || false)) in
    let y : truth (Formula.Or second) m xs ≡ (truth p.0 m xs || ((value g m xs == value p.1.1 m xs) || false)) = truth_of_or second m xs ∙ (λ i. truth p.0 m xs || (truth_of_equal g p.1.1 m xs i || false)) in
    truth_of_and (Formula.Or first ∷ Formula.Or second ∷ []) m xs ∙ (λ i. x i && (y i && true))

choice_from : (c : Bool) (g a b : ℕ) → g ≡ cond c a b → choice_bool c g a b ≡ true
choice_from true g a b e = ap (λ (v : Bool). (v || false) && true) (eq-eqb g a e)
choice_from false g a b e = ap (λ (v : Bool). (v || false) && true) (eq-eqb g b e)

alone_true : (v : Bool) → ((v || false) && true) ≡ true → v ≡ true
alone_true true h = refl
alone_true false h = h

choice_back : (c : Bool) (g a b : ℕ) → choice_bool c g a b ≡ true → g ≡ cond c a b
choice_back true g a b h = eqb-true g a (alone_true (g == a) h)
choice_back false g a b h = eqb-true g b (alone_true (g == b) h)

closed_from : (m : Reading) (vars : List SortId) (body : Formula) → ((xs : List ℕ) → IsElements m vars xs → truth body m xs ≡ true) → truth (closed_over vars body) m [] ≡ true
closed_from m [] body h = h [] tt
closed_from m (v ∷ vs) body h = truth_of_quant true (v ∷ vs) body m [] ∙ from_every_tuple m (v ∷ vs) (λ inner. truth body m inner) [] h

closed_at : (m : Reading) (vars : List SortId) (body : Formula) → truth (closed_over vars body) m [] ≡ true → (xs : List ℕ) → IsElements m vars xs → truth body m xs ≡ true
closed_at m [] body e [] t = e
closed_at m [] body e (x ∷ xs) t = absurd t
closed_at m (v ∷ vs) body e xs t = every_tuple m (v ∷ vs) (λ inner. truth body m inner) [] (sym (truth_of_quant true (v ∷ vs) body m []) ∙ e) xs t

closed_sorted : (sig : Sig) (vars : List SortId) (body : Formula) → list_all (λ (s : SortId). nat_lt s.0 sig.sorts) vars ≡ true → is_well_sorted body sig vars ≡ true → is_closed (closed_over vars body) sig ≡ true
closed_sorted sig [] body r h = h
closed_sorted sig (v ∷ vs) body r h = ap (λ (k : Sorted). k sig []) (fold_at_quant Sorted Sort sorted_step sort_step true (v ∷ vs) body) ∙ and_from (list_all (λ (s : SortId). nat_lt s.0 sig.sorts) (v ∷ vs)) (is_well_sorted body sig (v ∷ vs)) r h

closed_plain : (vars : List SortId) (body : Formula) → is_plain body ≡ true → is_plain (closed_over vars body) ≡ true
closed_plain [] body h = h
closed_plain (v ∷ vs) body h = fold_at_quant Bool Bool formula_plain_step term_plain_step true (v ∷ vs) body ∙ h

choice_sorted : (sig : Sig) (scope : List SortId) (g : Fterm) (p : Parts) (s : SortId) → is_well_sorted p.0 sig scope ≡ true → sort_of g sig scope ≡ Some s → sort_of p.1.0 sig scope ≡ Some s → sort_of p.1.1 sig scope ≡ Some s → is_well_sorted (is_choice g p) sig scope ≡ true
choice_sorted sig scope g p s c g_is a b =
    let first : List Formula = Formula.Not p.0 ∷ Formula.Equal g p.1.0 ∷ [] in
    let second : List Formula = p.0 ∷ Formula.Equal g p.1.1 ∷ [] in
    let n : is_well_sorted (Formula.Not p.0) sig scope ≡ true = ap (λ (k : Sorted). k sig scope) (fold_at_not Sorted Sort sorted_step sort_step p.0) ∙ c in
    let ea : is_well_sorted (Formula.Equal g p.1.0) sig scope ≡ true = ap (λ (k : Sorted). k sig scope) (fold_at_equal Sorted Sort sorted_step sort_step g p.1.0) ∙ one_sort_from (sort_of g sig scope) (sort_of p.1.0 sig scope) s g_is a in
    let eb : is_well_sorted (Formula.Equal g p.1.1) sig scope ≡ true = ap (λ (k : Sorted). k sig scope) (fold_at_equal Sorted Sort sorted_step sort_step g p.1.1) ∙ one_sort_from (sort_of g sig scope) (sort_of p.1.1 sig scope) s g_is b in
    let x : is_well_sorted (Formula.Or first) sig scope ≡ true = ap (λ (k : Sorted). k sig scope) (fold_at_or Sorted Sort sorted_step sort_step first) ∙ (λ i. n i && (ea i && true)) in
    let y : is_well_sorted (Formula.Or second) sig scope ≡ true = ap (λ (k : Sorted). k sig scope) (fold_at_or Sorted Sort sorted_step sort_step second) ∙ (λ i. c i && (eb i && true)) in
    ap (λ (k : Sorted). k sig scope) (fold_at_and Sorted Sort sorted_step sort_step (Formula.Or first ∷ Formula.Or second ∷ [])) ∙ (λ i. x i && (y i && true))

choice_plain : (g : Fterm) (p : Parts) → is_plain p.0 ≡ true → is_plain_term g ≡ true → is_plain_term p.1.0 ≡ true → is_plain_term p.1.1 ≡ true → is_plain (is_choice g p) ≡ true
choice_plain g p c g_is a b =
    let first : List Formula = Formula.Not p.0 ∷ Formula.Equal g p.1.0 ∷ [] in
    let second : List Formula = p.0 ∷ Formula.Equal g p.1.1 ∷ [] in
    let n : is_plain (Formula.Not p.0) ≡ true = fold_at_not Bool Bool formula_plain_step term_plain_step p.0 ∙ c in
    let ea : is_plain (Formula.Equal g p.1.0) ≡ true = fold_at_equal Bool Bool formula_plain_step term_plain_step g p.1.0 ∙ (λ i. g_is i && a i) in
    let eb : is_plain (Formula.Equal g p.1.1) ≡ true = fold_at_equal Bool Bool formula_plain_step term_plain_step g p.1.1 ∙ (λ i. g_is i && b i) in
    let x : is_plain (Formula.Or first) ≡ true = fold_at_or Bool Bool formula_plain_step term_plain_step first ∙ (λ i. n i && (ea i && true)) in
    let y : is_plain (Formula.Or second) ≡ true = fold_at_or Bool Bool formula_plain_step term_plain_step second ∙ (λ i. c i && (eb i && true)) in
    fold_at_and Bool Bool formula_plain_step term_plain_step (Formula.Or first ∷ Formula.Or second ∷ []) ∙ (λ i. x i && (y i && true))

-- the variables as terms
index_seam : (pre : List ℕ) (x : ℕ) (xs : List ℕ) → slice_index (pre ++ x ∷ xs) (length pre) ≡ x
index_seam [] x xs = refl
index_seam (y ∷ pre) x xs = index_seam pre x xs

get_seam : {X : Type 0} (pre : List X) (x : X) (xs : List X) → slice_get (pre ++ x ∷ xs) (length pre) ≡ Some x
get_seam [] x xs = refl
get_seam (y ∷ pre) x xs = get_seam pre x xs

own_values : (m : Reading) (k : ℕ) (scope : List SortId) (pre env : List ℕ) → k ≡ length pre → length env ≡ length scope → values (map value (term_variables k scope)) m (pre ++ env) ≡ env
own_values m k [] pre [] e n = refl
own_values m k [] pre (x ∷ xs) e n = absurd (omega (arith, n))
own_values m k (s ∷ ss) pre [] e n = absurd (omega (arith, n))
own_values m k (s ∷ ss) pre (x ∷ xs) e n =
    let head = value_of_var k m (pre ++ x ∷ xs) ∙ ap (λ (i : ℕ). slice_index (pre ++ x ∷ xs) i) e ∙ index_seam pre x xs in
    let l = length-append pre (x ∷ []) in
    let rest = own_values m (suc k) ss (pre ++ x ∷ []) xs (omega (arith, l, e)) (omega (arith, n)) in
    let tail = subst (λ (ys : List ℕ). values (map value (term_variables (suc k) ss)) m ys ≡ xs) (append_assoc pre (x ∷ []) xs) rest in
    λ i. head i ∷ tail i

kept_step : (b : Bool) (m : Reading) (env : List ℕ) (t : Fterm) (ts : List Fterm) (xs : List ℕ) → values (map value ts) m env ≡ xs → values (map value (cond b (t ∷ ts) ts)) m env ≡ cond b (value t m env ∷ xs) xs
kept_step true m env t ts xs e = ap (λ (ys : List ℕ). value t m env ∷ ys) e
kept_step false m env t ts xs e = e

kept_values : (q : Occurs) (m : Reading) (env : List ℕ) (ts : List Fterm) → values (map value (kept q ts)) m env ≡ kept q (values (map value ts) m env)
kept_values q m env [] = refl
kept_values q m env (t ∷ ts) = kept_step (q zero) m env t (kept (later q) ts) (kept (later q) (values (map value ts) m env)) (kept_values (later q) m env ts)

abbrev types : List SortId → List Ty
types scope = map (λ (s : SortId). Ty.Of s) scope

variables_sorted : (sig : Sig) (k : ℕ) (pre ss : List SortId) → k ≡ length pre → are_arguments (map sort_of (term_variables k ss)) (types ss) sig (pre ++ ss) ≡ true
variables_sorted sig k pre [] e = refl
variables_sorted sig k pre (s ∷ ss) e =
    let head : sort_of (Fterm.Var k) sig (pre ++ s ∷ ss) ≡ Some s = ap (λ (j : Sort). j sig (pre ++ s ∷ ss)) (fold_at_var Sorted Sort sorted_step sort_step k) ∙ ap (λ (i : ℕ). slice_get (pre ++ s ∷ ss) i) e ∙ get_seam pre s ss in
    let l = length-append pre (s ∷ []) in
    let rest = variables_sorted sig (suc k) (pre ++ s ∷ []) ss (omega (arith, l, e)) in
    let tail = subst (λ (scope : List SortId). are_arguments (map sort_of (term_variables (suc k) ss)) (types ss) sig scope ≡ true) (append_assoc pre (s ∷ []) ss) rest in
    (λ i. is_of_sort (head i) (Ty.Of s) && tail i) ∙ ap (λ (b : Bool). b && true) (of_sort_from s)

arguments_step : (b : Bool) (sig : Sig) (scope : List SortId) (t : Fterm) (s : SortId) (ts : List Fterm) (ss : List SortId) → is_of_sort (sort_of t sig scope) (Ty.Of s) ≡ true → are_arguments (map sort_of ts) (types ss) sig scope ≡ true
    → are_arguments (map sort_of (cond b (t ∷ ts) ts)) (types (cond b (s ∷ ss) ss)) sig scope ≡ true
arguments_step true sig scope t s ts ss h e = and_from (is_of_sort (sort_of t sig scope) (Ty.Of s)) (are_arguments (map sort_of ts) (types ss) sig scope) h e
arguments_step false sig scope t s ts ss h e = e

kept_arguments : (q : Occurs) (sig : Sig) (scope : List SortId) (ts : List Fterm) (ss : List SortId) → are_arguments (map sort_of ts) (types ss) sig scope ≡ true → are_arguments (map sort_of (kept q ts)) (types (kept q ss)) sig scope ≡ true
kept_arguments q sig scope [] [] h = h
kept_arguments q sig scope [] (s ∷ ss) h = absurd (false≢true h)
kept_arguments q sig scope (t ∷ ts) [] h = absurd (false≢true h)
kept_arguments q sig scope (t ∷ ts) (s ∷ ss) h =
    let p = and_parts (is_of_sort (sort_of t sig scope) (Ty.Of s)) (are_arguments (map sort_of ts) (types ss) sig scope) h in
    arguments_step (q zero) sig scope t s (kept (later q) ts) (kept (later q) ss) p.0 (kept_arguments (later q) sig scope ts ss p.1)

plain_step : (b : Bool) (t : Fterm) (ts : List Fterm) → is_plain_term t ≡ true → all_plain (map is_plain_term ts) ≡ true → all_plain (map is_plain_term (cond b (t ∷ ts) ts)) ≡ true
plain_step true t ts h e = and_from (is_plain_term t) (all_plain (map is_plain_term ts)) h e
plain_step false t ts h e = e

variables_plain : (q : Occurs) (k : ℕ) (ss : List SortId) → all_plain (map is_plain_term (kept q (term_variables k ss))) ≡ true
variables_plain q k [] = refl
variables_plain q k (s ∷ ss) = plain_step (q zero) (Fterm.Var k) (kept (later q) (term_variables (suc k) ss)) (fold_at_var Bool Bool formula_plain_step term_plain_step k) (variables_plain (later q) (suc k) ss)

all_variables_plain : (k : ℕ) (ss : List SortId) → all_plain (map is_plain_term (term_variables k ss)) ≡ true
all_variables_plain k [] = refl
all_variables_plain k (s ∷ ss) = and_from (is_plain_term (Fterm.Var k)) (all_plain (map is_plain_term (term_variables (suc k) ss))) (fold_at_var Bool Bool formula_plain_step term_plain_step k) (all_variables_plain (suc k) ss)

range_step : (b : Bool) (f : SortId → Bool) (s : SortId) (ss : List SortId) → f s ≡ true → list_all f ss ≡ true → list_all f (cond b (s ∷ ss) ss) ≡ true
range_step true f s ss h e = and_from (f s) (list_all f ss) h e
range_step false f s ss h e = e

kept_range : (q : Occurs) (f : SortId → Bool) (scope : List SortId) → list_all f scope ≡ true → list_all f (kept q scope) ≡ true
kept_range q f [] h = refl
kept_range q f (s ∷ ss) h = let p = and_parts (f s) (list_all f ss) h in range_step (q zero) f s (kept (later q) ss) p.0 (kept_range (later q) f ss p.1)

pub tuple_elements : (m : Reading) (vars : List SortId) (xs : List ℕ) → is_tuple m (types vars) xs ≡ true → IsElements m vars xs
tuple_elements m [] [] h = tt
tuple_elements m [] (x ∷ xs) h = absurd (false≢true h)
tuple_elements m (v ∷ vs) [] h = absurd (false≢true h)
tuple_elements m (v ∷ vs) (x ∷ xs) h = let p = and_parts (nat_lt x (m.size v.0)) (is_tuple m (types vs) xs) h in (ltb-true x (m.size v.0) p.0, tuple_elements m vs xs p.1)

-- formulas and terms: what is made is well sorted and without term `ite`, and says the same
abbrev pub GoodFormula : Formula → Sig → List SortId → Type 0
GoodFormula x sig scope = (is_well_sorted x sig scope ≡ true) × (is_plain x ≡ true)

abbrev pub GoodTerm : SortId → Fterm → Sig → List SortId → Type 0
GoodTerm s x sig scope = (sort_of x sig scope ≡ Some s) × (is_plain_term x ≡ true)

abbrev pub SaysFormula : Formula → Formula → Reading → List ℕ → Type 0
SaysFormula f x m env = truth x m env ≡ truth f m env

abbrev pub SaysTerm : Fterm → Fterm → Reading → List ℕ → Type 0
SaysTerm t x m env = value x m env ≡ value t m env

module _ (big : Sig) (scope : List SortId) (k : Lifter Parts) (type : List SortId → Ty) (s : SortId) (c : Formula) (a b : Fterm) (in_range : list_all (λ (u : SortId). nat_lt u.0 big.sorts) scope ≡ true) (type_is : type scope ≡ Ty.Of s)
    (h : LiftsTo Parts (GoodBoth GoodFormula (GoodBoth (GoodTerm s) (GoodTerm s))) (SaysBoth (SaysFormula c) (SaysBoth (SaysTerm a) (SaysTerm b))) big scope (k scope (length big.ranks))) where
  abbrev r : Lifted Parts
  r = k scope (length big.ranks)

  abbrev n : ℕ
  n = length big.ranks + length r.ranks

  abbrev p : Occurs
  p = stays (length scope) r.made

  abbrev vars : List SortId
  vars = kept p scope

  abbrev moved : Parts
  moved = parts_renamed r.made (place p)

  abbrev symbol : Fterm
  symbol = symbol_term n (term_variables zero vars)

  abbrev body : Formula
  body = is_choice symbol moved

  abbrev rank : Rank
  rank = record { args = types vars; result = type scope }

  abbrev big1 : Sig
  big1 = with_ranks big r.ranks

  abbrev big2 : Sig
  big2 = with_ranks big (r.ranks ++ rank ∷ [])

  from : (j : ℕ) → length scope ≤ j → p j ≡ true
  from j le = or_right (formula_has r.made.0 j || (term_has r.made.1.0 j || term_has r.made.1.1 j)) (nat_le (length scope) j) (le-leb (length scope) j le)

  ren_c : Renames p (length scope) from r.made.0
  ren_c = renames p (length scope) from r.made.0 (λ v e. or_left (formula_has r.made.0 v || (term_has r.made.1.0 v || term_has r.made.1.1 v)) (nat_le (length scope) v) (or_left (formula_has r.made.0 v) (term_has r.made.1.0 v || term_has r.made.1.1 v) e))

  ren_a : RenamesTerm p (length scope) from r.made.1.0
  ren_a = renames_term p (length scope) from r.made.1.0 (λ v e. or_left (formula_has r.made.0 v || (term_has r.made.1.0 v || term_has r.made.1.1 v)) (nat_le (length scope) v) (or_right (formula_has r.made.0 v) (term_has r.made.1.0 v || term_has r.made.1.1 v) (or_left (term_has r.made.1.0 v) (term_has r.made.1.1 v) e)))

  ren_b : RenamesTerm p (length scope) from r.made.1.1
  ren_b = renames_term p (length scope) from r.made.1.1 (λ v e. or_left (formula_has r.made.0 v || (term_has r.made.1.0 v || term_has r.made.1.1 v)) (nat_le (length scope) v) (or_right (formula_has r.made.0 v) (term_has r.made.1.0 v || term_has r.made.1.1 v) (or_right (term_has r.made.1.0 v) (term_has r.made.1.1 v) e)))

  -- the parts of the definition, over the signature before it
  sorted_c : is_well_sorted moved.0 big1 vars ≡ true
  sorted_c = ren_c.sorted big1 scope (omega arith) ∙ h.good.0.0

  sorted_a : sort_of moved.1.0 big1 vars ≡ Some s
  sorted_a = ren_a.sorted big1 scope (omega arith) ∙ h.good.1.0.0

  sorted_b : sort_of moved.1.1 big1 vars ≡ Some s
  sorted_b = ren_b.sorted big1 scope (omega arith) ∙ h.good.1.1.0

  more : Extends big1 big2
  more = subst (λ (g : Sig). Extends big1 g) (grow_both big r.ranks (rank ∷ [])) (grow_extends big1 (rank ∷ []))

  found : slice_get big2.ranks n ≡ Some rank
  found =
      let l = length-append big.ranks r.ranks in
      let there : slice_get ((big.ranks ++ r.ranks) ++ rank ∷ []) (length (big.ranks ++ r.ranks)) ≡ Some rank = get_seam (big.ranks ++ r.ranks) rank [] in
      let e : big.ranks ++ (r.ranks ++ rank ∷ []) ≡ (big.ranks ++ r.ranks) ++ rank ∷ [] = sym (append_assoc big.ranks r.ranks (rank ∷ [])) in
      let k : n ≡ length (big.ranks ++ r.ranks) = sym l in
      (λ i. slice_get (e i) (k i)) ∙ there

  symbol_sorted : (ts : List Fterm) (inner : List SortId) → are_arguments (map sort_of ts) (types vars) big2 inner ≡ true → sort_of (symbol_term n ts) big2 inner ≡ Some s
  symbol_sorted ts inner e =
      ap (λ (j : Sort). j big2 inner) (fold_at_app Sorted Sort sorted_step sort_step (record { 0 = n }) ts) ∙ result_from (map sort_of ts) (slice_get big2.ranks n) big2 inner s rank found type_is e

  good_made : GoodTerm s (symbol_term n (kept p (term_variables zero scope))) big2 scope
  good_made = (
    symbol_sorted (kept p (term_variables zero scope)) scope (kept_arguments p big2 scope (term_variables zero scope) scope (variables_sorted big2 zero [] scope refl)),
    fold_at_app Bool Bool formula_plain_step term_plain_step (record { 0 = n }) (kept p (term_variables zero scope)) ∙ variables_plain p zero scope,
  )

  body_sorted : is_well_sorted body big2 vars ≡ true
  body_sorted = choice_sorted big2 vars symbol moved s ((coincides big1 moved.0 vars sorted_c).grows big2 more) (symbol_sorted (term_variables zero vars) vars (variables_sorted big2 zero [] vars refl))
      ((coincides_term big1 moved.1.0 vars s sorted_a).grows big2 more) ((coincides_term big1 moved.1.1 vars s sorted_b).grows big2 more)

  body_plain : is_plain body ≡ true
  body_plain = choice_plain symbol moved (ren_c.plain ∙ h.good.0.1) (fold_at_app Bool Bool formula_plain_step term_plain_step (record { 0 = n }) (term_variables zero vars) ∙ all_variables_plain zero vars) (ren_a.plain ∙ h.good.1.0.1) (ren_b.plain ∙ h.good.1.1.1)

  ready : AreReady big2 (r.definitions ++ closed_over vars body ∷ [])
  ready = ready_both big2 r.definitions (closed_over vars body ∷ []) (ready_more big1 big2 r.definitions more h.ready)
      (closed_sorted big2 vars body (kept_range p (λ (u : SortId). nat_lt u.0 big.sorts) scope in_range) body_sorted, closed_plain vars body body_plain, tt)

  symbol_value : (m : Reading) (xs : List ℕ) → IsElements m vars xs → value symbol m xs ≡ m.at n xs
  symbol_value m xs el = value_of_app (record { 0 = n }) (term_variables zero vars) m xs ∙ ap (m.at n) (own_values m zero vars [] xs refl (elements_length m vars xs el))

  sound : (m : Reading) → AllHold m (r.definitions ++ closed_over vars body ∷ []) → (env : List ℕ) → IsElements m scope env → value (symbol_term n (kept p (term_variables zero scope))) m env ≡ value (Fterm.Ite c a b) m env
  sound m holds env el =
      let parts = hold_parts m r.definitions (closed_over vars body ∷ []) holds in
      let says = h.sound m parts.0 env el in
      let inner = kept_elements m p scope env el in
      let long = elements_length m scope env el in
      let le : length scope ≤ length env = omega (arith, long) in
      let def = sym (choice_truth m (kept p env) symbol moved) ∙ closed_at m vars body parts.1.0 (kept p env) inner in
      let is = choice_back (truth moved.0 m (kept p env)) (value symbol m (kept p env)) (value moved.1.0 m (kept p env)) (value moved.1.1 m (kept p env)) def in
      let cs = ren_c.same m env le ∙ says.0 in
      let as' = ren_a.same m env le ∙ says.1.0 in
      let bs = ren_b.same m env le ∙ says.1.1 in
      let args = kept_values p m env (term_variables zero scope) ∙ ap (kept p) (own_values m zero scope [] env refl long) in
      value_of_app (record { 0 = n }) (kept p (term_variables zero scope)) m env ∙ ap (m.at n) args ∙ sym (symbol_value m (kept p env) inner) ∙ is ∙ (λ i. cond (cs i) (as' i) (bs i)) ∙ sym (value_of_ite c a b m env)

  module _ (size : ℕ → ℕ) (old : Symbols) (int : IsInterpretation big (with_symbols size old)) where
    one : Defined big size old r.definitions r.ranks
    one = h.expands size old int

    abbrev m1 : Reading
    m1 = with_symbols size one.at

    int1 : IsInterpretation big1 m1
    int1 = interprets_more big size old one.at r.ranks int one.agrees one.fits

    abbrev chosen : List ℕ → ℕ
    chosen xs = cond (truth moved.0 m1 xs) (value moved.1.0 m1 xs) (value moved.1.1 m1 xs)

    abbrev now : Symbols
    now f xs = cond (f == n) (chosen xs) (one.at f xs)

    agree : Agree (length (big.ranks ++ r.ranks)) one.at now
    agree f xs lt = let l = length-append big.ranks r.ranks in ap (λ (v : Bool). cond v (chosen xs) (one.at f xs)) (ne_eqb f n (λ e. absurd (omega (arith, e, lt, l))))

    here : (xs : List ℕ) → now n xs ≡ chosen xs
    here xs = ap (λ (v : Bool). cond v (chosen xs) (one.at n xs)) (eq-eqb n n refl)

    small : (xs : List ℕ) → IsElements m1 vars xs → chosen xs < size s.0
    small xs el = cond_both (truth moved.0 m1 xs) (value moved.1.0 m1 xs) (value moved.1.1 m1 xs) (λ v. v < size s.0) (λ _. (coincides_term big1 moved.1.0 vars s sorted_a).within m1 int1 xs el) (λ _. (coincides_term big1 moved.1.1 vars s sorted_b).within m1 int1 xs el)

    fits_new : (xs : List ℕ) → is_tuple (with_symbols size now) rank.args xs ≡ true → now n xs < values_of (with_symbols size now) rank.result
    fits_new xs t = subst (λ (u : Ty). now n xs < values_of (with_symbols size now) u) (sym type_is) (subst (λ (v : ℕ). v < size s.0) (sym (here xs)) (small xs (tuple_elements m1 vars xs t)))

    def_holds : truth (closed_over vars body) (with_symbols size now) [] ≡ true
    def_holds = closed_from (with_symbols size now) vars body (λ xs el.
        let cs = (coincides big1 moved.0 vars sorted_c).local size one.at now xs agree in
        let as' = (coincides_term big1 moved.1.0 vars s sorted_a).local size one.at now xs agree in
        let bs = (coincides_term big1 moved.1.1 vars s sorted_b).local size one.at now xs agree in
        let is = symbol_value (with_symbols size now) xs el ∙ here xs ∙ sym (λ i. cond (cs i) (as' i) (bs i)) in
        choice_truth (with_symbols size now) xs symbol moved ∙ choice_from (truth moved.0 (with_symbols size now) xs) (value symbol (with_symbols size now) xs) (value moved.1.0 (with_symbols size now) xs) (value moved.1.1 (with_symbols size now) xs) is)

    expands : Defined big size old (r.definitions ++ closed_over vars body ∷ []) (r.ranks ++ rank ∷ [])
    expands =
        let l = length-append big.ranks r.ranks in
        record {
          at = now;
          agrees = agree_chain (length big.ranks) old one.at now one.agrees (agree_less (length big.ranks) (length (big.ranks ++ r.ranks)) one.at now (omega (arith, l)) agree);
          fits = fits_both (with_symbols size now) (length big.ranks) r.ranks (rank ∷ []) (fits_along size one.at now (length (big.ranks ++ r.ranks)) (length big.ranks) r.ranks (omega (arith, l)) agree one.fits) (fits_new, tt);
          holds = hold_both (with_symbols size now) r.definitions (closed_over vars body ∷ []) (hold_along big1 size one.at now r.definitions h.ready agree one.holds) (def_holds, tt);
        }

  pub lifts_choice : LiftsTo Fterm (GoodTerm s) (SaysTerm (Fterm.Ite c a b)) big scope (lift_choice k type scope (length big.ranks))
  lifts_choice = record { good = good_made; ready = ready; sound = sound; expands = expands }
