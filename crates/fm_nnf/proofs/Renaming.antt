-- A formula whose variables are renumbered to the places of what is kept says of what is kept of a tuple what it said of the
-- tuple, and is as well sorted.
use Rattle.std.proofs.Common.{◌≡◌, ℕ, zero, suc, ◌≤◌, ◌==◌, Bool, true, false, ◌&&◌, ◌||◌, not, cond, List, [], ◌∷◌, ◌++◌, length, map, Option, Some, None, ap, refl, sym, ◌∙◌, arith, length-append}
use Rattle.std.specs.Prelude.{slice_get, nat_lt}
use Rattle.std.specs.List.{list_all}
use mathlib.Core.Bool.{beq}
use Rattle.std.proofs.lemmas.Bool.{or_left, or_right, eq-eqb}
use Rattle.fm_base.specs.Interpretations.{Reading}
use Rattle.fm_base.specs.Truth.{Sorted, Sort, truth, value, values, all_true, some_true, block, quantified, is_bool, declared_sort, is_of_sort, are_arguments, have_one_sort, is_predicate_of, result_of, all_sorted, is_well_sorted, sort_of, sorted_step, sort_step}
use Rattle.fm_base.specs.declared.ids.SortId.{SortId}
use Rattle.fm_base.specs.declared.ids.SymId.{SymId}
use Rattle.fm_base.specs.declared.signature.Rank.{Rank}
use Rattle.fm_base.specs.declared.signature.Sig.{Sig}
use Rattle.fm_base.specs.declared.signature.Ty.{Ty}
use Rattle.fm_base.specs.declared.formula.Formula
use Rattle.fm_base.specs.declared.formula.Formula.{Formula}
use Rattle.fm_base.specs.declared.formula.Fterm
use Rattle.fm_base.specs.declared.formula.Fterm.{Fterm}
use Rattle.fm_base.proofs.Constructors.{truth_of_truth, truth_of_pred, truth_of_equal, truth_of_not, truth_of_and, truth_of_or, truth_of_iff, truth_of_ite, truth_of_quant, value_of_var, value_of_app, value_of_ite}
use Rattle.fm_nnf.specs.Places.{Occurs, kept, later, place}
use Rattle.fm_nnf.specs.Lifting.{AnyRenamed, any_has, all_renamed, formula_has, formula_has_step, term_has, term_has_step, formula_renamed, formula_renamed_step, term_renamed, term_renamed_step}
use Rattle.fm_nnf.specs.Plain.{is_plain, is_plain_term, formula_plain_step, term_plain_step, all_plain}
use Rattle.fm_base.proofs.NormalTerms.{Each}
use Rattle.fm_nnf.proofs.Keeping.{kept_index}
use Rattle.fm_nnf.proofs.Formulas.{Cases, formula_induction, fterm_induction, fold_at_truth, fold_at_pred, fold_at_equal, fold_at_not, fold_at_and, fold_at_or, fold_at_iff, fold_at_ite, fold_at_quant, fold_at_var, fold_at_app, fold_at_term_ite}

get_step : {X : Type 0} (b : Bool) (x : X) (ks : List X) (n : ℕ) → slice_get (cond b (x ∷ ks) ks) (cond b (suc n) n) ≡ slice_get ks n
get_step true x ks n = refl
get_step false x ks n = refl

pub kept_get : {X : Type 0} (p : Occurs) (xs : List X) (v : ℕ) → p v ≡ true → slice_get (kept p xs) (place p v) ≡ slice_get xs v
unfolding place
kept_get p [] v h = refl
kept_get p (x ∷ xs) zero h = ap (λ (b : Bool). slice_get (cond b (x ∷ kept (later p) xs) (kept (later p) xs)) zero) h
kept_get p (x ∷ xs) (suc v) h = get_step (p zero) x (kept (later p) xs) (place (later p) v) ∙ kept_get (later p) xs v h

pub kept_whole : {X : Type 0} (p : Occurs) (xs : List X) → ((k : ℕ) → p k ≡ true) → kept p xs ≡ xs
kept_whole p [] h = refl
kept_whole p (x ∷ xs) h = (λ i. cond (h zero i) (x ∷ kept_whole (later p) xs (λ k. h (suc k)) i) (kept (later p) xs))

cond_append : {X : Type 0} (b : Bool) (x : X) (xs ys : List X) → cond b (x ∷ xs ++ ys) (xs ++ ys) ≡ cond b (x ∷ xs) xs ++ ys
cond_append true x xs ys = refl
cond_append false x xs ys = refl

pub kept_append : {X : Type 0} (p : Occurs) (xs ys : List X) → ((k : ℕ) → length xs ≤ k → p k ≡ true) → kept p (xs ++ ys) ≡ kept p xs ++ ys
kept_append p [] ys h = kept_whole p ys (λ k. h k (omega arith))
kept_append p (x ∷ xs) ys h =
    let rest = kept_append (later p) xs ys (λ k le. h (suc k) (omega arith)) in
    (λ i. cond (p zero) (x ∷ rest i) (rest i)) ∙ cond_append (p zero) x (kept (later p) xs) ys

module _ (p : Occurs) (depth : ℕ) (from : (k : ℕ) → depth ≤ k → p k ≡ true) where
  abbrev Passes : Occurs → Type 0
  Passes q = (v : ℕ) → q v ≡ true → p v ≡ true

  pub record Renames (f : Formula) : Type 0 where
    pub same : (m : Reading) (env : List ℕ) → depth ≤ length env → truth (formula_renamed f (place p)) m (kept p env) ≡ truth f m env
    pub sorted : (sig : Sig) (scope : List SortId) → depth ≤ length scope → is_well_sorted (formula_renamed f (place p)) sig (kept p scope) ≡ is_well_sorted f sig scope
    pub plain : is_plain (formula_renamed f (place p)) ≡ is_plain f

  pub record RenamesTerm (t : Fterm) : Type 0 where
    pub same : (m : Reading) (env : List ℕ) → depth ≤ length env → value (term_renamed t (place p)) m (kept p env) ≡ value t m env
    pub sorted : (sig : Sig) (scope : List SortId) → depth ≤ length scope → sort_of (term_renamed t (place p)) sig (kept p scope) ≡ sort_of t sig scope
    pub plain : is_plain_term (term_renamed t (place p)) ≡ is_plain_term t

  abbrev P : Formula → Type 0
  P f = Passes (formula_has f) → Renames f

  abbrev Q : Fterm → Type 0
  Q t = Passes (term_has t) → RenamesTerm t

  abbrev moved : List Fterm → List Fterm
  moved ts = all_renamed (map term_renamed ts) (place p)

  abbrev moved_formulas : List Formula → List Formula
  moved_formulas fs = all_renamed (map formula_renamed fs) (place p)

  record RenamesTerms (ts : List Fterm) : Type 0 where
    same : (m : Reading) (env : List ℕ) → depth ≤ length env → values (map value (moved ts)) m (kept p env) ≡ values (map value ts) m env
    sorted : (types : List Ty) (sig : Sig) (scope : List SortId) → depth ≤ length scope → are_arguments (map sort_of (moved ts)) types sig (kept p scope) ≡ are_arguments (map sort_of ts) types sig scope
    plain : all_plain (map is_plain_term (moved ts)) ≡ all_plain (map is_plain_term ts)

  all_terms : (ts : List Fterm) → Each Q ts → Passes (any_has (map term_has ts)) → RenamesTerms ts
  all_terms [] each pass = record { same = λ m env le. refl; sorted = none; plain = refl }
    where
      none : (types : List Ty) (sig : Sig) (scope : List SortId) → depth ≤ length scope → are_arguments [] types sig (kept p scope) ≡ are_arguments [] types sig scope
      none [] sig scope le = refl
      none (u ∷ us) sig scope le = refl
  all_terms (t ∷ ts) each pass =
      let x = each.0 (λ v h. pass v (or_left (term_has t v) (any_has (map term_has ts) v) h)) in
      let xs = all_terms ts each.1 (λ v h. pass v (or_right (term_has t v) (any_has (map term_has ts) v) h)) in
      record { same = λ m env le. (let a = x.same m env le in let b = xs.same m env le in λ i. a i ∷ b i); sorted = some x xs; plain = (let a = x.plain in let b = xs.plain in λ i. a i && b i) }
    where
      some : RenamesTerm t → RenamesTerms ts → (types : List Ty) (sig : Sig) (scope : List SortId) → depth ≤ length scope → are_arguments (map sort_of (moved (t ∷ ts))) types sig (kept p scope) ≡ are_arguments (map sort_of (t ∷ ts)) types sig scope
      some x xs [] sig scope le = refl
      some x xs (u ∷ us) sig scope le = (let a = x.sorted sig scope le in let b = xs.sorted us sig scope le in λ i. is_of_sort (a i) u && b i)

  record RenamesAll (fs : List Formula) : Type 0 where
    conj : (m : Reading) (env : List ℕ) → depth ≤ length env → all_true (map truth (moved_formulas fs)) m (kept p env) ≡ all_true (map truth fs) m env
    disj : (m : Reading) (env : List ℕ) → depth ≤ length env → some_true (map truth (moved_formulas fs)) m (kept p env) ≡ some_true (map truth fs) m env
    sorted : (sig : Sig) (scope : List SortId) → depth ≤ length scope → all_sorted (map is_well_sorted (moved_formulas fs)) sig (kept p scope) ≡ all_sorted (map is_well_sorted fs) sig scope
    plain : all_plain (map is_plain (moved_formulas fs)) ≡ all_plain (map is_plain fs)

  all_formulas : (fs : List Formula) → Each P fs → Passes (any_has (map formula_has fs)) → RenamesAll fs
  all_formulas [] each pass = record { conj = λ m env le. refl; disj = λ m env le. refl; sorted = λ sig scope le. refl; plain = refl }
  all_formulas (f ∷ fs) each pass =
      let x = each.0 (λ v h. pass v (or_left (formula_has f v) (any_has (map formula_has fs) v) h)) in
      let xs = all_formulas fs each.1 (λ v h. pass v (or_right (formula_has f v) (any_has (map formula_has fs) v) h)) in
      record {
        conj = λ m env le. (let a = x.same m env le in let b = xs.conj m env le in λ i. a i && b i);
        disj = λ m env le. (let a = x.same m env le in let b = xs.disj m env le in λ i. a i || b i);
        sorted = λ sig scope le. (let a = x.sorted sig scope le in let b = xs.sorted sig scope le in λ i. a i && b i);
        plain = (let a = x.plain in let b = xs.plain in λ i. a i && b i);
      }

  -- the equations of the folds, at what they are applied to
  abbrev RF : Type 0
  RF = AnyRenamed Formula

  abbrev RT : Type 0
  RT = AnyRenamed Fterm

  abbrev g : ℕ → ℕ
  g = place p

  at_constant : (b : Bool) → P (Formula.Truth b)
  at_constant b pass =
      let is = ap (λ (k : RF). k g) (fold_at_truth RF RT formula_renamed_step term_renamed_step b) in
      let has = λ (v : ℕ). ap (λ (k : Occurs). k v) (fold_at_truth Occurs Occurs formula_has_step term_has_step b) in
      record {
        same = λ m env le. ap (λ (y : Formula). truth y m (kept p env)) is ∙ truth_of_truth b m (kept p env) ∙ (refl) ∙ sym (truth_of_truth b m env);
        sorted = λ sig scope le. ap (λ (y : Formula). is_well_sorted y sig (kept p scope)) is ∙ ap (λ (k : Sorted). k sig (kept p scope)) (fold_at_truth Sorted Sort sorted_step sort_step b) ∙ (refl) ∙ sym (ap (λ (k : Sorted). k sig scope) (fold_at_truth Sorted Sort sorted_step sort_step b));
        plain = ap is_plain is ∙ fold_at_truth Bool Bool formula_plain_step term_plain_step b ∙ (refl) ∙ sym (fold_at_truth Bool Bool formula_plain_step term_plain_step b);
      }

  block_same : (m : Reading) (all : Bool) (vars : List SortId) (body : Formula) → ((m' : Reading) (env : List ℕ) → depth ≤ length env → truth (formula_renamed body g) m' (kept p env) ≡ truth body m' env) → (env : List ℕ) → depth ≤ length env
      → block m all vars (λ inner. truth (formula_renamed body g) m inner) (kept p env) ≡ block m all vars (λ inner. truth body m inner) env
  block_same m all [] body same env le = same m env le
  block_same m all (s ∷ ss) body same env le =
      let one = λ (x : ℕ). (let n = length-append env (x ∷ []) in ap (λ (ys : List ℕ). block m all ss (λ inner. truth (formula_renamed body g) m inner) ys) (sym (kept_append p env (x ∷ []) (λ j lj. from j (omega arith)))) ∙ block_same m all ss body same (env ++ x ∷ []) (omega (arith, n))) in
      λ i. quantified all (m.size s.0) (λ x. one x i)

  args : (ks ls : List Sort) (o : Option Rank) (sig : Sig) (scope : List SortId) → ((us : List Ty) → are_arguments ks us sig (kept p scope) ≡ are_arguments ls us sig scope) → is_predicate_of ks o sig (kept p scope) ≡ is_predicate_of ls o sig scope
  args ks ls None sig scope h = refl
  args ks ls (Some rank) sig scope h = ap (λ (b : Bool). is_bool rank.result && b) (h rank.args)

  results : (ks ls : List Sort) (o : Option Rank) (sig : Sig) (scope : List SortId) → ((us : List Ty) → are_arguments ks us sig (kept p scope) ≡ are_arguments ls us sig scope) → result_of ks o sig (kept p scope) ≡ result_of ls o sig scope
  results ks ls None sig scope h = refl
  results ks ls (Some rank) sig scope h = ap (λ (b : Bool). cond b (declared_sort rank.result) None) (h rank.args)

  at_predicate : (q : SymId) (ts : List Fterm) → Each Q ts → P (Formula.Pred q ts)
  at_predicate q ts each pass =
      let is = ap (λ (k : RF). k g) (fold_at_pred RF RT formula_renamed_step term_renamed_step q ts) in
      let has = λ (v : ℕ). ap (λ (k : Occurs). k v) (fold_at_pred Occurs Occurs formula_has_step term_has_step q ts) in
      let xs = all_terms ts each (λ v h. pass v (has v ∙ h)) in
      record {
        same = λ m env le. ap (λ (y : Formula). truth y m (kept p env)) is ∙ truth_of_pred q (moved ts) m (kept p env) ∙ (ap (λ (ys : List ℕ). m.at q.0 ys == 1) (xs.same m env le)) ∙ sym (truth_of_pred q ts m env);
        sorted = λ sig scope le. ap (λ (y : Formula). is_well_sorted y sig (kept p scope)) is ∙ ap (λ (k : Sorted). k sig (kept p scope)) (fold_at_pred Sorted Sort sorted_step sort_step q (moved ts)) ∙ (args (map sort_of (moved ts)) (map sort_of ts) (slice_get sig.ranks q.0) sig scope (λ us. xs.sorted us sig scope le)) ∙ sym (ap (λ (k : Sorted). k sig scope) (fold_at_pred Sorted Sort sorted_step sort_step q ts));
        plain = ap is_plain is ∙ fold_at_pred Bool Bool formula_plain_step term_plain_step q (moved ts) ∙ (xs.plain) ∙ sym (fold_at_pred Bool Bool formula_plain_step term_plain_step q ts);
      }

  at_equation : (s t : Fterm) → Q s → Q t → P (Formula.Equal s t)
  at_equation s t qs qt pass =
      let is = ap (λ (k : RF). k g) (fold_at_equal RF RT formula_renamed_step term_renamed_step s t) in
      let has = λ (v : ℕ). ap (λ (k : Occurs). k v) (fold_at_equal Occurs Occurs formula_has_step term_has_step s t) in
      let x = qs (λ v h. pass v (has v ∙ or_left (term_has s v) (term_has t v) h)) in
      let y = qt (λ v h. pass v (has v ∙ or_right (term_has s v) (term_has t v) h)) in
      record {
        same = λ m env le. ap (λ (y : Formula). truth y m (kept p env)) is ∙ truth_of_equal (term_renamed s g) (term_renamed t g) m (kept p env) ∙ (let a = x.same m env le in let b = y.same m env le in λ i. a i == b i) ∙ sym (truth_of_equal s t m env);
        sorted = λ sig scope le. ap (λ (y : Formula). is_well_sorted y sig (kept p scope)) is ∙ ap (λ (k : Sorted). k sig (kept p scope)) (fold_at_equal Sorted Sort sorted_step sort_step (term_renamed s g) (term_renamed t g)) ∙ (let a = x.sorted sig scope le in let b = y.sorted sig scope le in λ i. have_one_sort (a i) (b i)) ∙ sym (ap (λ (k : Sorted). k sig scope) (fold_at_equal Sorted Sort sorted_step sort_step s t));
        plain = ap is_plain is ∙ fold_at_equal Bool Bool formula_plain_step term_plain_step (term_renamed s g) (term_renamed t g) ∙ (let a = x.plain in let b = y.plain in λ i. a i && b i) ∙ sym (fold_at_equal Bool Bool formula_plain_step term_plain_step s t);
      }

  at_negation : (s : Formula) → P s → P (Formula.Not s)
  at_negation s ps pass =
      let is = ap (λ (k : RF). k g) (fold_at_not RF RT formula_renamed_step term_renamed_step s) in
      let has = λ (v : ℕ). ap (λ (k : Occurs). k v) (fold_at_not Occurs Occurs formula_has_step term_has_step s) in
      let x = ps (λ v h. pass v (has v ∙ h)) in
      record {
        same = λ m env le. ap (λ (y : Formula). truth y m (kept p env)) is ∙ truth_of_not (formula_renamed s g) m (kept p env) ∙ (ap not (x.same m env le)) ∙ sym (truth_of_not s m env);
        sorted = λ sig scope le. ap (λ (y : Formula). is_well_sorted y sig (kept p scope)) is ∙ ap (λ (k : Sorted). k sig (kept p scope)) (fold_at_not Sorted Sort sorted_step sort_step (formula_renamed s g)) ∙ (x.sorted sig scope le) ∙ sym (ap (λ (k : Sorted). k sig scope) (fold_at_not Sorted Sort sorted_step sort_step s));
        plain = ap is_plain is ∙ fold_at_not Bool Bool formula_plain_step term_plain_step (formula_renamed s g) ∙ (x.plain) ∙ sym (fold_at_not Bool Bool formula_plain_step term_plain_step s);
      }

  at_conjunction : (fs : List Formula) → Each P fs → P (Formula.And fs)
  at_conjunction fs each pass =
      let is = ap (λ (k : RF). k g) (fold_at_and RF RT formula_renamed_step term_renamed_step fs) in
      let has = λ (v : ℕ). ap (λ (k : Occurs). k v) (fold_at_and Occurs Occurs formula_has_step term_has_step fs) in
      let xs = all_formulas fs each (λ v h. pass v (has v ∙ h)) in
      record {
        same = λ m env le. ap (λ (y : Formula). truth y m (kept p env)) is ∙ truth_of_and (moved_formulas fs) m (kept p env) ∙ (xs.conj m env le) ∙ sym (truth_of_and fs m env);
        sorted = λ sig scope le. ap (λ (y : Formula). is_well_sorted y sig (kept p scope)) is ∙ ap (λ (k : Sorted). k sig (kept p scope)) (fold_at_and Sorted Sort sorted_step sort_step (moved_formulas fs)) ∙ (xs.sorted sig scope le) ∙ sym (ap (λ (k : Sorted). k sig scope) (fold_at_and Sorted Sort sorted_step sort_step fs));
        plain = ap is_plain is ∙ fold_at_and Bool Bool formula_plain_step term_plain_step (moved_formulas fs) ∙ (xs.plain) ∙ sym (fold_at_and Bool Bool formula_plain_step term_plain_step fs);
      }

  at_disjunction : (fs : List Formula) → Each P fs → P (Formula.Or fs)
  at_disjunction fs each pass =
      let is = ap (λ (k : RF). k g) (fold_at_or RF RT formula_renamed_step term_renamed_step fs) in
      let has = λ (v : ℕ). ap (λ (k : Occurs). k v) (fold_at_or Occurs Occurs formula_has_step term_has_step fs) in
      let xs = all_formulas fs each (λ v h. pass v (has v ∙ h)) in
      record {
        same = λ m env le. ap (λ (y : Formula). truth y m (kept p env)) is ∙ truth_of_or (moved_formulas fs) m (kept p env) ∙ (xs.disj m env le) ∙ sym (truth_of_or fs m env);
        sorted = λ sig scope le. ap (λ (y : Formula). is_well_sorted y sig (kept p scope)) is ∙ ap (λ (k : Sorted). k sig (kept p scope)) (fold_at_or Sorted Sort sorted_step sort_step (moved_formulas fs)) ∙ (xs.sorted sig scope le) ∙ sym (ap (λ (k : Sorted). k sig scope) (fold_at_or Sorted Sort sorted_step sort_step fs));
        plain = ap is_plain is ∙ fold_at_or Bool Bool formula_plain_step term_plain_step (moved_formulas fs) ∙ (xs.plain) ∙ sym (fold_at_or Bool Bool formula_plain_step term_plain_step fs);
      }

  at_equivalence : (s t : Formula) → P s → P t → P (Formula.Iff s t)
  at_equivalence s t ps pt pass =
      let is = ap (λ (k : RF). k g) (fold_at_iff RF RT formula_renamed_step term_renamed_step s t) in
      let has = λ (v : ℕ). ap (λ (k : Occurs). k v) (fold_at_iff Occurs Occurs formula_has_step term_has_step s t) in
      let x = ps (λ v h. pass v (has v ∙ or_left (formula_has s v) (formula_has t v) h)) in
      let y = pt (λ v h. pass v (has v ∙ or_right (formula_has s v) (formula_has t v) h)) in
      record {
        same = λ m env le. ap (λ (y : Formula). truth y m (kept p env)) is ∙ truth_of_iff (formula_renamed s g) (formula_renamed t g) m (kept p env) ∙ (let a = x.same m env le in let b = y.same m env le in λ i. beq (a i) (b i)) ∙ sym (truth_of_iff s t m env);
        sorted = λ sig scope le. ap (λ (y : Formula). is_well_sorted y sig (kept p scope)) is ∙ ap (λ (k : Sorted). k sig (kept p scope)) (fold_at_iff Sorted Sort sorted_step sort_step (formula_renamed s g) (formula_renamed t g)) ∙ (let a = x.sorted sig scope le in let b = y.sorted sig scope le in λ i. a i && b i) ∙ sym (ap (λ (k : Sorted). k sig scope) (fold_at_iff Sorted Sort sorted_step sort_step s t));
        plain = ap is_plain is ∙ fold_at_iff Bool Bool formula_plain_step term_plain_step (formula_renamed s g) (formula_renamed t g) ∙ (let a = x.plain in let b = y.plain in λ i. a i && b i) ∙ sym (fold_at_iff Bool Bool formula_plain_step term_plain_step s t);
      }

  at_choice : (c s t : Formula) → P c → P s → P t → P (Formula.Ite c s t)
  at_choice c s t pc ps pt pass =
      let is = ap (λ (k : RF). k g) (fold_at_ite RF RT formula_renamed_step term_renamed_step c s t) in
      let has = λ (v : ℕ). ap (λ (k : Occurs). k v) (fold_at_ite Occurs Occurs formula_has_step term_has_step c s t) in
      let x = pc (λ v h. pass v (has v ∙ or_left (formula_has c v) (formula_has s v || formula_has t v) h)) in
      let y = ps (λ v h. pass v (has v ∙ or_right (formula_has c v) (formula_has s v || formula_has t v) (or_left (formula_has s v) (formula_has t v) h))) in
      let z = pt (λ v h. pass v (has v ∙ or_right (formula_has c v) (formula_has s v || formula_has t v) (or_right (formula_has s v) (formula_has t v) h))) in
      record {
        same = λ m env le. ap (λ (y : Formula). truth y m (kept p env)) is ∙ truth_of_ite (formula_renamed c g) (formula_renamed s g) (formula_renamed t g) m (kept p env) ∙ (let a = x.same m env le in let b = y.same m env le in let d = z.same m env le in λ i. cond (a i) (b i) (d i)) ∙ sym (truth_of_ite c s t m env);
        sorted = λ sig scope le. ap (λ (y : Formula). is_well_sorted y sig (kept p scope)) is ∙ ap (λ (k : Sorted). k sig (kept p scope)) (fold_at_ite Sorted Sort sorted_step sort_step (formula_renamed c g) (formula_renamed s g) (formula_renamed t g)) ∙ (let a = x.sorted sig scope le in let b = y.sorted sig scope le in let d = z.sorted sig scope le in λ i. a i && (b i && d i)) ∙ sym (ap (λ (k : Sorted). k sig scope) (fold_at_ite Sorted Sort sorted_step sort_step c s t));
        plain = ap is_plain is ∙ fold_at_ite Bool Bool formula_plain_step term_plain_step (formula_renamed c g) (formula_renamed s g) (formula_renamed t g) ∙ (let a = x.plain in let b = y.plain in let d = z.plain in λ i. a i && (b i && d i)) ∙ sym (fold_at_ite Bool Bool formula_plain_step term_plain_step c s t);
      }

  at_quantifier : (all : Bool) (vars : List SortId) (body : Formula) → P body → P (Formula.Quant all vars body)
  at_quantifier all vars body pb pass =
      let is = ap (λ (k : RF). k g) (fold_at_quant RF RT formula_renamed_step term_renamed_step all vars body) in
      let has = λ (v : ℕ). ap (λ (k : Occurs). k v) (fold_at_quant Occurs Occurs formula_has_step term_has_step all vars body) in
      let x = pb (λ v h. pass v (has v ∙ h)) in
      record {
        same = λ m env le. ap (λ (y : Formula). truth y m (kept p env)) is ∙ truth_of_quant all vars (formula_renamed body g) m (kept p env) ∙ (block_same m all vars body x.same env le) ∙ sym (truth_of_quant all vars body m env);
        sorted = λ sig scope le. ap (λ (y : Formula). is_well_sorted y sig (kept p scope)) is ∙ ap (λ (k : Sorted). k sig (kept p scope)) (fold_at_quant Sorted Sort sorted_step sort_step all vars (formula_renamed body g)) ∙ (let n = length-append scope vars in let a = x.sorted sig (scope ++ vars) (omega (arith, n)) in let k = kept_append p scope vars (λ j lj. from j (omega arith)) in λ i. list_all (λ (s : SortId). nat_lt s.0 sig.sorts) vars && (ap (λ (ss : List SortId). is_well_sorted (formula_renamed body g) sig ss) (sym k) ∙ a) i) ∙ sym (ap (λ (k : Sorted). k sig scope) (fold_at_quant Sorted Sort sorted_step sort_step all vars body));
        plain = ap is_plain is ∙ fold_at_quant Bool Bool formula_plain_step term_plain_step all vars (formula_renamed body g) ∙ (x.plain) ∙ sym (fold_at_quant Bool Bool formula_plain_step term_plain_step all vars body);
      }

  at_variable : (v : ℕ) → Q (Fterm.Var v)
  at_variable v pass =
      let is = ap (λ (k : RT). k g) (fold_at_var RF RT formula_renamed_step term_renamed_step v) in
      let has = λ (v : ℕ). ap (λ (k : Occurs). k v) (fold_at_var Occurs Occurs formula_has_step term_has_step v) in
      record {
        same = λ m env le. ap (λ (y : Fterm). value y m (kept p env)) is ∙ value_of_var (g v) m (kept p env) ∙ (kept_index p env v (pass v (has v ∙ eq-eqb v v refl))) ∙ sym (value_of_var v m env);
        sorted = λ sig scope le. ap (λ (y : Fterm). sort_of y sig (kept p scope)) is ∙ ap (λ (k : Sort). k sig (kept p scope)) (fold_at_var Sorted Sort sorted_step sort_step (g v)) ∙ (kept_get p scope v (pass v (has v ∙ eq-eqb v v refl))) ∙ sym (ap (λ (k : Sort). k sig scope) (fold_at_var Sorted Sort sorted_step sort_step v));
        plain = ap is_plain_term is ∙ fold_at_var Bool Bool formula_plain_step term_plain_step (g v) ∙ (refl) ∙ sym (fold_at_var Bool Bool formula_plain_step term_plain_step v);
      }

  at_application : (q : SymId) (ts : List Fterm) → Each Q ts → Q (Fterm.App q ts)
  at_application q ts each pass =
      let is = ap (λ (k : RT). k g) (fold_at_app RF RT formula_renamed_step term_renamed_step q ts) in
      let has = λ (v : ℕ). ap (λ (k : Occurs). k v) (fold_at_app Occurs Occurs formula_has_step term_has_step q ts) in
      let xs = all_terms ts each (λ v h. pass v (has v ∙ h)) in
      record {
        same = λ m env le. ap (λ (y : Fterm). value y m (kept p env)) is ∙ value_of_app q (moved ts) m (kept p env) ∙ (ap (m.at q.0) (xs.same m env le)) ∙ sym (value_of_app q ts m env);
        sorted = λ sig scope le. ap (λ (y : Fterm). sort_of y sig (kept p scope)) is ∙ ap (λ (k : Sort). k sig (kept p scope)) (fold_at_app Sorted Sort sorted_step sort_step q (moved ts)) ∙ (results (map sort_of (moved ts)) (map sort_of ts) (slice_get sig.ranks q.0) sig scope (λ us. xs.sorted us sig scope le)) ∙ sym (ap (λ (k : Sort). k sig scope) (fold_at_app Sorted Sort sorted_step sort_step q ts));
        plain = ap is_plain_term is ∙ fold_at_app Bool Bool formula_plain_step term_plain_step q (moved ts) ∙ (xs.plain) ∙ sym (fold_at_app Bool Bool formula_plain_step term_plain_step q ts);
      }

  at_term_choice : (c : Formula) (s t : Fterm) → P c → Q s → Q t → Q (Fterm.Ite c s t)
  at_term_choice c s t pc ps pt pass =
      let is = ap (λ (k : RT). k g) (fold_at_term_ite RF RT formula_renamed_step term_renamed_step c s t) in
      let has = λ (v : ℕ). ap (λ (k : Occurs). k v) (fold_at_term_ite Occurs Occurs formula_has_step term_has_step c s t) in
      let x = pc (λ v h. pass v (has v ∙ or_left (formula_has c v) (term_has s v || term_has t v) h)) in
      let y = ps (λ v h. pass v (has v ∙ or_right (formula_has c v) (term_has s v || term_has t v) (or_left (term_has s v) (term_has t v) h))) in
      let z = pt (λ v h. pass v (has v ∙ or_right (formula_has c v) (term_has s v || term_has t v) (or_right (term_has s v) (term_has t v) h))) in
      record {
        same = λ m env le. ap (λ (y : Fterm). value y m (kept p env)) is ∙ value_of_ite (formula_renamed c g) (term_renamed s g) (term_renamed t g) m (kept p env) ∙ (let a = x.same m env le in let b = y.same m env le in let d = z.same m env le in λ i. cond (a i) (b i) (d i)) ∙ sym (value_of_ite c s t m env);
        sorted = λ sig scope le. ap (λ (y : Fterm). sort_of y sig (kept p scope)) is ∙ ap (λ (k : Sort). k sig (kept p scope)) (fold_at_term_ite Sorted Sort sorted_step sort_step (formula_renamed c g) (term_renamed s g) (term_renamed t g)) ∙ (let a = x.sorted sig scope le in let b = y.sorted sig scope le in let d = z.sorted sig scope le in λ i. cond (a i && have_one_sort (b i) (d i)) (b i) None) ∙ sym (ap (λ (k : Sort). k sig scope) (fold_at_term_ite Sorted Sort sorted_step sort_step c s t));
        plain = ap is_plain_term is ∙ fold_at_term_ite Bool Bool formula_plain_step term_plain_step (formula_renamed c g) (term_renamed s g) (term_renamed t g) ∙ (refl) ∙ sym (fold_at_term_ite Bool Bool formula_plain_step term_plain_step c s t);
      }

  cases : Cases P Q
  cases = record { constant = at_constant; predicate = at_predicate; equation = at_equation; negation = at_negation; conjunction = at_conjunction; disjunction = at_disjunction; equivalence = at_equivalence; choice = at_choice; quantifier = at_quantifier; variable = at_variable; application = at_application; term_choice = at_term_choice }

  pub renames : (f : Formula) → P f
  renames = formula_induction P Q cases

  pub renames_term : (t : Fterm) → Q t
  renames_term = fterm_induction P Q cases
