-- What a formula becomes without its term `ite`s doesn't depend on the signature; only the ranks of the new symbols do.
use Rattle.std.proofs.Common.{◌≡◌, ℕ, ◌+◌, Bool, true, false, List, [], ◌∷◌, ◌++◌, map, length, ap, refl, sym, subst, ◌∙◌}
use Rattle.std.specs.Prelude.{Err, IfOk, Ok, Result, ◌||◌}
use Rattle.std.specs.List.{list_any}
use Rattle.std.proofs.lemmas.List.{length-append}
use Rattle.fm_base.specs.declared.ids.Memory.{Memory}
use Rattle.fm_base.specs.declared.ids.SortId.{SortId}
use Rattle.fm_base.specs.declared.ids.SymId.{SymId}
use Rattle.fm_base.specs.declared.signature.Sig.{Sig}
use Rattle.fm_base.specs.declared.signature.Ty.{Ty}
use Rattle.fm_base.specs.declared.formula.Formula
use Rattle.fm_base.specs.declared.formula.Formula.{Formula}
use Rattle.fm_base.specs.declared.formula.Fterm
use Rattle.fm_base.specs.declared.formula.Fterm.{Fterm}
use Rattle.fm_base.proofs.NormalTerms.{Each}
use Rattle.fm_nnf.specs.Lifting.{Lifted, Lifter, Parts, TermLifter, alone, both, choice_of, lift_all, lift_choice, lift_formula, lift_formula_step, lift_term, lift_term_step, lifted, lifts, mapped, under}
use Rattle.fm_nnf.proofs.Formulas.{Cases, fold_at_and, fold_at_app, fold_at_equal, fold_at_iff, fold_at_ite, fold_at_not, fold_at_or, fold_at_pred, fold_at_quant, fold_at_term_ite, fold_at_truth, fold_at_var, formula_induction}
use Rattle.fm_elab.specs.Sizes.{has_large_form, is_large, is_large_form}

-- the same is made, with the same definitions, and as many symbols
pub record AreAlike {A : Type 0} (one other : Lifted A) : Type 0 where
  pub made : one.made ≡ other.made
  pub definitions : one.definitions ≡ other.definitions
  pub count : length one.ranks ≡ length other.ranks

abbrev pub Alike : {A : Type 0} → Lifter A → Lifter A → Type 0
Alike j k = (scope : List SortId) (next : ℕ) → AreAlike (j scope next) (k scope next)

alike_self : {A : Type 0} (x : A) → Alike (alone x) (alone x)
alike_self x scope next = record { made = refl; definitions = refl; count = refl }

-- at another number of the next symbol
moved : {A : Type 0} (k : Lifter A) (one : Lifted A) (scope : List SortId) (n m : ℕ) → n ≡ m → AreAlike one (k scope n) → AreAlike one (k scope m)
moved k one scope n m e h = subst (λ (i : ℕ). AreAlike one (k scope i)) e h

alike_both : {A B : Type 0} (j j' : Lifter A) (k k' : Lifter B) → Alike j j' → Alike k k' → Alike (both j k) (both j' k')
alike_both {A = A} {B = B} j j' k k' p q scope next =
    let one = p scope next in
    let n = next + length (j scope next).ranks in
    let m = next + length (j' scope next).ranks in
    let two : AreAlike (k scope n) (k' scope m) = moved k' (k scope n) scope n m (ap (λ (c : ℕ). next + c) one.count) (q scope n) in
    record {
      made = λ i. (one.made i, two.made i);
      definitions = λ i. one.definitions i ++ two.definitions i;
      count = length-append (j scope next).ranks (k scope n).ranks ∙ (λ i. one.count i + two.count i) ∙ sym (length-append (j' scope next).ranks (k' scope m).ranks);
    }

alike_mapped : {A B : Type 0} (f : A → B) (j k : Lifter A) → Alike j k → Alike (mapped f j) (mapped f k)
alike_mapped f j k h scope next = let one = h scope next in record { made = ap f one.made; definitions = one.definitions; count = one.count }

alike_under : {A : Type 0} (vars : List SortId) (j k : Lifter A) → Alike j k → Alike (under vars j) (under vars k)
alike_under vars j k h scope next = h (scope ++ vars) next

-- a symbol for parts that are alike
alike_choice : (j k : Lifter Parts) (t u : List SortId → Ty) → Alike j k → Alike (lift_choice j t) (lift_choice k u)
alike_choice j k t u h scope next =
    let one = h scope next in
    let r = j scope next in
    let q = k scope next in
    let number : next + length r.ranks ≡ next + length q.ranks = ap (λ (c : ℕ). next + c) one.count in
    record {
      made = λ i. (choice_of (one.made i) (t scope) scope (number i)).made;
      definitions = λ i. one.definitions i ++ (choice_of (one.made i) (t scope) scope (number i)).definitions;
      count = length-append r.ranks (choice_of r.made (t scope) scope (next + length r.ranks)).ranks ∙ ap (λ (c : ℕ). c + 1) one.count ∙ sym (length-append q.ranks (choice_of q.made (u scope) scope (next + length q.ranks)).ranks);
    }

module _ (sig other : Sig) where
  abbrev L : Formula → Lifter Formula
  L f = lift_formula sig f

  abbrev M : Formula → Lifter Formula
  M f = lift_formula other f

  abbrev T : Fterm → Lifter Fterm
  T t = (lift_term sig t).lift

  abbrev U : Fterm → Lifter Fterm
  U t = (lift_term other t).lift

  abbrev P : Formula → Type 0
  P f = Alike (L f) (M f)

  abbrev Q : Fterm → Type 0
  Q t = Alike (T t) (U t)

  -- by what the definition says at a constructor
  along : (f : Formula) (j k : Lifter Formula) → L f ≡ j → M f ≡ k → Alike j k → P f
  along f j k p q h scope next = subst (λ (one : Lifted Formula). AreAlike one (M f scope next)) (sym (ap (λ (g : Lifter Formula). g scope next) p)) (subst (AreAlike (j scope next)) (sym (ap (λ (g : Lifter Formula). g scope next) q)) (h scope next))

  along_term : (t : Fterm) (j k : TermLifter) → lift_term sig t ≡ j → lift_term other t ≡ k → Alike j.lift k.lift → Q t
  along_term t j k p q h scope next = subst (λ (one : Lifted Fterm). AreAlike one (U t scope next)) (sym (ap (λ (g : TermLifter). g.lift scope next) p)) (subst (AreAlike (j.lift scope next)) (sym (ap (λ (g : TermLifter). g.lift scope next) q)) (h scope next))

  all_formulas : (fs : List Formula) → Each P fs → Alike (lift_all (map L fs)) (lift_all (map M fs))
  all_formulas [] h = alike_self []
  all_formulas (f ∷ fs) h = alike_mapped (λ p. p.0 ∷ p.1) (both (L f) (lift_all (map L fs))) (both (M f) (lift_all (map M fs))) (alike_both (L f) (M f) (lift_all (map L fs)) (lift_all (map M fs)) h.0 (all_formulas fs h.1))

  all_terms : (ts : List Fterm) → Each Q ts → Alike (lift_all (lifts (map (lift_term sig) ts))) (lift_all (lifts (map (lift_term other) ts)))
  all_terms [] h = alike_self []
  all_terms (t ∷ ts) h =
      let j = lift_all (lifts (map (lift_term sig) ts)) in
      let k = lift_all (lifts (map (lift_term other) ts)) in
      alike_mapped (λ p. p.0 ∷ p.1) (both (T t) j) (both (U t) k) (alike_both (T t) (U t) j k h.0 (all_terms ts h.1))

  at_truth : (b : Bool) → P (Formula.Truth b)
  at_truth b = along (Formula.Truth b) (alone (Formula.Truth b)) (alone (Formula.Truth b)) (fold_at_truth (Lifter Formula) TermLifter lift_formula_step (lift_term_step sig) b) (fold_at_truth (Lifter Formula) TermLifter lift_formula_step (lift_term_step other) b) (alike_self (Formula.Truth b))

  at_pred : (p : SymId) (ts : List Fterm) → Each Q ts → P (Formula.Pred p ts)
  at_pred p ts h =
      let j = lift_all (lifts (map (lift_term sig) ts)) in
      let k = lift_all (lifts (map (lift_term other) ts)) in
      along (Formula.Pred p ts) (mapped (λ xs. Formula.Pred p xs) j) (mapped (λ xs. Formula.Pred p xs) k) (fold_at_pred (Lifter Formula) TermLifter lift_formula_step (lift_term_step sig) p ts) (fold_at_pred (Lifter Formula) TermLifter lift_formula_step (lift_term_step other) p ts)
      (alike_mapped (λ xs. Formula.Pred p xs) j k (all_terms ts h))

  at_equal : (a b : Fterm) → Q a → Q b → P (Formula.Equal a b)
  at_equal a b p q =
      let f : Fterm × Fterm → Formula = λ x. Formula.Equal x.0 x.1 in
      along (Formula.Equal a b) (mapped f (both (T a) (T b))) (mapped f (both (U a) (U b))) (fold_at_equal (Lifter Formula) TermLifter lift_formula_step (lift_term_step sig) a b) (fold_at_equal (Lifter Formula) TermLifter lift_formula_step (lift_term_step other) a b)
      (alike_mapped f (both (T a) (T b)) (both (U a) (U b)) (alike_both (T a) (U a) (T b) (U b) p q))

  at_not : (a : Formula) → P a → P (Formula.Not a)
  at_not a p =
      along (Formula.Not a) (mapped (λ x. Formula.Not x) (L a)) (mapped (λ x. Formula.Not x) (M a)) (fold_at_not (Lifter Formula) TermLifter lift_formula_step (lift_term_step sig) a) (fold_at_not (Lifter Formula) TermLifter lift_formula_step (lift_term_step other) a)
      (alike_mapped (λ x. Formula.Not x) (L a) (M a) p)

  at_and : (fs : List Formula) → Each P fs → P (Formula.And fs)
  at_and fs h =
      along (Formula.And fs) (mapped (λ xs. Formula.And xs) (lift_all (map L fs))) (mapped (λ xs. Formula.And xs) (lift_all (map M fs))) (fold_at_and (Lifter Formula) TermLifter lift_formula_step (lift_term_step sig) fs) (fold_at_and (Lifter Formula) TermLifter lift_formula_step (lift_term_step other) fs)
      (alike_mapped (λ xs. Formula.And xs) (lift_all (map L fs)) (lift_all (map M fs)) (all_formulas fs h))

  at_or : (fs : List Formula) → Each P fs → P (Formula.Or fs)
  at_or fs h =
      along (Formula.Or fs) (mapped (λ xs. Formula.Or xs) (lift_all (map L fs))) (mapped (λ xs. Formula.Or xs) (lift_all (map M fs))) (fold_at_or (Lifter Formula) TermLifter lift_formula_step (lift_term_step sig) fs) (fold_at_or (Lifter Formula) TermLifter lift_formula_step (lift_term_step other) fs)
      (alike_mapped (λ xs. Formula.Or xs) (lift_all (map L fs)) (lift_all (map M fs)) (all_formulas fs h))

  at_iff : (a b : Formula) → P a → P b → P (Formula.Iff a b)
  at_iff a b p q =
      let f : Formula × Formula → Formula = λ x. Formula.Iff x.0 x.1 in
      along (Formula.Iff a b) (mapped f (both (L a) (L b))) (mapped f (both (M a) (M b))) (fold_at_iff (Lifter Formula) TermLifter lift_formula_step (lift_term_step sig) a b) (fold_at_iff (Lifter Formula) TermLifter lift_formula_step (lift_term_step other) a b)
      (alike_mapped f (both (L a) (L b)) (both (M a) (M b)) (alike_both (L a) (M a) (L b) (M b) p q))

  at_ite : (c a b : Formula) → P c → P a → P b → P (Formula.Ite c a b)
  at_ite c a b r p q =
      let f : Formula × (Formula × Formula) → Formula = λ x. Formula.Ite x.0 x.1.0 x.1.1 in
      along (Formula.Ite c a b) (mapped f (both (L c) (both (L a) (L b)))) (mapped f (both (M c) (both (M a) (M b)))) (fold_at_ite (Lifter Formula) TermLifter lift_formula_step (lift_term_step sig) c a b) (fold_at_ite (Lifter Formula) TermLifter lift_formula_step (lift_term_step other) c a b)
      (alike_mapped f (both (L c) (both (L a) (L b))) (both (M c) (both (M a) (M b))) (alike_both (L c) (M c) (both (L a) (L b)) (both (M a) (M b)) r (alike_both (L a) (M a) (L b) (M b) p q)))

  at_quant : (all : Bool) (vars : List SortId) (body : Formula) → P body → P (Formula.Quant all vars body)
  at_quant all vars body p =
      let f : Formula → Formula = λ x. Formula.Quant all vars x in
      along (Formula.Quant all vars body) (mapped f (under vars (L body))) (mapped f (under vars (M body))) (fold_at_quant (Lifter Formula) TermLifter lift_formula_step (lift_term_step sig) all vars body) (fold_at_quant (Lifter Formula) TermLifter lift_formula_step (lift_term_step other) all vars body)
      (alike_mapped f (under vars (L body)) (under vars (M body)) (alike_under vars (L body) (M body) p))

  at_var : (v : ℕ) → Q (Fterm.Var v)
  at_var v = along_term (Fterm.Var v) _ _ (fold_at_var (Lifter Formula) TermLifter lift_formula_step (lift_term_step sig) v) (fold_at_var (Lifter Formula) TermLifter lift_formula_step (lift_term_step other) v) (alike_self (Fterm.Var v))

  at_app : (g : SymId) (ts : List Fterm) → Each Q ts → Q (Fterm.App g ts)
  at_app g ts h =
      let j = lift_all (lifts (map (lift_term sig) ts)) in
      let k = lift_all (lifts (map (lift_term other) ts)) in
      along_term (Fterm.App g ts) _ _ (fold_at_app (Lifter Formula) TermLifter lift_formula_step (lift_term_step sig) g ts) (fold_at_app (Lifter Formula) TermLifter lift_formula_step (lift_term_step other) g ts)
      (alike_mapped (λ xs. Fterm.App g xs) j k (all_terms ts h))

  at_choice : (c : Formula) (a b : Fterm) → P c → Q a → Q b → Q (Fterm.Ite c a b)
  at_choice c a b r p q =
      along_term (Fterm.Ite c a b) _ _ (fold_at_term_ite (Lifter Formula) TermLifter lift_formula_step (lift_term_step sig) c a b) (fold_at_term_ite (Lifter Formula) TermLifter lift_formula_step (lift_term_step other) c a b)
      (alike_choice (both (L c) (both (T a) (T b))) (both (M c) (both (U a) (U b))) (lift_term sig a).type (lift_term other a).type (alike_both (L c) (M c) (both (T a) (T b)) (both (U a) (U b)) r (alike_both (T a) (U a) (T b) (U b) p q)))

  cases : Cases P Q
  cases = record { constant = at_truth; predicate = at_pred; equation = at_equal; negation = at_not; conjunction = at_and; disjunction = at_or; equivalence = at_iff; choice = at_ite; quantifier = at_quant; variable = at_var; application = at_app; term_choice = at_choice }

  pub lifted_alike : (f : Formula) → Alike (lift_formula sig f) (lift_formula other f)
  lifted_alike = formula_induction P Q cases

-- so whether an assertion is too large may be told without the ranks

large_without : (sig none : Sig) (f : Formula) (n : ℕ) → length sig.ranks ≡ n → is_large sig f ≡ has_large_form (lifted none f n)
large_without sig none f n e =
    let same = lifted_alike sig none f [] (length sig.ranks) in
    (λ i. list_any is_large_form (same.made i ∷ same.definitions i)) ∙ ap (λ (m : ℕ). has_large_form (lifted none f m)) e

pub large_formula : (sig none : Sig) (f made : Formula) (n : ℕ) (b : Bool) → length sig.ranks ≡ n → made ≡ (lifted none f n).made → b ≡ is_large_form made → b ≡ true → true ≡ is_large sig f
large_formula sig none f made n b e m l t =
    let large : is_large_form (lifted none f n).made ≡ true = ap is_large_form (sym m) ∙ sym l ∙ t in
    sym (large_without sig none f n e ∙ ap (λ (c : Bool). c || list_any is_large_form (lifted none f n).definitions) large)

pub large_definitions : (sig none : Sig) (f made : Formula) (ds : List Formula) (n : ℕ) (b : Bool) (r : Result Bool Memory) → length sig.ranks ≡ n → made ≡ (lifted none f n).made → ds ≡ (lifted none f n).definitions → b ≡ is_large_form made → b ≡ false
    → IfOk r (λ c. c ≡ list_any is_large_form ds) → IfOk r (λ c. c ≡ is_large sig f)
large_definitions sig none f made ds n b (Err m) e p d l t h = tt
large_definitions sig none f made ds n b (Ok c) e p d l t h =
    let small : is_large_form (lifted none f n).made ≡ false = ap is_large_form (sym p) ∙ sym l ∙ t in
    h ∙ ap (list_any is_large_form) d ∙ sym (large_without sig none f n e ∙ ap (λ (x : Bool). x || list_any is_large_form (lifted none f n).definitions) small)
