-- Going through the terms by age, a reached term of a class without a representative becomes one.
use Rattle.std.proofs.Common.{set, ◌≡◌, ℕ, zero, suc, ◌+◌, ◌<◌, Bool, true, false, ◌&&◌, ◌||◌, not, cond, List, [], ◌∷◌, ◌++◌, length, get_or, refl, sym, subst, ap, ◌∙◌, arith, inl, inr}
use Rattle.std.specs.Prelude.{◌==◌}
use Rattle.std.specs.List.{filter, range_with_len}
use Rattle.std.proofs.lemmas.Bool.{cases_eq, eq-eqb, ne_eqb}
use Rattle.std.proofs.lemmas.List.{append-nil, append_assoc, get_or-set_other, get_or-set_same, length-set}
use Rattle.std.proofs.lemmas.List.Folds.{list_any-append}
use Rattle.fm_build.specs.Marks.{AreBelow, AreTaken, class_at, has_class, has_marked, is_marked, is_new_by, new_by}

range_more : (a n : ℕ) → range_with_len a (suc n) ≡ range_with_len a n ++ (a + n) ∷ []
range_more a zero = let e : a ≡ a + 0 = omega arith in ap (λ i. i ∷ []) e
range_more a (suc n) = let e : a + 1 + n ≡ a + suc n = omega arith in ap (λ l. a ∷ l) (range_more (a + 1) n ∙ ap (λ i. range_with_len (a + 1) n ++ i ∷ []) e)

zero_more : (n : ℕ) → range_with_len 0 (suc n) ≡ range_with_len 0 n ++ n ∷ []
zero_more n = let e : 0 + n ≡ n = omega arith in range_more 0 n ∙ ap (λ i. range_with_len 0 n ++ i ∷ []) e

cond_append : (x : ℕ) (xs ys : List ℕ) (b : Bool) → cond b (x ∷ (xs ++ ys)) (xs ++ ys) ≡ cond b (x ∷ xs) xs ++ ys
cond_append x xs ys true = refl
cond_append x xs ys false = refl

or_none : (b : Bool) → (b || false) ≡ b
or_none true = refl
or_none false = refl

single : (class : List ℕ) (n k : ℕ) (b : Bool) → has_class class (cond b (n ∷ []) []) k ≡ (b && (class_at class n == k))
single class n k true = or_none (class_at class n == k)
single class n k false = refl

bits_both : (m e : Bool) → ((m && true) && e) ≡ (m && e)
bits_both true e = refl
bits_both false e = refl

bits : (m old before e : Bool) → old ≡ false → before ≡ false → ((m && (not old && not before)) && e) ≡ (m && e)
bits m false false e o b = bits_both m e
bits m true before e o b = cc
bits m false true e o b = cc

apart : (m x e : Bool) → e ≡ false → ((m && x) && e) ≡ (m && e)
apart true true e h = refl
apart true false e h = sym h
apart false x e h = refl

filter_append : (p : ℕ → Bool) (xs ys : List ℕ) → filter p (xs ++ ys) ≡ filter p xs ++ filter p ys
filter_append p [] ys = refl
filter_append p (x ∷ xs) ys = ap (λ l. cond (p x) (x ∷ l) l) (filter_append p xs ys) ∙ cond_append x (filter p xs) (filter p ys) (p x)

module _ (class : List ℕ) (marks : List Bool) (reps : List ℕ) where
  abbrev new : ℕ → Bool
  new = is_new_by class marks reps

  pub new_more : (n : ℕ) → new_by class marks reps (suc n) ≡ new_by class marks reps n ++ cond (new n) (n ∷ []) []
  new_more n = ap (filter new) (zero_more n) ∙ filter_append new (range_with_len 0 n) (n ∷ [])

  one_step : (k c : ℕ) (m old before : Bool) → has_class class reps k ≡ false → has_class class reps c ≡ old → (had : Bool) → ((c ≡ k) → before ≡ had) → (had || ((m && (not old && not before)) && (c == k))) ≡ (had || (m && (c == k)))
  one_step k c m old before none is true same = refl
  one_step k c m old before none is false same =
      elim (cases_eq c k) [
        | inl e ↦
            let old_false : old ≡ false = sym is ∙ ap (has_class class reps) e ∙ none in
            let before_false : before ≡ false = same e in
            bits m old before (c == k) old_false before_false
        | inr other ↦ apart m (not old && not before) (c == k) (ne_eqb c k other)
      ]

  -- a class without an old representative has a new one exactly where a term of it is reached
  pub new_or_marked : (k n : ℕ) → has_class class reps k ≡ false → has_class class (new_by class marks reps n) k ≡ has_marked class marks (range_with_len 0 n) k
  new_or_marked k zero none = refl
  new_or_marked k (suc n) none =
      let c = class_at class n in
      let before : ℕ → Bool = has_marked class marks (range_with_len 0 n) in
      ap (λ l. has_class class l k) (new_more n)
      ∙ list_any-append (λ m. class_at class m == k) (new_by class marks reps n) (cond (new n) (n ∷ []) [])
      ∙ ap (λ b. b || has_class class (cond (new n) (n ∷ []) []) k) (new_or_marked k n none)
      ∙ ap (λ b. before k || b) (single class n k (new n))
      ∙ one_step k c (is_marked marks n) (has_class class reps c) (before c) none refl (before k) (λ e. ap before e)
      ∙ sym (ap (λ l. has_marked class marks l k) (zero_more n) ∙ list_any-append (λ m. is_marked marks m && (class_at class m == k)) (range_with_len 0 n) (n ∷ []) ∙ ap (λ b. before k || b) (or_none (is_marked marks n && (c == k))))

  split_test : (n k : ℕ) (old : Bool) → has_class class reps k ≡ old → (is_marked marks n && not (old || has_class class (new_by class marks reps n) k)) ≡ (is_marked marks n && (not old && not (has_marked class marks (range_with_len 0 n) k)))
  split_test n k true e = refl
  split_test n k false e = ap (λ b. is_marked marks n && not b) (new_or_marked k n e)

  -- the test of the code is the definition's
  pub tests_new : (n : ℕ) (now : List ℕ) → now ≡ reps ++ new_by class marks reps n → (is_marked marks n && not (has_class class now (class_at class n))) ≡ new n
  tests_new n now is =
      let k = class_at class n in
      ap (λ b. is_marked marks n && not b) (ap (λ l. has_class class l k) is ∙ list_any-append (λ m. class_at class m == k) reps (new_by class marks reps n)) ∙ split_test n k (has_class class reps k) refl

  pub kept : (n : ℕ) (now : List ℕ) → now ≡ reps ++ new_by class marks reps n → new n ≡ false → now ≡ reps ++ new_by class marks reps (n + 1)
  kept n now is e =
      let same : suc n ≡ n + 1 = omega arith in
      is ∙ ap (λ l. reps ++ l) (sym (append-nil (new_by class marks reps n)) ∙ sym (ap (λ b. new_by class marks reps n ++ cond b (n ∷ []) []) e) ∙ sym (new_more n) ∙ ap (new_by class marks reps) same)

  pub pushed : (n : ℕ) (now : List ℕ) → now ≡ reps ++ new_by class marks reps n → new n ≡ true → now ++ n ∷ [] ≡ reps ++ new_by class marks reps (n + 1)
  pushed n now is e =
      let same : suc n ≡ n + 1 = omega arith in
      ap (λ l. l ++ n ∷ []) is ∙ append_assoc reps (new_by class marks reps n) (n ∷ []) ∙ ap (λ l. reps ++ l) (sym (ap (λ b. new_by class marks reps n ++ cond b (n ∷ []) []) e) ∙ sym (new_more n) ∙ ap (new_by class marks reps) same)

pub below_at : (ks : List ℕ) (n i : ℕ) → AreBelow ks n → i < length ks → get_or ks i 0 < n
below_at [] n i h lt = absurd (omega (arith, lt))
below_at (k ∷ ks) n zero (one, h) lt = one
below_at (k ∷ ks) n (suc i) (one, h) lt = below_at ks n i h (omega (arith, lt))

or_true : (b : Bool) → (b || true) ≡ true
or_true true = refl
or_true false = refl

pub taken_pushed : (class : List ℕ) (taken : List Bool) (now : List ℕ) (n : ℕ) → AreTaken class taken now → class_at class n < length taken → AreTaken class (set taken (class_at class n) true) (now ++ n ∷ [])
taken_pushed class taken now n h within k lt =
    let c = class_at class n in
    let whole = list_any-append (λ m. class_at class m == k) now (n ∷ []) ∙ ap (λ b. has_class class now k || b) (or_none (c == k)) in
    elim (cases_eq c k) [
      | inl same ↦ ap (λ i. get_or (set taken c true) i false) (sym same) ∙ get_or-set_same taken c true false within ∙ sym (or_true (has_class class now k)) ∙ sym (ap (λ b. has_class class now k || b) (eq-eqb c k same)) ∙ sym whole
      | inr other ↦ get_or-set_other taken c k true false (λ e. other (sym e)) ∙ h k (omega (arith, lt, length-set taken c true)) ∙ sym (or_none (has_class class now k)) ∙ sym (ap (λ b. has_class class now k || b) (ne_eqb c k other)) ∙ sym whole
    ]

pub test_is : (class : List ℕ) (marks taken : List Bool) (reps now : List ℕ) (n : ℕ) → AreTaken class taken now → class_at class n < length taken → now ≡ reps ++ new_by class marks reps n → (is_marked marks n && not (get_or taken (class_at class n) false)) ≡ is_new_by class marks reps n
test_is class marks taken reps now n h within is = ap (λ b. is_marked marks n && not b) (h (class_at class n) within) ∙ tests_new class marks reps n now is

-- what a turn leaves
abbrev pub Turned : List ℕ → List Bool → List ℕ → ℕ → ℕ → List Bool → List ℕ → Type 0
Turned class marks reps n room taken now = (now ≡ reps ++ new_by class marks reps (n + 1)) × AreTaken class taken now × (length taken ≡ room)

pub turned_new : (class : List ℕ) (marks taken after : List Bool) (reps now more : List ℕ) (n room : ℕ) → AreTaken class taken now → length taken ≡ room → class_at class n < length taken → now ≡ reps ++ new_by class marks reps n → is_new_by class marks reps n ≡ true → after ≡ set taken (class_at class n) true → more ≡ now ++ n ∷ [] → Turned class marks reps n room after more
turned_new class marks taken after reps now more n room h long within is e p q =
    subst (λ t. Turned class marks reps n room t more) (sym p) (subst (λ l. Turned class marks reps n room (set taken (class_at class n) true) l) (sym q)
    (pushed class marks reps n now is e, taken_pushed class taken now n h within, length-set taken (class_at class n) true ∙ long))

pub turned_old : (class : List ℕ) (marks taken after : List Bool) (reps now more : List ℕ) (n room : ℕ) → AreTaken class taken now → length taken ≡ room → now ≡ reps ++ new_by class marks reps n → is_new_by class marks reps n ≡ false → after ≡ taken → more ≡ now → Turned class marks reps n room after more
turned_old class marks taken after reps now more n room h long is e p q =
    subst (λ t. Turned class marks reps n room t more) (sym p) (subst (λ l. Turned class marks reps n room taken l) (sym q) (kept class marks reps n now is e, h, long))
