-- Members of lists.
use Rattle.std.proofs.Common.{◌≡◌, ℕ, zero, suc, ◌+◌, ◌<◌, ◌≤◌, Bool, true, false, cond, List, [], ◌∷◌, ◌++◌, ◌⊎◌, refl, sym, subst, ap, ◌∙◌, arith, inl, inr}
use Rattle.std.specs.Prelude.{◌==◌}
use Rattle.std.specs.List.{filter, flat_map, list_any, range_with_len}
use Rattle.std.proofs.lemmas.Bool.{cases_Bool, eq-eqb, eqb-false, eqb-true, or_cases, or_left, or_right}
use Rattle.fm_base.specs.Resolution.{Has}
use Rattle.fm_bank.specs.Subterms.{is_found as has}

pub in_left : {X : Type 0} (x : X) (xs ys : List X) → Has xs x → Has (xs ++ ys) x
in_left x [] ys h = absurd h
in_left x (y ∷ xs) ys (inl e) = inl e
in_left x (y ∷ xs) ys (inr h) = inr (in_left x xs ys h)

pub in_right : {X : Type 0} (x : X) (xs ys : List X) → Has ys x → Has (xs ++ ys) x
in_right x [] ys h = h
in_right x (y ∷ xs) ys h = inr (in_right x xs ys h)

pub in_either : {X : Type 0} (x : X) (xs ys : List X) → Has (xs ++ ys) x → Has xs x ⊎ Has ys x
in_either x [] ys h = inr h
in_either x (y ∷ xs) ys (inl e) = inl (inl e)
in_either x (y ∷ xs) ys (inr h) = elim (in_either x xs ys h) [ inl a ↦ inl (inr a) | inr b ↦ inr b ]

pub in_flat : {X Y : Type 0} (f : X → List Y) (y : Y) (xs : List X) → Has (flat_map f xs) y → (x : X) × Has xs x × Has (f x) y
in_flat f y [] h = absurd h
in_flat f y (x ∷ xs) h = elim (in_either y (f x) (flat_map f xs) h) [
  | inl a ↦ (x, inl refl, a)
  | inr b ↦ let p = in_flat f y xs b in (p.0, inr p.1, p.2)
]

pub flat_in : {X Y : Type 0} (f : X → List Y) (y : Y) (xs : List X) (x : X) → Has xs x → Has (f x) y → Has (flat_map f xs) y
flat_in f y [] x h i = absurd h
flat_in f y (z ∷ xs) x (inl e) i = in_left y (f z) (flat_map f xs) (subst (λ w. Has (f w) y) (sym e) i)
flat_in f y (z ∷ xs) x (inr h) i = in_right y (f z) (flat_map f xs) (flat_in f y xs x h i)

pub any_in : {X : Type 0} (p : X → Bool) (xs : List X) → list_any p xs ≡ true → (x : X) × Has xs x × (p x ≡ true)
any_in p [] e = cc
any_in p (x ∷ xs) e = elim (or_cases (p x) (list_any p xs) e) [
  | inl a ↦ (x, inl refl, a)
  | inr b ↦ let r = any_in p xs b in (r.0, inr r.1, r.2)
]

pub in_any : {X : Type 0} (p : X → Bool) (xs : List X) (x : X) → Has xs x → p x ≡ true → list_any p xs ≡ true
in_any p [] x h e = absurd h
in_any p (y ∷ xs) x (inl s) e = or_left (p y) (list_any p xs) (ap p s ∙ e)
in_any p (y ∷ xs) x (inr h) e = or_right (p y) (list_any p xs) (in_any p xs x h e)

pub has_in : (ns : List ℕ) (n : ℕ) → has ns n ≡ true → Has ns n
has_in ns n e = let p = any_in (λ m. n == m) ns e in subst (λ k. Has ns k) (sym (eqb-true n p.0 p.2)) p.1

pub in_has : (ns : List ℕ) (n : ℕ) → Has ns n → has ns n ≡ true
in_has ns n h = in_any (λ m. n == m) ns n h (eq-eqb n n refl)

filter_step : {X : Type 0} (p : X → Bool) (x y : X) (xs : List X) (b : Bool) → p y ≡ b → Has (cond b (y ∷ filter p xs) (filter p xs)) x → ((y ≡ x) × (b ≡ true)) ⊎ Has (filter p xs) x
filter_step p x y xs true e (inl s) = inl (s, refl)
filter_step p x y xs true e (inr h) = inr h
filter_step p x y xs false e h = inr h

pub in_filter : {X : Type 0} (p : X → Bool) (x : X) (xs : List X) → Has (filter p xs) x → Has xs x × (p x ≡ true)
in_filter p x [] h = absurd h
in_filter p x (y ∷ xs) h = elim (filter_step p x y xs (p y) refl h) [
  | inl (s, e) ↦ (inl s, ap p (sym s) ∙ e)
  | inr r ↦ let q = in_filter p x xs r in (inr q.0, q.1)
]

filter_kept : {X : Type 0} (p : X → Bool) (x y : X) (xs : List X) (b : Bool) → Has (filter p xs) x → Has (cond b (y ∷ filter p xs) (filter p xs)) x
filter_kept p x y xs true h = inr h
filter_kept p x y xs false h = h

filter_first : {X : Type 0} (p : X → Bool) (x y : X) (xs : List X) (b : Bool) → b ≡ true → y ≡ x → Has (cond b (y ∷ filter p xs) (filter p xs)) x
filter_first p x y xs true e s = inl s
filter_first p x y xs false e s = cc

pub filter_in : {X : Type 0} (p : X → Bool) (x : X) (xs : List X) → Has xs x → p x ≡ true → Has (filter p xs) x
filter_in p x [] h e = absurd h
filter_in p x (y ∷ xs) (inl s) e = filter_first p x y xs (p y) (ap p s ∙ e) s
filter_in p x (y ∷ xs) (inr h) e = filter_kept p x y xs (p y) (filter_in p x xs h e)

pub in_range : (x a k : ℕ) → Has (range_with_len a k) x → (a ≤ x) × (x < a + k)
in_range x a zero h = absurd h
in_range x a (suc k) (inl e) = (omega (arith, e), omega (arith, e))
in_range x a (suc k) (inr h) = let p = in_range x (a + 1) k h in (omega (arith, p.0), omega (arith, p.1))

pub range_in : (x a k : ℕ) → a ≤ x → x < a + k → Has (range_with_len a k) x
range_in x a zero le lt = absurd (omega (arith, le, lt))
range_in x a (suc k) le lt = elim (cases_Bool (x == a)) [
  | inl same ↦ inl (sym (eqb-true x a same))
  | inr other ↦ inr (range_in x (a + 1) k (omega (arith, le, eqb-false x a other)) (omega (arith, lt)))
]
