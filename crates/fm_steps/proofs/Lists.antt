-- Membership and places.
use Rattle.std.proofs.Common.{◌≡◌, ℕ, zero, suc, ◌⊎◌, Bool, true, false, cond, List, [], ◌∷◌, ◌++◌, length, take, slice_get, Some, inl, inr, refl, sym, ap, subst, ◌∙◌, arith}
use Rattle.std.specs.List.{All, Contains, filter, list_any}
use Rattle.std.proofs.lemmas.Bool.{false≢true, or_cases, or_left, or_right}
use Rattle.std.proofs.lemmas.List.Elements.{All-cons, All-head, All-nil, All-tail}
use Rattle.fm_base.specs.Resolution.{AreDistinct, Has}

pub Has-get : {X : Type 0} (xs : List X) (i : ℕ) (x : X) → slice_get xs i ≡ Some x → Has xs x
Has-get [] i x h = absurd (cc h)
Has-get (y ∷ ys) zero x h = inl (cc h)
Has-get (y ∷ ys) (suc i) x h = inr (Has-get ys i x h)

pub Has-take : {X : Type 0} (n : ℕ) (xs : List X) (x : X) → Has (take n xs) x → Has xs x
Has-take zero xs x h = absurd h
Has-take (suc n) [] x h = absurd h
Has-take (suc n) (y ∷ ys) x (inl e) = inl e
Has-take (suc n) (y ∷ ys) x (inr h) = inr (Has-take n ys x h)

pub Has-append : {X : Type 0} (xs ys : List X) (x : X) → Has (xs ++ ys) x → Has xs x ⊎ Has ys x
Has-append [] ys x h = inr h
Has-append (z ∷ zs) ys x (inl e) = inl (inl e)
Has-append (z ∷ zs) ys x (inr h) = elim (Has-append zs ys x h) [ inl p ↦ inl (inr p) | inr q ↦ inr q ]

pub Has-end : {X : Type 0} (xs : List X) (x : X) → Has (xs ++ x ∷ []) x
Has-end [] x = inl refl
Has-end (y ∷ ys) x = inr (Has-end ys x)

pub only_one : {X : Type 0} (x y : X) → Has (x ∷ []) y → x ≡ y
only_one x y (inl e) = e
only_one x y (inr h) = absurd h

pub append_none : {X : Type 0} (xs ys : List X) → xs ++ ys ≡ [] → (xs ≡ []) × (ys ≡ [])
append_none [] ys h = (refl, h)
append_none (z ∷ zs) ys h = absurd (cc h)

pub get_last : {X : Type 0} (xs : List X) (x : X) → slice_get (xs ++ x ∷ []) (length xs) ≡ Some x
get_last [] x = refl
get_last (z ∷ zs) x = get_last zs x

pub distinct_push : {X : Type 0} (xs : List X) (x : X) → AreDistinct xs → (Has xs x → ⊥) → AreDistinct (xs ++ x ∷ [])
distinct_push [] x h new = (λ q. q, tt)
distinct_push (y ∷ ys) x h new = (λ q. elim (Has-append ys (x ∷ []) y q) [ inl a ↦ h.0 a | inr c ↦ new (inl (sym (only_one x y c))) ], distinct_push ys x h.1 (λ q. new (inr q)))

pub any_more : {X : Type 0} (p : X → Bool) (xs ys : List X) → list_any p xs ≡ true → list_any p (xs ++ ys) ≡ true
any_more p [] ys h = absurd (false≢true h)
any_more p (x ∷ xs) ys h = elim (or_cases (p x) (list_any p xs) h) [ inl a ↦ or_left (p x) (list_any p (xs ++ ys)) a | inr c ↦ or_right (p x) (list_any p (xs ++ ys)) (any_more p xs ys c) ]

pub any_last : {X : Type 0} (p : X → Bool) (xs : List X) (x : X) → p x ≡ true → list_any p (xs ++ x ∷ []) ≡ true
any_last p [] x h = or_left (p x) false h
any_last p (y ∷ ys) x h = or_right (p y) (list_any p (ys ++ x ∷ [])) (any_last p ys x h)

passes_step : {X : Type 0} (p : X → Bool) (y : X) (ys : List X) (x : X) (b : Bool) → p y ≡ b → Has (cond b (y ∷ ys) ys) x → (Has ys x → p x ≡ true) → p x ≡ true
passes_step p y ys x true q (inl e) rec = ap p (sym e) ∙ q
passes_step p y ys x true q (inr h) rec = rec h
passes_step p y ys x false q h rec = rec h

pub Has-passes : {X : Type 0} (p : X → Bool) (xs : List X) (x : X) → Has (filter p xs) x → p x ≡ true
Has-passes p [] x h = absurd h
Has-passes p (y ∷ ys) x h = passes_step p y (filter p ys) x (p y) refl h (Has-passes p ys x)

-- what holds of all
pub all_has : {X : Type 0} (P : X → Type 0) (xs : List X) (x : X) → All P xs → Has xs x → P x
all_has P [] x a h = absurd h
all_has P (y ∷ ys) x a (inl e) = subst P e (All-head P y ys a)
all_has P (y ∷ ys) x a (inr h) = all_has P ys x (All-tail P y ys a) h

pub all_from : {X : Type 0} (P : X → Type 0) (xs : List X) → ((x : X) → Has xs x → P x) → All P xs
all_from P [] h = All-nil P
all_from P (y ∷ ys) h = All-cons P y ys (h y (inl refl)) (all_from P ys (λ x q. h x (inr q)))

pub Has-contains : {X : Type 0} (xs : List X) (x : X) → Has xs x → Contains xs x
Has-contains [] x h = absurd h
Has-contains (y ∷ ys) x (inl e) = (0, omega arith, e)
Has-contains (y ∷ ys) x (inr h) = let r = Has-contains ys x h in let lt = r.1 in (suc r.0, omega (arith, lt), r.2)

pub contains_has : {X : Type 0} (xs : List X) (x : X) → Contains xs x → Has xs x
contains_has [] x c = let lt = c.1 in absurd (omega (arith, lt))
contains_has (y ∷ ys) x (zero, lt, e) = inl e
contains_has (y ∷ ys) x (suc n, lt, e) = inr (contains_has ys x (n, omega (arith, lt), e))
