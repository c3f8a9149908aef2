-- Members of lists of numbers.
use Rattle.std.proofs.Common.{◌≡◌, ℕ, ◌⊎◌, true, false, List, [], ◌∷◌, ◌++◌, inl, inr, refl}
use Rattle.std.specs.Prelude.{◌==◌}
use Rattle.std.proofs.lemmas.Bool.{eq-eqb, eqb-true, false≢true, or_cases, or_left, or_right}
use Rattle.fm_cells.specs.Members.{is_on}

pub on_left : (xs ys : List ℕ) (e : ℕ) → is_on xs e ≡ true → is_on (xs ++ ys) e ≡ true
on_left [] ys e h = absurd (false≢true h)
on_left (x ∷ xs) ys e h = elim (or_cases (e == x) (is_on xs e) h) [ inl a ↦ or_left (e == x) (is_on (xs ++ ys) e) a | inr b ↦ or_right (e == x) (is_on (xs ++ ys) e) (on_left xs ys e b) ]

pub on_right : (xs ys : List ℕ) (e : ℕ) → is_on ys e ≡ true → is_on (xs ++ ys) e ≡ true
on_right [] ys e h = h
on_right (x ∷ xs) ys e h = or_right (e == x) (is_on (xs ++ ys) e) (on_right xs ys e h)

pub on_cases : (xs ys : List ℕ) (e : ℕ) → is_on (xs ++ ys) e ≡ true → (is_on xs e ≡ true) ⊎ (is_on ys e ≡ true)
on_cases [] ys e h = inr h
on_cases (x ∷ xs) ys e h =
    elim (or_cases (e == x) (is_on (xs ++ ys) e) h) [
      | inl a ↦ inl (or_left (e == x) (is_on xs e) a)
      | inr b ↦ elim (on_cases xs ys e b) [ inl c ↦ inl (or_right (e == x) (is_on xs e) c) | inr c ↦ inr c ]
    ]

pub on_one : (x e : ℕ) → is_on (x ∷ []) e ≡ true → e ≡ x
on_one x e h = elim (or_cases (e == x) false h) [ inl a ↦ eqb-true e x a | inr b ↦ absurd (false≢true b) ]

pub one_on : (x : ℕ) → is_on (x ∷ []) x ≡ true
one_on x = or_left (x == x) false (eq-eqb x x refl)
