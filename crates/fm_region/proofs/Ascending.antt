-- Ascending lists of numbers.
use Rattle.std.proofs.Common.{◌≡◌, ℕ, zero, suc, ◌+◌, ◌<◌, ◌≤◌, Bool, true, false, cond, List, [], ◌∷◌, length, take, inl, inr, refl, sym, ap, ◌∙◌, arith, get_or}
use Rattle.std.specs.Prelude.{◌==◌}
use Rattle.std.specs.List.{AllByRecursion, Contains, IsDistinct, filter, range_with_len}
use Rattle.std.proofs.lemmas.Bool.{cases_Bool, eq-eqb, eqb-true, false≢true, or_cases, or_left, or_right}
use Rattle.fm_base.specs.declared.ids.TermId.{TermId}
use Rattle.fm_bank.specs.Terms.{numbers}
use Rattle.fm_cells.specs.Ascending.{IsAscending}
use Rattle.fm_region.specs.Parts.{Up}
use Rattle.fm_bank.specs.Regions.{is_in}
use Rattle.fm_region.proofs.Members.{first_in}

pub above_of : (x : ℕ) (xs : List ℕ) → AllByRecursion (λ y. x < y) xs → (d : ℕ) → is_in xs d ≡ true → x < d
above_of x [] h d i = absurd (false≢true i)
above_of x (y ∷ ys) h d i = elim (or_cases (d == y) (is_in ys d) i) [
  | inl same ↦ let e = eqb-true d y same in let lt = h.0 in omega (arith, e, lt)
  | inr rest ↦ above_of x ys h.1 d rest
]

above_by : (b : Bool) (x y : ℕ) (ys : List ℕ) → x < y → AllByRecursion (λ z. x < z) ys → AllByRecursion (λ z. x < z) (cond b (y ∷ ys) ys)
above_by true x y ys a h = (a, h)
above_by false x y ys a h = h

kept_above : (p : ℕ → Bool) (x : ℕ) (xs : List ℕ) → AllByRecursion (λ y. x < y) xs → AllByRecursion (λ y. x < y) (filter p xs)
kept_above p x [] h = tt
kept_above p x (y ∷ ys) h = above_by (p y) x y (filter p ys) h.0 (kept_above p x ys h.1)

up_by : (b : Bool) (x : ℕ) (xs : List ℕ) → AllByRecursion (λ y. x < y) xs → Up xs → Up (cond b (x ∷ xs) xs)
up_by true x xs a h = (a, h)
up_by false x xs a h = h

pub up_filter : (p : ℕ → Bool) (xs : List ℕ) → Up xs → Up (filter p xs)
up_filter p [] h = tt
up_filter p (x ∷ xs) h = up_by (p x) x (filter p xs) (kept_above p x xs h.0) (up_filter p xs h.1)

taken_above : (x n : ℕ) (xs : List ℕ) → AllByRecursion (λ y. x < y) xs → AllByRecursion (λ y. x < y) (take n xs)
taken_above x zero xs h = tt
taken_above x (suc n) [] h = tt
taken_above x (suc n) (y ∷ ys) h = (h.0, taken_above x n ys h.1)

pub up_take : (n : ℕ) (xs : List ℕ) → Up xs → Up (take n xs)
up_take zero xs h = tt
up_take (suc n) [] h = tt
up_take (suc n) (x ∷ xs) h = (taken_above x n xs h.0, up_take n xs h.1)

range_above : (x a n : ℕ) → x < a → AllByRecursion (λ y. x < y) (range_with_len a n)
range_above x a zero lt = tt
range_above x a (suc n) lt = (lt, range_above x (a + 1) n (omega (arith, lt)))

pub range_up : (a n : ℕ) → Up (range_with_len a n)
range_up a zero = tt
range_up a (suc n) = (range_above a (a + 1) n (omega arith), range_up (a + 1) n)

differ_of : (x : ℕ) (xs : List ℕ) → AllByRecursion (λ y. x < y) xs → AllByRecursion (λ y. (x == y) ≡ false) xs
differ_of x [] h = tt
differ_of x (y ∷ ys) h = (elim (cases_Bool (x == y)) [ inl same ↦ absurd (let e = eqb-true x y same in let lt = h.0 in omega (arith, e, lt)) | inr other ↦ other ], differ_of x ys h.1)

pub up_distinct : (xs : List ℕ) → Up xs → IsDistinct (λ c d. c == d) xs
unfolding IsDistinct
up_distinct [] h = tt
up_distinct (x ∷ xs) h = (differ_of x xs h.0, up_distinct xs h.1)

above_at : (x : ℕ) (xs : List ℕ) → AllByRecursion (λ y. x < y) xs → (j : ℕ) → j < length xs → x < get_or xs j 0
above_at x [] h j lt = absurd (omega (arith, lt))
above_at x (y ∷ ys) h zero lt = h.0
above_at x (y ∷ ys) h (suc j) lt = above_at x ys h.1 j (omega (arith, lt))

pub up_at : (xs : List ℕ) → Up xs → (i j : ℕ) → i < j → j < length xs → get_or xs i 0 < get_or xs j 0
up_at [] h i j le lt = absurd (omega (arith, lt))
up_at (x ∷ xs) h i zero le lt = absurd (omega (arith, le))
up_at (x ∷ xs) h zero (suc j) le lt = above_at x xs h.0 j (omega (arith, lt))
up_at (x ∷ xs) h (suc i) (suc j) le lt = up_at xs h.1 i j (omega (arith, le)) (omega (arith, lt))

pub in_range : (a n c : ℕ) → is_in (range_with_len a n) c ≡ true → (a ≤ c) × (c < a + n)
in_range a zero c h = absurd (false≢true h)
in_range a (suc n) c h = elim (or_cases (c == a) (is_in (range_with_len (a + 1) n) c) h) [
  | inl same ↦ let e = eqb-true c a same in (omega (arith, e), omega (arith, e))
  | inr rest ↦ let r = in_range (a + 1) n c rest in let ge = r.0 in let lt = r.1 in (omega (arith, ge), omega (arith, lt))
]

-- two ascending lists with the same members are one list
pub same_up : (xs ys : List ℕ) → Up xs → Up ys → ((c : ℕ) → is_in xs c ≡ true → is_in ys c ≡ true) → ((c : ℕ) → is_in ys c ≡ true → is_in xs c ≡ true) → xs ≡ ys
same_up [] [] ux uy to from = refl
same_up [] (y ∷ ys) ux uy to from = absurd (false≢true (from y (first_in y ys)))
same_up (x ∷ xs) [] ux uy to from = absurd (false≢true (to x (first_in x xs)))
same_up (x ∷ xs) (y ∷ ys) ux uy to from =
    let low : y ≤ x = (elim (or_cases (x == y) (is_in ys x) (to x (first_in x xs))) [ inl e ↦ let s = eqb-true x y e in omega (arith, s) | inr r ↦ let lt = above_of y ys uy.0 x r in omega (arith, lt) ]) in
    let high : x ≤ y = (elim (or_cases (y == x) (is_in xs y) (from y (first_in y ys))) [ inl e ↦ let s = eqb-true y x e in omega (arith, s) | inr r ↦ let lt = above_of x xs ux.0 y r in omega (arith, lt) ]) in
    let same : x ≡ y = omega (arith, low, high) in
    let rest : xs ≡ ys = same_up xs ys ux.1 uy.1
    (λ c h. elim (or_cases (c == y) (is_in ys c) (to c (or_right (c == x) (is_in xs c) h))) [ inl e ↦ absurd (let s = eqb-true c y e in let lt = above_of x xs ux.0 c h in omega (arith, s, lt, same)) | inr r ↦ r ])
    (λ c h. elim (or_cases (c == x) (is_in xs c) (from c (or_right (c == y) (is_in ys c) h))) [ inl e ↦ absurd (let s = eqb-true c x e in let lt = above_of y ys uy.0 c h in omega (arith, s, lt, same)) | inr r ↦ r ]) in
    ap (λ z. z ∷ xs) same ∙ ap (λ zs. y ∷ zs) rest

numbers_above : (t : TermId) (ts : List TermId) → ((j : ℕ) → j < length ts → t.0 < (get_or ts j t).0) → AllByRecursion (λ y. t.0 < y) (numbers ts)
numbers_above t [] h = tt
numbers_above t (s ∷ ts) h = (h 0 (omega arith), numbers_above t ts (λ j lt. h (suc j) (omega (arith, lt))))

pub ascending_up : (ts : List TermId) → IsAscending ts → Up (numbers ts)
ascending_up [] up = tt
ascending_up (t ∷ ts) up =
    (numbers_above t ts (λ j lt. up zero (suc j) t (omega arith) (omega (arith, lt))), ascending_up ts (λ i j d lt lj. up (suc i) (suc j) d (omega (arith, lt)) (omega (arith, lj))))

same_term : (s t : TermId) → s ≡ t → s.0 ≡ t.0
same_term s t e = ap (λ (x : TermId). x.0) e

pub contains_in : (ts : List TermId) (t : TermId) → Contains ts t → is_in (numbers ts) t.0 ≡ true
contains_in [] t h = absurd (let lt = h.1 in omega (arith, lt))
contains_in (s ∷ ts) t (zero, lt, e) = or_left (t.0 == s.0) (is_in (numbers ts) t.0) (eq-eqb t.0 s.0 (sym (same_term s t e)))
contains_in (s ∷ ts) t (suc i, lt, e) = or_right (t.0 == s.0) (is_in (numbers ts) t.0) (contains_in ts t (i, omega (arith, lt), e))

pub in_contains : (ts : List TermId) (c : ℕ) → is_in (numbers ts) c ≡ true → Contains ts (record { 0 = c })
in_contains [] c h = absurd (false≢true h)
in_contains (s ∷ ts) c h = elim (or_cases (c == s.0) (is_in (numbers ts) c) h) [
  | inl same ↦ let e = eqb-true c s.0 same in (zero, omega arith, ap (λ (n : ℕ). record { 0 = n }) (sym e))
  | inr rest ↦ let r = in_contains ts c rest in (suc r.0, (let lt = r.1 in omega (arith, lt)), r.2)
]
