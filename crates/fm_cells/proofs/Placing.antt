-- A term's place among terms in ascending order, and what putting it there says.
use Rattle.std.proofs.Common.{◌≡◌, ℕ, zero, suc, ◌+◌, ◌-◌, ◌<◌, ◌≤◌, ◌||◌, true, false, List, [], ◌∷◌, ◌++◌, length, take, drop, inl, inr, refl, sym, ap, ◌∙◌, arith, get_or}
use Rattle.std.specs.Prelude.{◌==◌}
use Rattle.std.specs.List.{insert, remove}
use Rattle.std.proofs.lemmas.Bool.{cases_lt, eq-eqb, eqb-true, false≢true, false_from_ne_true, ne_eqb, or_cases, or_left, or_right}
use Rattle.std.proofs.lemmas.Bool.Decides.{eqb_tells}
use Rattle.std.proofs.lemmas.List.Edits.{get_or-insert_above, get_or-insert_at, get_or-insert_below, get_or-remove_above, get_or-remove_below, length-insert, length-remove}
use Rattle.fm_base.specs.declared.ids.TermId.{TermId}
use Rattle.fm_cells.specs.Ascending.{IsAscending, IsPlace, KeepsOthers, is_in}

pub same_at : (xs : List TermId) (k : ℕ) (d e : TermId) → k < length xs → get_or xs k d ≡ get_or xs k e
same_at [] k d e lt = absurd (omega (arith, lt))
same_at (x ∷ xs) zero d e lt = refl
same_at (x ∷ xs) (suc k) d e lt = same_at xs k d e (omega (arith, lt))

number_at : (xs : List TermId) (i j : ℕ) (d e : TermId) → i ≡ j → i < length xs → (get_or xs i d).0 ≡ (get_or xs j e).0
number_at xs i j d e p lt = ap (λ (t : TermId). t.0) (same_at xs i d e lt ∙ ap (λ k. get_or xs k e) p)

pub found_at : (xs : List TermId) (n k : ℕ) (d : TermId) → k < length xs → (get_or xs k d).0 ≡ n → is_in xs n ≡ true
found_at [] n k d lt e = absurd (omega (arith, lt))
found_at (x ∷ xs) n zero d lt e = or_left (n == x.0) (is_in xs n) (eq-eqb n x.0 (sym e))
found_at (x ∷ xs) n (suc k) d lt e = or_right (n == x.0) (is_in xs n) (found_at xs n k d (omega (arith, lt)) e)

pub found_where : (xs : List TermId) (n : ℕ) → is_in xs n ≡ true → (k : ℕ) × ((k < length xs) × ((d : TermId) → (get_or xs k d).0 ≡ n))
found_where [] n h = absurd (false≢true h)
found_where (x ∷ xs) n h =
    elim (or_cases (n == x.0) (is_in xs n) h) [
      | inl here ↦ (0, (omega arith, λ d. sym (eqb-true n x.0 here)))
      | inr there ↦ let r = found_where xs n there in (suc r.0, (omega (arith, r.1.0), r.1.1))
    ]

not_found : (xs : List TermId) (n : ℕ) → ((k : ℕ) (d : TermId) → k < length xs → (get_or xs k d).0 ≡ n → ⊥) → is_in xs n ≡ false
not_found xs n h = false_from_ne_true (is_in xs n) (λ t. let r = found_where xs n t in h r.0 (record { 0 = 0 }) r.1.0 (r.1.1 (record { 0 = 0 })))

module _ (xs : List TermId) (up : IsAscending xs) (n : ℕ) where
  pub below_half : (m : ℕ) (t : TermId) → m < length xs → t ≡ get_or xs m t → t.0 < n → (k : ℕ) (d : TermId) → k < m + 1 → (get_or xs k d).0 < n
  below_half m t lm e lt k d lk =
      let at : (get_or xs m d).0 ≡ t.0 = ap (λ (u : TermId). u.0) (same_at xs m d t lm ∙ sym e) in
      elim (cases_lt k m) [
        | inl l ↦ let a = up k m d l lm in omega (arith, a, at, lt)
        | inr past ↦ let a = number_at xs m k d d (omega (arith, past, lk)) lm in omega (arith, a, at, lt)
      ]

  pub above_half : (m : ℕ) (t : TermId) → m < length xs → t ≡ get_or xs m t → n ≤ t.0 → (k : ℕ) (d : TermId) → m ≤ k → k < length xs → n ≤ (get_or xs k d).0
  above_half m t lm e le k d lk lx =
      let at : (get_or xs m d).0 ≡ t.0 = ap (λ (u : TermId). u.0) (same_at xs m d t lm ∙ sym e) in
      elim (cases_lt m k) [
        | inl l ↦ let a = up m k d l lx in omega (arith, a, at, le)
        | inr past ↦ let a = number_at xs m k d d (omega (arith, past, lk)) lm in omega (arith, a, at, le)
      ]

  module _ (p : ℕ) (h : IsPlace xs n p) where
    -- it is past the end, and so is the term
    pub none_there : length xs ≤ p → false ≡ is_in xs n
    none_there past = sym (not_found xs n (λ k d lt same. let l = h.below k d (omega (arith, lt, past)) in omega (arith, l, same)))

    pub some_there : (t : TermId) → p < length xs → t ≡ get_or xs p t → (t.0 == n) ≡ is_in xs n
    some_there t lt e =
        elim (eqb_tells t.0 n) [
          | inl same ↦ same.0 ∙ sym (found_at xs n p t lt (ap (λ (u : TermId). u.0) (sym e) ∙ same.1))
          | inr other ↦ other.0 ∙ sym (not_found xs n (λ k d lk is. elim (cases_lt k p) [
            | inl l ↦ let b = h.below k d l in omega (arith, b, is)
            | inr past ↦ elim (cases_lt p k) [
              | inl l ↦ let b = up p k d l lk in let a = h.above p d (omega arith) lt in omega (arith, b, a, is)
              | inr le ↦ other.1 (ap (λ (u : TermId). u.0) e ∙ (number_at xs p k t d (omega (arith, past, le)) lt ∙ is))
            ]
          ]))
        ]

    pub place_below : is_in xs n ≡ true → p < length xs
    place_below t =
        let r = found_where xs n t in
        elim (cases_lt r.0 p) [
          | inl l ↦ let d : TermId = record { 0 = 0 } in let b = h.below r.0 d l in let e = r.1.1 d in absurd (omega (arith, b, e))
          | inr past ↦ omega (arith, past, r.1.0)
        ]

    -- what stands at its place is the term
    pub at_place : is_in xs n ≡ true → (d : TermId) → (get_or xs p d).0 ≡ n
    at_place t d =
        let r = found_where xs n t in
        let e = r.1.1 d in
        elim (cases_lt r.0 p) [
          | inl l ↦ let b = h.below r.0 d l in absurd (omega (arith, b, e))
          | inr past ↦ elim (cases_lt p r.0) [
            | inl l ↦ let b = up p r.0 d l r.1.0 in let a = h.above p d (omega arith) (omega (arith, l, r.1.0)) in absurd (omega (arith, b, a, e))
            | inr le ↦ number_at xs p r.0 d d (omega (arith, past, le)) (omega (arith, past, r.1.0)) ∙ e
          ]
        ]

in_put : (xs : List TermId) (p : ℕ) (t : TermId) → is_in (take p xs ++ t ∷ drop p xs) t.0 ≡ true
in_put xs zero t = or_left (t.0 == t.0) (is_in xs t.0) (eq-eqb t.0 t.0 refl)
in_put [] (suc p) t = or_left (t.0 == t.0) false (eq-eqb t.0 t.0 refl)
in_put (x ∷ xs) (suc p) t = or_right (t.0 == x.0) (is_in (take p xs ++ t ∷ drop p xs) t.0) (in_put xs p t)

in_put_other : (xs : List TermId) (p : ℕ) (t : TermId) (n : ℕ) → (n ≡ t.0 → ⊥) → is_in (take p xs ++ t ∷ drop p xs) n ≡ is_in xs n
in_put_other xs zero t n ne = ap (λ b. b || is_in xs n) (ne_eqb n t.0 ne)
in_put_other [] (suc p) t n ne = ap (λ b. b || false) (ne_eqb n t.0 ne)
in_put_other (x ∷ xs) (suc p) t n ne = ap (λ b. (n == x.0) || b) (in_put_other xs p t n ne)

module _ (xs : List TermId) (up : IsAscending xs) (t : TermId) (p : ℕ) (h : IsPlace xs t.0 p) where
  pub put_there : (ys : List TermId) → ys ≡ insert xs p t → is_in ys t.0 ≡ true
  put_there ys e = ap (λ zs. is_in zs t.0) e ∙ in_put xs p t

  pub put_others : (ys : List TermId) → ys ≡ insert xs p t → KeepsOthers t.0 xs ys
  put_others ys e n ne = ap (λ zs. is_in zs n) e ∙ in_put_other xs p t n ne

  pub put_ascending : is_in xs t.0 ≡ false → IsAscending (insert xs p t)
  put_ascending absent i j d lt lj =
      let long = length-insert xs p t h.within in
      let low : (k : ℕ) → k < p → (get_or (insert xs p t) k d).0 ≡ (get_or xs k d).0 = λ k l. ap (λ (u : TermId). u.0) (get_or-insert_below xs p t d k l h.within) in
      let mid : (k : ℕ) → k ≡ p → (get_or (insert xs p t) k d).0 ≡ t.0 = λ k e. ap (λ (m : ℕ). (get_or (insert xs p t) m d).0) e ∙ ap (λ (u : TermId). u.0) (get_or-insert_at xs p t d h.within) in
      let high : (k m : ℕ) → p ≤ m → k ≡ m + 1 → (get_or (insert xs p t) k d).0 ≡ (get_or xs m d).0 = λ k m l e. ap (λ (z : ℕ). (get_or (insert xs p t) z d).0) e ∙ ap (λ (u : TermId). u.0) (get_or-insert_above xs p t d m l h.within) in
      let apart : (k : ℕ) → k < length xs → (get_or xs k d).0 ≡ t.0 → ⊥ = λ k l e. false≢true (sym absent ∙ found_at xs t.0 k d l e) in
      elim (cases_lt j p) [
        | inl lp ↦ let a = low i (omega (arith, lt, lp)) in let b = low j lp in let o = up i j d lt (omega (arith, lp, h.within)) in omega (arith, a, b, o)
        | inr pj ↦ elim (cases_lt p j) [
          | inl qj ↦
              let b = high j (j - 1) (omega (arith, qj)) (omega (arith, qj)) in
              let lx : j - 1 < length xs = omega (arith, lj, long, qj) in
              elim (cases_lt i p) [
                | inl ip ↦ let a = low i ip in let o = up i (j - 1) d (omega (arith, ip, qj)) lx in omega (arith, a, b, o)
                | inr pi ↦ elim (cases_lt p i) [
                  | inl qi ↦ let a = high i (i - 1) (omega (arith, qi)) (omega (arith, qi)) in let o = up (i - 1) (j - 1) d (omega (arith, lt, qi)) lx in omega (arith, a, b, o)
                  | inr le ↦ let a = mid i (omega (arith, pi, le)) in let o = h.above (j - 1) d (omega (arith, qj)) lx in let ne = apart (j - 1) lx in below a b (strict o ne)
                ]
              ]
          | inr le ↦ let b = mid j (omega (arith, pj, le)) in let a = low i (omega (arith, lt, pj, le)) in let o = h.below i d (omega (arith, lt, pj, le)) in omega (arith, a, b, o)
        ]
      ]
    where
      strict : {m n : ℕ} → m ≤ n → (n ≡ m → ⊥) → m < n
      strict {m} {n} le ne = elim (cases_lt m n) [ inl l ↦ l | inr past ↦ absurd (ne (omega (arith, le, past))) ]

      below : {a b m n : ℕ} → a ≡ m → b ≡ n → m < n → a < b
      below e f l = omega (arith, e, f, l)
