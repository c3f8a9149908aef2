-- What joins keep: each class stays in a region, and the regions become fewer.
use Rattle.std.proofs.Common.{◌≡◌, ℕ, zero, suc, ◌+◌, ◌-◌, ◌<◌, ◌≤◌, Bool, true, false, not, ◌&&◌, ◌||◌, List, [], ◌∷◌, length, min, max, Option, Some, None, inl, inr, refl, sym, subst, ap, ◌∙◌, arith, get_or, length-set}
use Rattle.std.specs.Prelude.{◌==◌, nat_lt, slice_set}
use Rattle.std.specs.List.{Contains, IsDistinct, list_any, remove}
use Rattle.std.proofs.lemmas.Bool.{and_from, and_parts, cases_Bool, cases_eq, cases_lt, eq-eqb, false≢true, lt-ltb, or_left, or_right}
use Rattle.std.proofs.lemmas.Cmp.{nat_eq_equiv}
use Rattle.std.proofs.lemmas.List.{get_or-set_other, get_or-set_same, get_or_default}
use Rattle.std.proofs.lemmas.List.Edits.{get_or-remove_above, get_or-remove_below, length-remove}
use Rattle.std.proofs.lemmas.List.Quantifiers.{position-Some}
use Rattle.std.proofs.lemmas.Map.Made.{length-le_from_is_member}
use Rattle.fm_bank.specs.Regions.{Cover, after_join, after_meeting, after_opening, closed, closed_within, first_open, first_touching, grown_within, is_closed_at, is_in, is_large, joined, must_grow, region_at, touches}
use Rattle.fm_region.proofs.Members.{filter_in, some_member}
use Rattle.fm_region.proofs.Searching.{cond_no, cond_yes, found}

kept_removed : {X : Type 0} → (xs : List X) (i m : ℕ) (x : X) → i < length xs → m < length xs → (m ≡ i → ⊥) → get_or xs m x ≡ x → Contains (remove xs i) x
kept_removed xs i m x il ml ne e =
    let long = length-remove xs i il in
    elim (cases_lt m i) [
      | inl before ↦ (m, omega (arith, before, il, long), get_or-remove_below xs i x m before il ∙ e)
      | inr after ↦
          let back : m - 1 + 1 ≡ m = omega (arith, after, ne) in
          (m - 1, omega (arith, after, ne, ml, long), get_or-remove_above xs i x (m - 1) (omega (arith, after, ne)) il ∙ (ap (λ (n : ℕ). get_or xs n x) back ∙ e))
    ]

only : (r region : List ℕ) (m : ℕ) → m < length (r ∷ []) → get_or (r ∷ []) m region ≡ region → r ≡ region
only r region zero lt e = e
only r region (suc m) lt e = absurd (omega (arith, lt))

and_no : (b : Bool) → (b && false) ≡ false
and_no true = refl
and_no false = refl

module _ (apart : ℕ → ℕ → Bool) (classes : List ℕ) (k : ℕ) where
  pub fewer : (rs : List (List ℕ)) (i j : ℕ) → i < length rs → j < length rs → (i ≡ j → ⊥) → length (after_join classes rs i j) + 1 ≡ length rs
  fewer rs i j il jl ne =
      let both = joined classes (region_at rs i) (region_at rs j) in
      let set = slice_set rs (min i j) both in
      let same = length-set rs (min i j) both in
      length-remove set (max i j) (omega (arith, il, jl, same)) ∙ same

  pub cover_join : (rs : List (List ℕ)) (i j : ℕ) → i < length rs → j < length rs → (i ≡ j → ⊥) → Cover rs classes → Cover (after_join classes rs i j) classes
  cover_join rs i j il jl ne cover = λ c h.
      let both = joined classes (region_at rs i) (region_at rs j) in
      let set = slice_set rs (min i j) both in
      let same = length-set rs (min i j) both in
      let had = cover c h in
      let stands : Contains (remove set (max i j)) both = kept_removed set (max i j) (min i j) both (omega (arith, il, jl, same)) (omega (arith, il, jl, same)) (λ e. ne (omega (arith, e))) (get_or-set_same rs (min i j) both both (omega (arith, il, jl))) in
      let m = had.1.0 in
      let at : (d : List ℕ) → get_or rs m d ≡ had.0 = λ d. get_or_default rs m d had.0 had.1.1 ∙ had.1.2 in
      elim (cases_eq m i) [
        | inl first ↦ (both, stands, filter_in (λ z. is_in (region_at rs i) z || is_in (region_at rs j) z) classes c h (or_left (is_in (region_at rs i) c) (is_in (region_at rs j) c) (ap (λ (r : List ℕ). is_in r c) (ap (λ (n : ℕ). get_or rs n []) (sym first) ∙ at []) ∙ had.2)))
        | inr other ↦ elim (cases_eq m j) [
          | inl second ↦ (both, stands, filter_in (λ z. is_in (region_at rs i) z || is_in (region_at rs j) z) classes c h (or_right (is_in (region_at rs i) c) (is_in (region_at rs j) c) (ap (λ (r : List ℕ). is_in r c) (ap (λ (n : ℕ). get_or rs n []) (sym second) ∙ at []) ∙ had.2)))
          | inr neither ↦ (had.0, kept_removed set (max i j) m had.0 (omega (arith, il, jl, same)) (let lt = had.1.1 in omega (arith, lt, same)) (λ e. omega (arith, e, other, neither)) (get_or-set_other rs (min i j) m both had.0 (λ e. omega (arith, e, other, neither)) ∙ had.1.2), had.2)
        ]
      ]

  module _ (P : List (List ℕ) → Type 0) (keeps : (rs : List (List ℕ)) (i j : ℕ) → i < length rs → j < length rs → (i ≡ j → ⊥) → P rs → P (after_join classes rs i j)) where
    meeting : (onward : List (List ℕ) → List (List ℕ)) → ((rs : List (List ℕ)) → P rs → P (onward rs)) → (rs : List (List ℕ)) → P rs → (i : ℕ) → i < length rs → (o : Option ℕ) → first_touching apart rs i ≡ o → P (after_meeting classes onward rs i o)
    meeting onward go rs h i lt None e = h
    meeting onward go rs h i lt (Some j) e =
        let f = found (λ m. not (m == i) && touches apart (region_at rs i) (region_at rs m)) 0 (length rs) j e in
        let below = f.below in
        let parts = and_parts (not (j == i)) (touches apart (region_at rs i) (region_at rs j)) f.passes in
        go (after_join classes rs i j) (keeps rs i j lt (omega (arith, below)) (λ same. false≢true (sym (ap not (eq-eqb j i (sym same))) ∙ parts.0)) h)

    opening : (onward : List (List ℕ) → List (List ℕ)) → ((rs : List (List ℕ)) → P rs → P (onward rs)) → (rs : List (List ℕ)) → P rs → (o : Option ℕ) → first_open apart classes k rs ≡ o → P (after_opening apart classes onward rs o)
    opening onward go rs h None e = h
    opening onward go rs h (Some i) e = meeting onward go rs h i (position-Some (λ r. not (is_closed_at apart classes k r)) rs i [] e).0 (first_touching apart rs i) refl

    -- what each join keeps, closing keeps
    pub closing_keeps : (n : ℕ) (rs : List (List ℕ)) → P rs → P (closed_within apart classes k n rs)
    unfolding closed_within
    closing_keeps zero rs h = h
    closing_keeps (suc n) rs h = opening (closed_within apart classes k n) (closing_keeps n) rs h (first_open apart classes k rs) refl

  pub closed_cover : (n : ℕ) (rs : List (List ℕ)) → Cover rs classes → Cover (closed_within apart classes k n rs) classes
  closed_cover n rs h = closing_keeps (λ rs. Cover rs classes) cover_join n rs h

  pub closed_few : (most n : ℕ) (rs : List (List ℕ)) → length rs ≤ most → length (closed_within apart classes k n rs) ≤ most
  closed_few most n rs h = closing_keeps (λ rs. length rs ≤ most) (λ rs i j il jl ne le. let e = fewer rs i j il jl ne in omega (arith, e, le)) n rs h

  module _ (distinct : IsDistinct (λ c d. c == d) classes) (more : k < length classes) where
    none_covers : Cover [] classes → ⊥
    none_covers cover =
        let some = some_member classes (omega (arith, more)) in
        let had = cover some.0 some.1 in
        let lt = had.1.1 in
        omega (arith, lt)

    one_covers : (r : List ℕ) → Cover (r ∷ []) classes → k < length r
    one_covers r cover =
        let le = length-le_from_is_member nat_eq_equiv classes r distinct (λ z g. let had = cover z g in subst (λ (q : List ℕ). is_in q z ≡ true) (sym (only r had.0 had.1.0 had.1.1 had.1.2)) had.2) in
        omega (arith, le, more)

    -- as long as no region is large there are two
    pub two : (rs : List (List ℕ)) → Cover rs classes → list_any (λ r. is_large k r) rs ≡ false → 2 ≤ length rs
    two [] cover none = absurd (none_covers cover)
    two (r ∷ []) cover none = absurd (false≢true (sym none ∙ or_left (is_large k r) false (lt-ltb k (length r) (one_covers r cover))))
    two (r ∷ (s ∷ rs)) cover none = omega arith

    -- growing ends with a large region
    pub grown_large : (n : ℕ) (rs : List (List ℕ)) → length rs ≤ n → Cover rs classes → list_any (λ r. is_large k r) (grown_within apart classes k n rs) ≡ true
    unfolding grown_within
    grown_large zero rs le cover =
        elim (cases_Bool (list_any (λ r. is_large k r) rs)) [
          | inl large ↦ large
          | inr none ↦ let t = two rs cover none in absurd (omega (arith, t, le))
        ]
    grown_large (suc n) rs le cover =
        let next = closed apart classes k (after_join classes rs 0 1) in
        let go = grown_within apart classes k n next in
        elim (cases_Bool (list_any (λ r. is_large k r) rs)) [
          | inl large ↦ ap (list_any (λ r. is_large k r)) (cond_no (must_grow classes k rs) go rs (ap (λ b. nat_lt k (length classes) && not b) large ∙ and_no (nat_lt k (length classes)))) ∙ large
          | inr none ↦
              let t = two rs cover none in
              let e = fewer rs 0 1 (omega (arith, t)) (omega (arith, t)) (λ z. omega (arith, z)) in
              ap (list_any (λ r. is_large k r)) (cond_yes (must_grow classes k rs) go rs (and_from (nat_lt k (length classes)) (not (list_any (λ r. is_large k r) rs)) (lt-ltb k (length classes) more) (ap not none)))
              ∙ grown_large n next (closed_few n (length (after_join classes rs 0 1)) (after_join classes rs 0 1) (omega (arith, e, le))) (closed_cover (length (after_join classes rs 0 1)) (after_join classes rs 0 1) (cover_join rs 0 1 (omega (arith, t)) (omega (arith, t)) (λ z. omega (arith, z)) cover))
        ]
