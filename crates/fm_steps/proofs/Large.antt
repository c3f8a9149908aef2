-- Where a sort has more than k classes one of its grown regions at k has: each class stays in a region, and joins leave fewer.
use Rattle.std.proofs.Common.{◌≡◌, ℕ, zero, suc, ◌+◌, ◌-◌, ◌<◌, ◌≤◌, ◌==◌, ◌&&◌, ◌||◌, Bool, true, false, not, cond, min, max, nat_lt, List, [], ◌∷◌, length, map, inl, inr, refl, sym, ap, subst, ◌∙◌, arith, get_or, length-set}
use Rattle.std.specs.Prelude.{slice_set}
use Rattle.std.specs.List.{list_any, remove}
use Rattle.std.proofs.lemmas.Bool.{and_from, cases_Bool, cases_eq, cases_lt, eq-eqb, eqb-true, false≢true, lt-ltb, ltb-true, or_left, or_right, true≢false}
use Rattle.std.proofs.lemmas.List.{get_or-set_other, get_or-set_same}
use Rattle.std.proofs.lemmas.List.Edits.{get_or-remove_above, get_or-remove_below, length-remove}
use Rattle.fm_base.specs.Resolution.{Has}
use Rattle.fm_base.proofs.Resolution.{has_mapped}
use Rattle.fm_bank.specs.Regions.{after_join, closed, closed_within, first_large, grown_regions, grown_within, is_in, is_large, joined, must_grow, region_at, regions_at}
use Rattle.fm_rounds.proofs.Members.{filter_in, in_any}
use Rattle.fm_steps.proofs.Chosen.{place_below}
use Rattle.fm_steps.proofs.Lists.{contains_has}
use Rattle.fm_steps.proofs.Pigeons.{Spread, no_longer}
use Rattle.fm_steps.proofs.Rising.{Ascends}
use Rattle.fm_steps.proofs.Tested.{closing}
use Rattle.fm_steps.proofs.Written.{got, has_place}

kept_removed : {X : Type 0} (xs : List X) (i m : ℕ) (x : X) → i < length xs → m < length xs → (m ≡ i → ⊥) → get_or xs m x ≡ x → Has (remove xs i) x
kept_removed xs i m x il ml ne e =
    let long = length-remove xs i il in
    contains_has (remove xs i) x (elim (cases_lt m i) [
      | inl before ↦ (m, omega (arith, before, il, long), get_or-remove_below xs i x m before il ∙ e)
      | inr after ↦ (let back : m - 1 + 1 ≡ m = omega (arith, after, ne) in
          (m - 1, omega (arith, after, ne, ml, long), get_or-remove_above xs i x (m - 1) (omega (arith, after, ne)) il ∙ (ap (λ (n : ℕ). get_or xs n x) back ∙ e)))
    ])

when_true : {X : Type 0} (b : Bool) (x y : X) → b ≡ true → cond b x y ≡ x
when_true true x y e = refl
when_true false x y e = absurd (false≢true e)

when_false : {X : Type 0} (b : Bool) (x y : X) → b ≡ false → cond b x y ≡ y
when_false true x y e = absurd (true≢false e)
when_false false x y e = refl

and_no : (b : Bool) → (b && false) ≡ false
and_no true = refl
and_no false = refl

module _ (apart : ℕ → ℕ → Bool) (classes : List ℕ) (k : ℕ) where
  abbrev Covers : List (List ℕ) → Type 0
  Covers rs = (c : ℕ) → Has classes c → (r : List ℕ) × Has rs r × Has r c

  fewer : (rs : List (List ℕ)) (i j : ℕ) → i < length rs → j < length rs → (i ≡ j → ⊥) → length (after_join classes rs i j) + 1 ≡ length rs
  fewer rs i j il jl ne =
      let both = joined classes (region_at rs i) (region_at rs j) in
      let set = slice_set rs (min i j) both in
      let same = length-set rs (min i j) both in
      length-remove set (max i j) (omega (arith, il, jl, same)) ∙ same

  cover_join : (rs : List (List ℕ)) (i j : ℕ) → i < length rs → j < length rs → (i ≡ j → ⊥) → Covers rs → Covers (after_join classes rs i j)
  cover_join rs i j il jl ne cover c h =
      let both = joined classes (region_at rs i) (region_at rs j) in
      let set = slice_set rs (min i j) both in
      let same = length-set rs (min i j) both in
      let had = cover c h in
      let stands : Has (remove set (max i j)) both = kept_removed set (max i j) (min i j) both (omega (arith, il, jl, same)) (omega (arith, il, jl, same)) (λ e. ne (omega (arith, e))) (get_or-set_same rs (min i j) both both (omega (arith, il, jl))) in
      let place = has_place rs had.0 had.1 in
      let m = place.0 in
      let low = place_below rs m had.0 place.1 in
      let at : (d : List ℕ) → get_or rs m d ≡ had.0 = λ d. got rs m had.0 d place.1 in
      let found : is_in had.0 c ≡ true = in_any (λ d. c == d) had.0 c had.2 (eq-eqb c c refl) in
      elim (cases_eq m i) [
        | inl first ↦ (both, stands, filter_in (λ z. is_in (region_at rs i) z || is_in (region_at rs j) z) c classes h (or_left (is_in (region_at rs i) c) (is_in (region_at rs j) c) (ap (λ (r : List ℕ). is_in r c) (ap (λ (n : ℕ). get_or rs n []) (sym first) ∙ at []) ∙ found)))
        | inr other ↦ elim (cases_eq m j) [
          | inl second ↦ (both, stands, filter_in (λ z. is_in (region_at rs i) z || is_in (region_at rs j) z) c classes h (or_right (is_in (region_at rs i) c) (is_in (region_at rs j) c) (ap (λ (r : List ℕ). is_in r c) (ap (λ (n : ℕ). get_or rs n []) (sym second) ∙ at []) ∙ found)))
          | inr neither ↦ (had.0, kept_removed set (max i j) m had.0 (omega (arith, il, jl, same)) (omega (arith, low, same)) (λ e. omega (arith, e, other, neither)) (get_or-set_other rs (min i j) m both had.0 (λ e. omega (arith, e, other, neither)) ∙ at had.0), had.2)
        ]
      ]

  closed_cover : (n : ℕ) (rs : List (List ℕ)) → Covers rs → Covers (closed_within apart classes k n rs)
  closed_cover n rs h = closing Covers apart classes k cover_join n rs h

  closed_few : (most n : ℕ) (rs : List (List ℕ)) → length rs ≤ most → length (closed_within apart classes k n rs) ≤ most
  closed_few most n rs h = closing (λ (rs : List (List ℕ)). length rs ≤ most) apart classes k (λ rs i j il jl ne le. let e = fewer rs i j il jl ne in omega (arith, e, le)) n rs h

  alone_cover : (cs : List ℕ) (c : ℕ) → Has cs c → (r : List ℕ) × Has (map (λ (d : ℕ). d ∷ []) cs) r × Has r c
  alone_cover cs c h = (c ∷ [], has_mapped (λ (d : ℕ). d ∷ []) cs c h, inl refl)

  abbrev equal : ℕ → ℕ → Bool
  equal x y = x == y

  spread : (cs : List ℕ) → Ascends cs → Spread equal cs
  spread [] rises = tt
  spread (c ∷ cs) rises = (
    (λ z y q e f.
        let low = rises.0 z q in
        let one = eqb-true c y e in
        let two = eqb-true z y f in
        absurd (omega (arith, low, one, two))),
    spread cs rises.1,
  )

  module _ (rises : Ascends classes) (more : k < length classes) where
    some_class : (cs : List ℕ) → 0 < length cs → (c : ℕ) × Has cs c
    some_class [] lt = absurd (omega (arith, lt))
    some_class (c ∷ cs) lt = (c, inl refl)

    one_covers : (r : List ℕ) → Covers (r ∷ []) → k < length r
    one_covers r cover =
        let le = no_longer equal classes r (spread classes rises) (λ c h.
        let had = cover c h in
        let is : Has r c = elim had.1 [ inl e ↦ subst (λ (q : List ℕ). Has q c) (sym e) had.2 | inr none ↦ absurd none ] in
        (c, is, eq-eqb c c refl)) in
        omega (arith, le, more)

    -- as long as no region is large there are two
    two : (rs : List (List ℕ)) → Covers rs → list_any (λ r. is_large k r) rs ≡ false → 2 ≤ length rs
    two [] cover none = let c = some_class classes (omega (arith, more)) in absurd (cover c.0 c.1).1
    two (r ∷ []) cover none = absurd (true≢false (sym (or_left (is_large k r) false (lt-ltb k (length r) (one_covers r cover))) ∙ none))
    two (r ∷ (s ∷ rs)) cover none = omega arith

    grown_large : (n : ℕ) (rs : List (List ℕ)) → length rs ≤ n → Covers rs → list_any (λ r. is_large k r) (grown_within apart classes k n rs) ≡ true
    unfolding grown_within
    grown_large zero rs le cover =
        elim (cases_Bool (list_any (λ r. is_large k r) rs)) [
          | inl large ↦ large
          | inr none ↦ (let t = two rs cover none in absurd (omega (arith, t, le)))
        ]
    grown_large (suc n) rs le cover =
        let joined' = after_join classes rs 0 1 in
        let next = closed apart classes k joined' in
        let go = grown_within apart classes k n next in
        elim (cases_Bool (list_any (λ r. is_large k r) rs)) [
          | inl large ↦ ap (list_any (λ r. is_large k r)) (when_false (must_grow classes k rs) go rs (ap (λ b. nat_lt k (length classes) && not b) large ∙ and_no (nat_lt k (length classes)))) ∙ large
          | inr none ↦ (
              let t = two rs cover none in
              let e = fewer rs 0 1 (omega (arith, t)) (omega (arith, t)) (λ z. omega (arith, z)) in
              let on = grown_large n next (closed_few n (length joined') joined' (omega (arith, e, le))) (closed_cover (length joined') joined' (cover_join rs 0 1 (omega (arith, t)) (omega (arith, t)) (λ z. omega (arith, z)) cover)) in
              ap (list_any (λ r. is_large k r)) (when_true (must_grow classes k rs) go rs (and_from (nat_lt k (length classes)) (not (list_any (λ r. is_large k r) rs)) (lt-ltb k (length classes) more) (ap not none))) ∙ on)
        ]

    large_step : (b : Bool) (r s : List ℕ) → is_large k r ≡ b → (b ≡ false → k < length s) → k < length (cond b r s)
    large_step true r s e h = ltb-true k (length r) e
    large_step false r s e h = h refl

    any_later : (b c : Bool) → (b || c) ≡ true → b ≡ false → c ≡ true
    any_later true c e f = absurd (true≢false f)
    any_later false c e f = e

    first_long : (rs : List (List ℕ)) → list_any (λ r. is_large k r) rs ≡ true → k < length (first_large k rs)
    first_long [] e = absurd (false≢true e)
    first_long (r ∷ rs) e = large_step (is_large k r) r (first_large k rs) refl (λ f. first_long rs (any_later (is_large k r) (list_any (λ s. is_large k s) rs) e f))

    pub large_region : k < length (first_large k (grown_regions apart classes k))
    large_region =
        let alone = map (λ (c : ℕ). c ∷ []) classes in
        let rs = regions_at apart classes k in
        first_long (grown_regions apart classes k) (grown_large (length rs) rs (omega arith) (closed_cover (length alone) alone (alone_cover classes)))
