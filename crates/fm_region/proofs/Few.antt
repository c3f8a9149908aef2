-- Where there are at most k classes, each is a region by itself, whichever are apart.
use Rattle.std.proofs.Common.{◌≡◌, ℕ, zero, suc, ◌+◌, ◌-◌, ◌<◌, ◌≤◌, Bool, true, false, cond, not, ◌&&◌, List, [], ◌∷◌, length, map, None, inl, inr, refl, sym, ap, ◌∙◌, arith, get_or}
use Rattle.std.specs.Prelude.{◌==◌, nat_le, nat_lt}
use Rattle.std.specs.List.{count_by, filter}
use Rattle.std.proofs.lemmas.Bool.{cases_Bool, cases_lt, eqb-true, false≢true, leb-true, lt-ltb, or_cases}
use Rattle.std.proofs.lemmas.List.{get_or-map, length-map}
use Rattle.std.proofs.lemmas.List.Sums.{count_by-le-length, length-filter}
use Rattle.fm_bank.specs.Regions.{after_opening, apart_outside, closed_within, count_apart, first_open, is_closed_at, is_in, regions_at}
use Rattle.fm_region.proofs.Members.{first_in}
use Rattle.fm_region.proofs.Pairing.{place_in}
use Rattle.fm_region.proofs.Searching.{all_range, position_none}

shorter : (p : ℕ → Bool) (xs : List ℕ) (c : ℕ) → is_in xs c ≡ true → p c ≡ false → length (filter p xs) < length xs
shorter p [] c h off = absurd (false≢true h)
shorter p (x ∷ xs) c h off =
    let few = count_by-le-length p xs in
    elim (cases_Bool (p x)) [
      | inl on ↦
          let long : length (filter p (x ∷ xs)) ≡ suc (length (filter p xs)) = ap (λ b. length (cond b (x ∷ filter p xs) (filter p xs))) on in
          elim (or_cases (c == x) (is_in xs c) h) [
            | inl same ↦ absurd (false≢true (sym off ∙ (ap p (eqb-true c x same) ∙ on)))
            | inr rest ↦ let r = shorter p xs c rest off in omega (arith, long, r)
          ]
      | inr no_ ↦
          let long : length (filter p (x ∷ xs)) ≡ length (filter p xs) = ap (λ b. length (cond b (x ∷ filter p xs) (filter p xs))) no_ in
          omega (arith, long, few, length-filter p xs)
    ]

-- where one fails, not all pass
count_less : (p : ℕ → Bool) (xs : List ℕ) (c : ℕ) → is_in xs c ≡ true → p c ≡ false → count_by p xs < length xs
count_less p xs c h off = let r = shorter p xs c h off in omega (arith, r, length-filter p xs)

module _ (apart : ℕ → ℕ → Bool) (classes : List ℕ) (k : ℕ) (few : length classes ≤ k) where
  outside_few : (c : ℕ) → is_in classes c ≡ true → apart_outside apart classes (c ∷ []) c < length classes
  outside_few c h = count_less (λ d. not (is_in (c ∷ []) d) && apart c d) classes c h (ap (λ b. not b && apart c c) (first_in c []))

  alone_closed : (c : ℕ) → is_in classes c ≡ true → is_closed_at apart classes k (c ∷ []) ≡ true
  alone_closed c h = all_range (λ a. nat_lt (count_apart apart classes (c ∷ []) (k + 1 - a)) a) 1 k (λ a one le.
      let p : ℕ → Bool = λ d. nat_le (k + 1 - a) (apart_outside apart classes (c ∷ []) d) in
      lt-ltb (count_by p (c ∷ [])) a (elim (cases_lt 1 a) [
        | inl two ↦ let most = count_by-le-length p (c ∷ []) in omega (arith, most, two)
        | inr least ↦
            let out = outside_few c h in
            let off : p c ≡ false = (elim (cases_Bool (p c)) [
              | inl on ↦ absurd (let l = leb-true (k + 1 - a) (apart_outside apart classes (c ∷ []) c) on in omega (arith, l, out, few, one, least))
              | inr no_ ↦ no_
            ]) in
            let less = count_less p (c ∷ []) c (first_in c []) off in
            omega (arith, less, one)
      ]))

  stays : (n : ℕ) (rs : List (List ℕ)) → first_open apart classes k rs ≡ None → closed_within apart classes k n rs ≡ rs
  unfolding closed_within
  stays zero rs e = refl
  stays (suc n) rs e = ap (after_opening apart classes (closed_within apart classes k n) rs) e

  pub few_alone : regions_at apart classes k ≡ map (λ c. c ∷ []) classes
  few_alone =
      let start = map (λ (c : ℕ). c ∷ []) classes in
      let long = length-map classes (λ (c : ℕ). c ∷ []) in
      stays (length start) start (position_none (λ r. not (is_closed_at apart classes k r)) start [] (λ m lt.
      let lm : m < length classes = omega (arith, lt, long) in
      let at : get_or start m [] ≡ get_or classes m 0 ∷ [] = get_or-map (λ (c : ℕ). c ∷ []) classes m 0 [] lm in
      ap (λ r. not (is_closed_at apart classes k r)) at ∙ ap not (alone_closed (get_or classes m 0) (place_in classes m lm))))
