-- Where all regions are closed at k, a clique of k + 1 classes lies in one of them.
use Rattle.std.proofs.Common.{◌≡◌, ℕ, ◌+◌, ◌-◌, ◌<◌, ◌≤◌, Bool, true, false, cond, not, ◌&&◌, List, [], ◌∷◌, length, inl, inr, refl, sym, subst, ap, ◌∙◌, arith, eqb}
use Rattle.std.specs.Prelude.{◌==◌, nat_le, nat_lt}
use Rattle.std.specs.List.{All, AllByRecursion, IsDistinct, filter}
use Rattle.std.proofs.lemmas.Bool.{and_from, cases_Bool, eq-eqb, false≢true, le-leb, ltb-true, not-true, or_left}
use Rattle.std.proofs.lemmas.Cmp.{nat_eq_equiv}
use Rattle.std.proofs.lemmas.List.Elements.{All-contains}
use Rattle.std.proofs.lemmas.List.Filters.{length-filter_both}
use Rattle.std.proofs.lemmas.List.Sums.{length-filter}
use Rattle.std.proofs.lemmas.Map.Made.{length-le_from_is_member}
use Rattle.fm_bank.specs.Regions.{Cover, IsClique, LiesInOne, apart_outside, count_apart, is_closed_at, is_in}
use Rattle.fm_region.proofs.Members.{filter_from, filter_in}
use Rattle.fm_region.proofs.Searching.{range_all}

apart_by : (b : Bool) (x y : ℕ) (ys : List ℕ) → eqb x y ≡ false → AllByRecursion (λ z. eqb x z ≡ false) ys → AllByRecursion (λ z. eqb x z ≡ false) (cond b (y ∷ ys) ys)
apart_by true x y ys a h = (a, h)
apart_by false x y ys a h = h

kept_apart : (p : ℕ → Bool) (x : ℕ) (xs : List ℕ) → AllByRecursion (λ y. eqb x y ≡ false) xs → AllByRecursion (λ y. eqb x y ≡ false) (filter p xs)
kept_apart p x [] h = tt
kept_apart p x (y ∷ ys) h = apart_by (p y) x y (filter p ys) h.0 (kept_apart p x ys h.1)

distinct_by : (b : Bool) (x : ℕ) (xs : List ℕ) → AllByRecursion (λ y. eqb x y ≡ false) xs → IsDistinct eqb xs → IsDistinct eqb (cond b (x ∷ xs) xs)
unfolding IsDistinct
distinct_by true x xs a h = (a, h)
distinct_by false x xs a h = h

pub distinct_filter : (p : ℕ → Bool) (xs : List ℕ) → IsDistinct eqb xs → IsDistinct eqb (filter p xs)
unfolding IsDistinct
distinct_filter p [] h = tt
distinct_filter p (x ∷ xs) h = distinct_by (p x) x (filter p xs) (kept_apart p x xs h.0) (distinct_filter p xs h.1)

none_left : (xs : List ℕ) → length xs ≡ 0 → (c : ℕ) → is_in xs c ≡ true → ⊥
none_left [] e c h = false≢true h
none_left (x ∷ xs) e c h = omega (arith, e)

pub some_there : (xs : List ℕ) (c : ℕ) → is_in xs c ≡ true → 1 ≤ length xs
some_there [] c h = absurd (false≢true h)
some_there (x ∷ xs) c h = omega arith

module _ (apart : ℕ → ℕ → Bool) (classes : List ℕ) (clique : List ℕ) (q : IsClique apart classes clique) (region : List ℕ) where
  abbrev inside : List ℕ
  inside = filter (λ x. is_in region x) clique

  abbrev beyond : List ℕ
  beyond = filter (λ x. not (is_in region x)) clique

  both : length inside + length beyond ≡ length clique
  both = length-filter_both (λ x. is_in region x) (λ x. not (is_in region x)) (λ x. refl) clique

  -- a class of the clique in the region is apart from all of the clique beyond it
  each_apart : (x : ℕ) → is_in inside x ≡ true → length beyond ≤ apart_outside apart classes region x
  each_apart x h =
      let a = filter_from (λ y. is_in region y) clique x h in
      let p : ℕ → Bool = (λ d. not (is_in region d) && apart x d) in
      let few = length-le_from_is_member nat_eq_equiv beyond (filter p classes) (distinct_filter (λ y. not (is_in region y)) clique q.distinct)
      (λ z g. let b = filter_from (λ y. not (is_in region y)) clique z g in
      filter_in p classes z (q.within z b.0) (and_from (not (is_in region z)) (apart x z) b.1 (q.apart_all x z a.0 b.0 (λ e. false≢true (sym (not-true (is_in region z) b.1) ∙ (ap (is_in region) (sym e) ∙ a.1)))))) in
      omega (arith, few, length-filter p classes)

  -- so the region has as many such classes as the clique has in it
  all_apart : length inside ≤ count_apart apart classes region (length beyond)
  all_apart =
      let p : ℕ → Bool = (λ c. nat_le (length beyond) (apart_outside apart classes region c)) in
      let few = length-le_from_is_member nat_eq_equiv inside (filter p region) (distinct_filter (λ x. is_in region x) clique q.distinct)
      (λ z g. filter_in p region z (filter_from (λ y. is_in region y) clique z g).1 (le-leb (length beyond) (apart_outside apart classes region z) (each_apart z g))) in
      omega (arith, few, length-filter p region)

  -- a region closed at k that has a class of a clique of k + 1 has all of them
  pub whole : (k : ℕ) → length clique ≡ k + 1 → is_closed_at apart classes k region ≡ true → (c : ℕ) → is_in clique c ≡ true → is_in region c ≡ true → (d : ℕ) → is_in clique d ≡ true → is_in region d ≡ true
  whole k size closed c in_clique in_region d d_in =
      elim (cases_Bool (is_in region d)) [
        | inl there ↦ there
        | inr gone ↦
            let some = some_there inside c (filter_in (λ x. is_in region x) clique c in_clique in_region) in
            let more = some_there beyond d (filter_in (λ x. not (is_in region x)) clique d d_in (ap not gone)) in
            let rest : k + 1 - length inside ≡ length beyond = omega (arith, both, size) in
            let fewer = ltb-true (count_apart apart classes region (k + 1 - length inside)) (length inside) (range_all (λ a. nat_lt (count_apart apart classes region (k + 1 - a)) a) 1 k closed (length inside) some (omega (arith, both, size, more))) in
            absurd (omega (arith, all_apart, subst (λ (m : ℕ). count_apart apart classes region m < length inside) rest fewer))
      ]

-- where all regions are closed at k, a clique of k + 1 classes lies in one of them
pub in_one_region : (apart : ℕ → ℕ → Bool) (classes : List ℕ) (k : ℕ) (regions : List (List ℕ)) → Cover regions classes → All (λ r. is_closed_at apart classes k r ≡ true) regions → (clique : List ℕ) → IsClique apart classes clique → length clique ≡ k + 1 → LiesInOne regions clique
in_one_region apart classes k regions cover closed [] q size = absurd (omega (arith, size))
in_one_region apart classes k regions cover closed (c ∷ cs) q size =
    let first : is_in (c ∷ cs) c ≡ true = or_left (c == c) (is_in cs c) (eq-eqb c c refl) in
    let r = cover c (q.within c first) in
    (r.0, r.1, whole apart classes (c ∷ cs) q r.0 k size (All-contains (λ r. is_closed_at apart classes k r ≡ true) regions r.0 closed r.1) c first r.2)
