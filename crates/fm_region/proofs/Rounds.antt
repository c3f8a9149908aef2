-- One round of closing.
use Rattle.std.proofs.Common.{◌≡◌, ℕ, zero, suc, ◌+◌, ◌-◌, ◌<◌, ◌≤◌, Bool, true, List, map, Some, None, refl, ap, ◌∙◌, arith}
use Rattle.std.specs.Prelude.{nat_le, nat_lt, ◌↔◌}
use Rattle.std.specs.List.{count_by}
use Rattle.std.proofs.lemmas.Bool.{lt-ltb, ltb-true}
use Rattle.fm_bank.specs.Regions.{after_join, after_meeting, after_opening, apart_outside, closed_within, count_apart, first_open, first_touching, is_closed_at}
use Rattle.fm_region.proofs.Searching.{all_range, count_map, range_all, same_bool}

module _ (apart : ℕ → ℕ → Bool) (classes : List ℕ) (k : ℕ) where
  -- the test by the counts of a region's classes
  pub closed_by_outs : (region outs : List ℕ) (b : Bool) → outs ≡ map (apart_outside apart classes region) region → ((b ≡ true) ↔ ((a : ℕ) → 1 ≤ a → a ≤ k → count_by (λ o. nat_le (k + 1 - a) o) outs < a)) → b ≡ is_closed_at apart classes k region
  closed_by_outs region outs b e iff =
      let same : (many : ℕ) → count_by (λ o. nat_le many o) outs ≡ count_apart apart classes region many = λ many. ap (count_by (λ o. nat_le many o)) e ∙ count_map (λ o. nat_le many o) (apart_outside apart classes region) region in
      let p : ℕ → Bool = λ a. nat_lt (count_apart apart classes region (k + 1 - a)) a in
      same_bool b (is_closed_at apart classes k region)
      (λ t. all_range p 1 k (λ a one le. lt-ltb (count_apart apart classes region (k + 1 - a)) a (let lt = iff.0 t a one (omega (arith, le)) in omega (arith, same (k + 1 - a), lt))))
      (λ t. iff.1 (λ a one le. let lt = ltb-true (count_apart apart classes region (k + 1 - a)) a (range_all p 1 k t a one (omega (arith, le))) in omega (arith, same (k + 1 - a), lt)))

  pub closed_stays : (n : ℕ) (regions : List (List ℕ)) → first_open apart classes k regions ≡ None → closed_within apart classes k n regions ≡ regions
  unfolding closed_within
  closed_stays zero regions e = refl
  closed_stays (suc n) regions e = ap (after_opening apart classes (closed_within apart classes k n) regions) e

  pub closed_alone : (n : ℕ) (regions : List (List ℕ)) (i : ℕ) → first_open apart classes k regions ≡ Some i → first_touching apart regions i ≡ None → closed_within apart classes k n regions ≡ regions
  unfolding closed_within
  closed_alone zero regions i e f = refl
  closed_alone (suc n) regions i e f = ap (after_opening apart classes (closed_within apart classes k n) regions) e ∙ ap (after_meeting classes (closed_within apart classes k n) regions i) f

  pub closed_step : (n : ℕ) (regions : List (List ℕ)) (i j : ℕ) → first_open apart classes k regions ≡ Some i → first_touching apart regions i ≡ Some j → closed_within apart classes k (suc n) regions ≡ closed_within apart classes k n (after_join classes regions i j)
  unfolding closed_within
  closed_step n regions i j e f = ap (after_opening apart classes (closed_within apart classes k n) regions) e ∙ ap (after_meeting classes (closed_within apart classes k n) regions i) f

  pub none_left : (regions : List (List ℕ)) → closed_within apart classes k zero regions ≡ regions
  unfolding closed_within
  none_left regions = refl
