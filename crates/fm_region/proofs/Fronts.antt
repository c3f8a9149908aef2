-- Regions before a join stay as they are.
use Rattle.std.proofs.Common.{◌≡◌, ℕ, ◌<◌, Bool, true, false, not, List, [], length, min, max, Some, refl, sym, ap, ◌∙◌, arith, length-set}
use Rattle.std.specs.Prelude.{slice_set}
use Rattle.std.proofs.lemmas.Bool.{false≢true}
use Rattle.std.proofs.lemmas.List.{get_or-set_other}
use Rattle.std.proofs.lemmas.List.Edits.{get_or-remove_below}
use Rattle.std.proofs.lemmas.List.Quantifiers.{position-Some}
use Rattle.fm_bank.specs.Regions.{after_join, first_open, is_closed_at, joined, region_at}

closed_then : (b : Bool) → not b ≡ false → b ≡ true
closed_then true e = refl
closed_then false e = absurd (false≢true (sym e))

module _ (apart : ℕ → ℕ → Bool) (classes : List ℕ) (k : ℕ) (rs : List (List ℕ)) (i j : ℕ) (il : i < length rs) (jl : j < length rs) where
  pub kept_front : (m : ℕ) → m < min i j → region_at (after_join classes rs i j) m ≡ region_at rs m
  kept_front m lt =
      let both = joined classes (region_at rs i) (region_at rs j) in
      let same = length-set rs (min i j) both in
      get_or-remove_below (slice_set rs (min i j) both) (max i j) [] m (omega (arith, lt)) (omega (arith, il, jl, same)) ∙ get_or-set_other rs (min i j) m both [] (λ e. omega (arith, e, lt))

  -- those before the first open region are closed, so those before the join are closed still
  pub front_closed : first_open apart classes k rs ≡ Some i → (m : ℕ) → m < min i j → is_closed_at apart classes k (region_at (after_join classes rs i j) m) ≡ true
  front_closed e m lt =
      let s = position-Some (λ r. not (is_closed_at apart classes k r)) rs i [] e in
      ap (is_closed_at apart classes k) (kept_front m lt) ∙ closed_then (is_closed_at apart classes k (region_at rs m)) (s.2 m (omega (arith, lt)))
