-- One round of growing.
use Rattle.std.proofs.Common.{◌≡◌, ℕ, zero, suc, ◌≤◌, Bool, true, false, not, List, length, refl}
use Rattle.std.specs.Prelude.{nat_lt, ◌==◌}
use Rattle.std.specs.List.{IsDistinct, list_any}
use Rattle.std.proofs.lemmas.Bool.{and_parts, ltb-true, not-true}
use Rattle.fm_bank.specs.Regions.{Cover, after_join, closed, grown_within, is_large, must_grow}
use Rattle.fm_region.proofs.Covering.{two}
use Rattle.fm_region.proofs.Searching.{cond_no, cond_yes}

module _ (apart : ℕ → ℕ → Bool) (classes : List ℕ) (k : ℕ) where
  abbrev next : List (List ℕ) → List (List ℕ)
  next rs = closed apart classes k (after_join classes rs 0 1)

  pub grown_stays : (n : ℕ) (rs : List (List ℕ)) → must_grow classes k rs ≡ false → grown_within apart classes k n rs ≡ rs
  unfolding grown_within
  grown_stays zero rs e = refl
  grown_stays (suc n) rs e = cond_no (must_grow classes k rs) (grown_within apart classes k n (next rs)) rs e

  pub grown_step : (n : ℕ) (rs : List (List ℕ)) → must_grow classes k rs ≡ true → grown_within apart classes k (suc n) rs ≡ grown_within apart classes k n (next rs)
  unfolding grown_within
  grown_step n rs e = cond_yes (must_grow classes k rs) (grown_within apart classes k n (next rs)) rs e

  pub grown_end : (rs : List (List ℕ)) → grown_within apart classes k zero rs ≡ rs
  unfolding grown_within
  grown_end rs = refl

  pub two_there : IsDistinct (λ c d. c == d) classes → (rs : List (List ℕ)) → Cover rs classes → must_grow classes k rs ≡ true → 2 ≤ length rs
  two_there distinct rs cover e =
      let parts = and_parts (nat_lt k (length classes)) (not (list_any (λ r. is_large k r) rs)) e in
      two apart classes k distinct (ltb-true k (length classes) parts.0) rs cover (not-true (list_any (λ r. is_large k r) rs) parts.1)
