-- Tuples by their first numbers.
use Rattle.std.proofs.Common.{◌≡◌, ℕ, ◌<◌, true, false, List, ◌∷◌, ◌⊎◌, inl, inr, ap, subst, sym, ◌∙◌, rules}
use Rattle.std.specs.Cmp.Lexicographic.{slice_cmp}
use Rattle.std.specs.Ordering.{nat_cmp, is_lt, ordering_then}
use Rattle.std.specs.declared.cmp.Ordering.{Ordering}
use Rattle.std.proofs.lemmas.Bool.{false≢true, cases_order}
use Rattle.fm_rounds.specs.Tuples.{precedes}

pub lesser_first : (y x : ℕ) (zs xs : List ℕ) → y < x → precedes (y ∷ zs) (x ∷ xs) ≡ true
lesser_first y x zs xs lt = let e : nat_cmp y x ≡ Ordering.Less = search rules in ap (λ o. is_lt (ordering_then o (slice_cmp nat_cmp zs xs))) e

greater_first : (y x : ℕ) (zs xs : List ℕ) → x < y → precedes (y ∷ zs) (x ∷ xs) ≡ false
greater_first y x zs xs lt = let e : nat_cmp y x ≡ Ordering.Greater = search rules in ap (λ o. is_lt (ordering_then o (slice_cmp nat_cmp zs xs))) e

pub same_first : (x : ℕ) (zs xs : List ℕ) → precedes (x ∷ zs) (x ∷ xs) ≡ precedes zs xs
same_first x zs xs = let e : nat_cmp x x ≡ Ordering.Equal = search rules in ap (λ o. is_lt (ordering_then o (slice_cmp nat_cmp zs xs))) e

pub precedes_cases : (y x : ℕ) (zs xs : List ℕ) → precedes (y ∷ zs) (x ∷ xs) ≡ true → (y < x) ⊎ ((y ≡ x) × (precedes zs xs ≡ true))
precedes_cases y x zs xs e =
    elim (cases_order y x) [
      | inl same ↦ inr (same, sym (same_first x zs xs) ∙ subst (λ v. precedes (v ∷ zs) (x ∷ xs) ≡ true) same e)
      | inr other ↦ elim other [
        | inl lesser ↦ inl lesser
        | inr greater ↦ absurd (false≢true (sym (greater_first y x zs xs greater) ∙ e))
      ]
    ]
