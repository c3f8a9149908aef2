-- Some of the terms of an ascending list.
use Rattle.std.proofs.Common.{◌≡◌, Bool, true, false, cond, List, [], ◌∷◌, inl, inr, sym, ap, ◌∙◌}
use Rattle.std.specs.Prelude.{◌==◌, ◌<◌}
use Rattle.std.specs.List.{filter}
use Rattle.std.proofs.lemmas.Bool.{cases_Bool, eqb-true, false≢true, or_cases, or_left, or_right}
use Rattle.std.proofs.lemmas.List.Kept.{AllPairs-filter}
use Rattle.fm_base.specs.declared.ids.TermId.{TermId}
use Rattle.fm_cells.specs.Ascending.{IsAscending, is_in}

pub filter_up : (p : TermId → Bool) (xs : List TermId) → IsAscending xs → IsAscending (filter p xs)
filter_up p xs up = AllPairs-filter (λ (a b : TermId). a.0 < b.0) p xs up

same_term : (t x : TermId) → (t.0 == x.0) ≡ true → t ≡ x
same_term t x h = let e = eqb-true t.0 x.0 h in λ i. record { 0 = e i }

module _ (p : TermId → Bool) where
  pub filter_from : (xs : List TermId) (t : TermId) → is_in (filter p xs) t.0 ≡ true → (is_in xs t.0 ≡ true) × (p t ≡ true)
  filter_from [] t h = absurd (false≢true h)
  filter_from (x ∷ xs) t h =
      elim (cases_Bool (p x)) [
        | inl on ↦
            let g = ap (λ b. is_in (cond b (x ∷ filter p xs) (filter p xs)) t.0) (sym on) ∙ h in
            elim (or_cases (t.0 == x.0) (is_in (filter p xs) t.0) g) [
              | inl same ↦ (or_left (t.0 == x.0) (is_in xs t.0) same, ap p (same_term t x same) ∙ on)
              | inr rest ↦ let r = filter_from xs t rest in (or_right (t.0 == x.0) (is_in xs t.0) r.0, r.1)
            ]
        | inr off ↦
            let r = filter_from xs t (ap (λ b. is_in (cond b (x ∷ filter p xs) (filter p xs)) t.0) (sym off) ∙ h) in
            (or_right (t.0 == x.0) (is_in xs t.0) r.0, r.1)
      ]

  pub filter_in : (xs : List TermId) (t : TermId) → is_in xs t.0 ≡ true → p t ≡ true → is_in (filter p xs) t.0 ≡ true
  filter_in [] t h e = absurd (false≢true h)
  filter_in (x ∷ xs) t h e =
      elim (or_cases (t.0 == x.0) (is_in xs t.0) h) [
        | inl same ↦ ap (λ b. is_in (cond b (x ∷ filter p xs) (filter p xs)) t.0) (sym (ap p (same_term t x same)) ∙ e) ∙ or_left (t.0 == x.0) (is_in (filter p xs) t.0) same
        | inr rest ↦
            let r = filter_in xs t rest e in
            elim (cases_Bool (p x)) [
              | inl on ↦ ap (λ b. is_in (cond b (x ∷ filter p xs) (filter p xs)) t.0) on ∙ or_right (t.0 == x.0) (is_in (filter p xs) t.0) r
              | inr off ↦ ap (λ b. is_in (cond b (x ∷ filter p xs) (filter p xs)) t.0) off ∙ r
            ]
      ]
