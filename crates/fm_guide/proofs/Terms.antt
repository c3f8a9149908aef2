-- A test of two lists of terms tells whether they are equal.
use Rattle.std.proofs.Common.{◌≡◌, ℕ, Bool, true, false, List, [], ◌∷◌, refl, sym, ap, ◌∙◌}
use Rattle.std.specs.Prelude.{◌==◌, ◌↔◌, map}
use Rattle.std.specs.Cmp.Derive.Mapped.{pointwise-map}
use Rattle.std.specs.Cmp.Lexicographic.{other_text, pointwise, same_text}
use Rattle.fm_base.specs.declared.ids.TermId.{TermId}

abbrev numbers : List TermId → List ℕ
numbers ts = map (λ (t : TermId). t.0) ts

abbrev terms : List ℕ → List TermId
terms ns = map (λ (n : ℕ). record { 0 = n }) ns

back : (ts : List TermId) → terms (numbers ts) ≡ ts
back [] = refl
back (t ∷ ts) = ap (λ (xs : List TermId). t ∷ xs) (back ts)

by_numbers : (r : Bool) (xs ys : List TermId) → r ≡ pointwise (λ (a b : ℕ). a == b) (numbers xs) (numbers ys) → (r ≡ true) ↔ (xs ≡ ys)
by_numbers true xs ys h = (λ _. sym (back xs) ∙ (ap terms (same_text (numbers xs) (numbers ys) h) ∙ back ys), λ _. refl)
by_numbers false xs ys h = (λ bad. absurd cc, λ e. absurd (other_text (numbers xs) (numbers ys) h (ap numbers e)))

pub same_terms : (r : Bool) (xs ys : List TermId) → r ≡ pointwise (λ (a b : TermId). a.0 == b.0) xs ys → (r ≡ true) ↔ (xs ≡ ys)
same_terms r xs ys h = by_numbers r xs ys (h ∙ sym (pointwise-map (λ (t : TermId). t.0) (λ (a b : ℕ). a == b) xs ys))
