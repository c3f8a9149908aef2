-- Two names are one or they aren't.
use Rattle.std.proofs.Common.{◌≡◌, ◌≢◌, ◌⊎◌, inl, inr, ℕ, Bool, true, false, List, refl}
use Rattle.std.specs.Str.{bytes_eq}
use Rattle.std.proofs.lemmas.Slice.Eq.{bytes_eq-Decides}

told : (b : Bool) (q name : List ℕ) → (b ≡ true → q ≡ name) → (q ≡ name → b ≡ true) → ((q ≡ name) × (b ≡ true)) ⊎ ((q ≢ name) × (b ≡ false))
told true q name same back = inl (same refl, refl)
told false q name same back = inr (λ e. let h : false ≡ true = back e in cc, refl)

pub name_told : (q name : List ℕ) → ((q ≡ name) × (bytes_eq q name ≡ true)) ⊎ ((q ≢ name) × (bytes_eq q name ≡ false))
name_told q name =
    let d = bytes_eq-Decides q name in
    told (bytes_eq q name) q name d.0 d.1

pub name_cases : (q name : List ℕ) → (q ≡ name) ⊎ (q ≢ name)
name_cases q name = elim (name_told q name) [ inl same ↦ inl same.0 | inr other ↦ inr other.0 ]
