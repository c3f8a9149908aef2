-- Members of filtered lists.
use Rattle.std.proofs.Common.{◌≡◌, ℕ, ◌≤◌, Bool, true, ◌&&◌, List, [], ◌∷◌, length, inl, inr, refl, sym, ap, ◌∙◌, arith}
use Rattle.std.specs.Prelude.{◌==◌}
use Rattle.std.specs.List.{count_by, filter, list_any}
use Rattle.std.proofs.lemmas.Bool.{and_from, and_parts, eq-eqb, eqb-true, false≢true, or_cases, or_left, or_right}
use Rattle.std.proofs.lemmas.Cmp.{nat_eq_equiv}
use Rattle.std.proofs.lemmas.List.Sums.{length-filter}
use Rattle.std.proofs.lemmas.Map.Made.{is_member-filter}
use Rattle.fm_bank.specs.Regions.{is_in}

pub in_filter : (p : ℕ → Bool) (xs : List ℕ) (c : ℕ) → is_in (filter p xs) c ≡ (is_in xs c && p c)
in_filter p xs c = is_member-filter nat_eq_equiv p c (λ x e. ap p (eqb-true c x e)) xs

pub filter_in : (p : ℕ → Bool) (xs : List ℕ) (c : ℕ) → is_in xs c ≡ true → p c ≡ true → is_in (filter p xs) c ≡ true
filter_in p xs c a b = in_filter p xs c ∙ and_from (is_in xs c) (p c) a b

pub filter_from : (p : ℕ → Bool) (xs : List ℕ) (c : ℕ) → is_in (filter p xs) c ≡ true → (is_in xs c ≡ true) × (p c ≡ true)
filter_from p xs c h = and_parts (is_in xs c) (p c) (sym (in_filter p xs c) ∙ h)

pub first_in : (c : ℕ) (cs : List ℕ) → is_in (c ∷ cs) c ≡ true
first_in c cs = or_left (c == c) (is_in cs c) (eq-eqb c c refl)

-- a list that isn't empty has a member
pub some_member : (xs : List ℕ) → 1 ≤ length xs → (c : ℕ) × (is_in xs c ≡ true)
some_member [] le = absurd (omega (arith, le))
some_member (x ∷ xs) le = (x, first_in x xs)

-- where some pass, one does
pub one_passes : (p : ℕ → Bool) (xs : List ℕ) → 1 ≤ count_by p xs → (c : ℕ) × (is_in xs c ≡ true) × (p c ≡ true)
one_passes p xs le =
    let m = some_member (filter p xs) (omega (arith, le, length-filter p xs)) in
    let f = filter_from p xs m.0 m.1 in
    (m.0, f.0, f.1)

pub any_in : (p : ℕ → Bool) (xs : List ℕ) (c : ℕ) → is_in xs c ≡ true → p c ≡ true → list_any p xs ≡ true
any_in p [] c h e = absurd (false≢true h)
any_in p (x ∷ xs) c h e =
    elim (or_cases (c == x) (is_in xs c) h) [
      | inl same ↦ or_left (p x) (list_any p xs) (ap p (sym (eqb-true c x same)) ∙ e)
      | inr rest ↦ or_right (p x) (list_any p xs) (any_in p xs c rest e)
    ]
