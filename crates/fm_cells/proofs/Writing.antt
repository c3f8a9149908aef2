-- Where cells have changed, the log of their writes says so.
use Rattle.std.proofs.Common.{◌≡◌, ℕ, zero, suc, ◌⊎◌, List, [], ◌∷◌, length, take, drop, Some, None, inl, inr, refl, sym, subst, ap, ◌∙◌, arith, get_or, get_or-set_same, get_or-set_other, length-set}
use Rattle.std.proofs.Math.Seq.{drop-append_seam}
use Rattle.std.specs.Prelude.{slice_get, slice_set}
use Rattle.std.specs.List.{Contains}
use Rattle.std.proofs.lemmas.Bool.{cases_lt}
use Rattle.std.proofs.lemmas.Bool.Decides.{eqb_tells}
use Rattle.std.proofs.lemmas.List.{get_or_past}
use Rattle.std.proofs.lemmas.Option.{get_or_from_slice_get}
use Rattle.fm_cells.specs.Logs.{HasLogged, WereWritten, restored}

pub long_restored : {X : Type 0} → (log : List (ℕ × X)) (cells : List X) → length (restored log cells) ≡ length cells
long_restored [] cells = refl
long_restored (e ∷ log) cells = length-set (restored log cells) e.0 e.1 ∙ long_restored log cells

first_of : {X : Type 0} → (e : ℕ × X) (log : List (ℕ × X)) (x : ℕ) (v : X) → x ≡ e.0 → v ≡ e.1 → Contains (e ∷ log) (x, v)
first_of e log x v p q = (0, omega arith, λ i. (sym p i, sym q i))

rest_of : {X : Type 0} → (e : ℕ × X) (log : List (ℕ × X)) (f : ℕ × X) → Contains log f → Contains (e ∷ log) f
rest_of e log f h = (suc h.0, omega (arith, h.1), h.2)

pub restored_written : {X : Type 0} → (log : List (ℕ × X)) (cells : List X) (x : ℕ) (d : X) → (get_or (restored log cells) x d ≡ get_or cells x d) ⊎ Contains log (x, get_or (restored log cells) x d)
restored_written [] cells x d = inl refl
restored_written (e ∷ log) cells x d =
    let r = restored log cells in
    let long = length-set r e.0 e.1 in
    elim (cases_lt x (length r)) [
      | inl lt ↦ elim (eqb_tells x e.0) [
        | inl same ↦ inr (first_of e log x (get_or (slice_set r e.0 e.1) x d) same.1 (ap (λ (y : ℕ). get_or (slice_set r e.0 e.1) y d) same.1 ∙ get_or-set_same r e.0 e.1 d (omega (arith, lt, same.1))))
        | inr other ↦
            let as_before : get_or (slice_set r e.0 e.1) x d ≡ get_or r x d = get_or-set_other r e.0 x e.1 d other.1 in
            elim (restored_written log cells x d) [
              | inl s ↦ inl (as_before ∙ s)
              | inr there ↦ inr (rest_of e log (x, get_or (slice_set r e.0 e.1) x d) (subst (λ v. Contains log (x, v)) (sym as_before) there))
            ]
      ]
      | inr past ↦ inl (get_or_past (slice_set r e.0 e.1) x d (omega (arith, past, long)) ∙ sym (get_or_past cells x d (omega (arith, past, long_restored log cells))))
    ]

-- what was logged since a length of the log
pub logged_written : {X : Type 0} → (a : List (ℕ × X)) (x : List X) (b : List (ℕ × X)) (y : List X) (from : ℕ) → HasLogged a x b y → from ≡ length a → WereWritten (drop from b) x y
logged_written a x b y from h e =
    let tail : drop from b ≡ h.tail = ap (λ n. drop n b) e ∙ (ap (drop (length a)) h.grown ∙ drop-append_seam a h.tail) in
    subst (λ log. WereWritten log x y) (sym tail) (subst (λ cells. WereWritten h.tail cells y) h.back (λ k d. restored_written h.tail y k d))
