-- The answer's words.
use Rattle.std.proofs.Common.{◌≡◌, ℕ, suc, ◌<◌, Bool, true, false, not, ◌||◌, List, [], ◌∷◌, length, map, Option, Some, None, inl, inr, refl, sym, subst, ap, ◌∙◌}
use Rattle.std.specs.Prelude.{◌==◌, nat_lt}
use Rattle.std.specs.List.{find, list_all, list_any}
use Rattle.std.proofs.lemmas.Bool.{and_from, cases_Bool, eq-eqb, false≢true, ltb-true, not-true, or_left, or_right}
use Rattle.std.proofs.lemmas.List.{length-map}
use Rattle.fm_region.specs.Answers.{are_apart, first_pair, or_pair}
use Rattle.fm_region.specs.Parts.{Up}
use Rattle.fm_bank.specs.Regions.{first_large, is_in, is_large, region_at}
use Rattle.fm_region.proofs.Ascending.{above_of}
use Rattle.fm_region.proofs.Members.{first_in}
use Rattle.fm_region.proofs.Searching.{cond_no, cond_yes, none_some, some_same}

rest_large : (b c : Bool) → b ≡ false → (b || c) ≡ true → c ≡ true
rest_large true c e f = absurd (false≢true (sym e))
rest_large false c e f = f

not_no : (b : Bool) → not b ≡ false → b ≡ true
not_no true e = refl
not_no false e = absurd (false≢true (sym e))

pub large_is : (k : ℕ) (rs : List (List ℕ)) → list_any (λ r. is_large k r) rs ≡ true → k < length (first_large k rs)
large_is k [] e = absurd (false≢true e)
large_is k (r ∷ rs) e =
    elim (cases_Bool (is_large k r)) [
      | inl large ↦ subst (λ (xs : List ℕ). k < length xs) (sym (cond_yes (is_large k r) r (first_large k rs) large)) (ltb-true k (length r) large)
      | inr small ↦ subst (λ (xs : List ℕ). k < length xs) (sym (cond_no (is_large k r) r (first_large k rs) small)) (large_is k rs (rest_large (is_large k r) (list_any (λ z. is_large k z) rs) small e))
    ]

-- what holds of no classes and of each region holds of the first large one
pub large_keeps : (P : List ℕ → Type 0) (k : ℕ) (rs : List (List ℕ)) → P [] → ((i : ℕ) → P (region_at rs i)) → P (first_large k rs)
large_keeps P k [] none each = none
large_keeps P k (r ∷ rs) none each =
    elim (cases_Bool (is_large k r)) [
      | inl large ↦ subst P (sym (cond_yes (is_large k r) r (first_large k rs) large)) (each 0)
      | inr small ↦ subst P (sym (cond_no (is_large k r) r (first_large k rs) small)) (large_keeps P k rs none (λ i. each (suc i)))
    ]

pub large_named : (f : ℕ → ℕ) (k : ℕ) (rs : List (List ℕ)) → first_large k (map (map f) rs) ≡ map f (first_large k rs)
large_named f k [] = refl
large_named f k (r ∷ rs) =
    let e : is_large k (map f r) ≡ is_large k r = ap (nat_lt k) (length-map r f) in
    elim (cases_Bool (is_large k r)) [
      | inl large ↦ cond_yes (is_large k (map f r)) (map f r) (first_large k (map (map f) rs)) (e ∙ large) ∙ ap (map f) (sym (cond_yes (is_large k r) r (first_large k rs) large))
      | inr small ↦ cond_no (is_large k (map f r)) (map f r) (first_large k (map (map f) rs)) (e ∙ small) ∙ (large_named f k rs ∙ ap (map f) (sym (cond_no (is_large k r) r (first_large k rs) small)))
    ]

pub found_in : (p : ℕ → Bool) (xs : List ℕ) (d : ℕ) → find p xs ≡ Some d → (is_in xs d ≡ true) × (p d ≡ true)
found_in p [] d e = absurd (none_some d e)
found_in p (x ∷ xs) d e =
    elim (cases_Bool (p x)) [
      | inl good ↦ let same = some_same x d (sym (cond_yes (p x) (Some x) (find p xs) good) ∙ e) in (or_left (d == x) (is_in xs d) (eq-eqb d x (sym same)), ap p (sym same) ∙ good)
      | inr bad ↦ let r = found_in p xs d (sym (cond_no (p x) (Some x) (find p xs) bad) ∙ e) in (or_right (d == x) (is_in xs d) r.0, r.1)
    ]

pub none_found : (p : ℕ → Bool) (xs : List ℕ) → find (λ d. not (p d)) xs ≡ None → list_all p xs ≡ true
none_found p [] e = refl
none_found p (x ∷ xs) e =
    let q : ℕ → Bool = λ d. not (p d) in
    elim (cases_Bool (q x)) [
      | inl good ↦ absurd (none_some x (sym e ∙ cond_yes (q x) (Some x) (find q xs) good))
      | inr bad ↦ and_from (p x) (list_all p xs) (not_no (p x) bad) (none_found p xs (sym (cond_no (q x) (Some x) (find q xs) bad) ∙ e))
    ]

pair_same : (p q : ℕ × ℕ) → Some p ≡ Some q → p ≡ q
pair_same p q e = cc e

no_pair : (p : ℕ × ℕ) → None ≡ Some p → ⊥
no_pair p e = cc e

pub record IsPair (apart : ℕ → ℕ → Bool) (cs : List ℕ) (p : ℕ × ℕ) : Type 0 where
  pub first : is_in cs p.0 ≡ true
  pub second : is_in cs p.1 ≡ true
  pub older : p.0 < p.1
  pub open_ : apart p.0 p.1 ≡ false

module _ (apart : ℕ → ℕ → Bool) where
  pair_by : (c : ℕ) (cs : List ℕ) → Up (c ∷ cs) → (p : ℕ × ℕ) → (first_pair apart cs ≡ Some p → IsPair apart cs p) → (o : Option ℕ) → find (λ d. not (apart c d)) cs ≡ o → or_pair c o (first_pair apart cs) ≡ Some p → IsPair apart (c ∷ cs) p
  pair_by c cs up p rest (Some d) e h =
      let f = found_in (λ z. not (apart c z)) cs d e in
      subst (IsPair apart (c ∷ cs)) (pair_same (c, d) p h) (record { first = first_in c cs; second = or_right (d == c) (is_in cs d) f.0; older = above_of c cs up.0 d f.0; open_ = not-true (apart c d) f.1 })
  pair_by c cs up p rest None e h =
      let r = rest h in
      record { first = or_right (p.0 == c) (is_in cs p.0) r.first; second = or_right (p.1 == c) (is_in cs p.1) r.second; older = r.older; open_ = r.open_ }

  pub pair_is : (cs : List ℕ) → Up cs → (p : ℕ × ℕ) → first_pair apart cs ≡ Some p → IsPair apart cs p
  pair_is [] up p e = absurd (no_pair p e)
  pair_is (c ∷ cs) up p e = pair_by c cs up p (pair_is cs up.1 p) (find (λ d. not (apart c d)) cs) refl e

  all_by : (c : ℕ) (cs : List ℕ) → (first_pair apart cs ≡ None → are_apart apart cs ≡ true) → (o : Option ℕ) → find (λ d. not (apart c d)) cs ≡ o → or_pair c o (first_pair apart cs) ≡ None → are_apart apart (c ∷ cs) ≡ true
  all_by c cs rest (Some d) e h = absurd (no_pair (c, d) (sym h))
  all_by c cs rest None e h = and_from (list_all (λ d. apart c d) cs) (are_apart apart cs) (none_found (λ d. apart c d) cs e) (rest h)

  pub all_apart : (cs : List ℕ) → first_pair apart cs ≡ None → are_apart apart cs ≡ true
  all_apart [] e = refl
  all_apart (c ∷ cs) e = all_by c cs (all_apart cs) (find (λ d. not (apart c d)) cs) refl e
