-- The first false clause and the levels of its literals.
use Rattle.std.proofs.Common.{◌≡◌, ◌≢◌, ℕ, zero, suc, ◌+◌, ◌<◌, ◌≤◌, ◌==◌, Bool, true, false, cond, List, [], ◌∷◌, Some, inl, inr, refl, sym, ap, subst, ◌∙◌, arith}
use Rattle.std.specs.Prelude.{slice_get, ◌⊎◌}
use Rattle.std.proofs.lemmas.Bool.{and_from, and_parts, cases_Bool, eq-eqb, eqb-true}
use Rattle.fm_base.specs.Resolution.{Has}
use Rattle.fm_base.specs.declared.ids.Lit.{Lit}
use Rattle.fm_sat.specs.Learning.{IsTopLevel}
use Rattle.fm_sat.specs.Store.{HasNoFalse}
use Rattle.fm_trail.specs.Trail.{are_false, level_on}
use Rattle.fm_trail.specs.declared.entry.Entry.{Entry}
use Rattle.fm_steps.specs.Menu.{conflict_at, conflicts_from, is_of_level_zero}
use Rattle.fm_steps.specs.State.{Clause}

all_zero : (es : List Entry) (c : Clause) → ((k : Lit) → Has c k → level_on es k ≡ 0) → is_of_level_zero es c ≡ true
all_zero es [] h = refl
all_zero es (l ∷ ls) h = and_from (level_on es l == 0) (is_of_level_zero es ls) (eq-eqb (level_on es l) 0 (h l (inl refl))) (all_zero es ls (λ k q. h k (inr q)))

zero_each : (es : List Entry) (c : Clause) (k : Lit) → Has c k → is_of_level_zero es c ≡ true → level_on es k ≡ 0
zero_each es [] k x h = elim x [ ]
zero_each es (l ∷ ls) k (inl e) h = ap (level_on es) (sym e) ∙ eqb-true (level_on es l) 0 (and_parts (level_on es l == 0) (is_of_level_zero es ls) h).0
zero_each es (l ∷ ls) k (inr q) h = zero_each es ls k q (and_parts (level_on es l == 0) (is_of_level_zero es ls) h).1

same_clause : (cs : List Clause) (n : ℕ) (c d : Clause) → slice_get cs n ≡ Some c → slice_get cs n ≡ Some d → c ≡ d
same_clause cs n c d a b = cc (a, b)

pub conflict_low : (cs : List Clause) (es : List Entry) (n level : ℕ) (c : Clause) → IsTopLevel cs es n level → slice_get cs n ≡ Some c → level ≡ 0 → is_of_level_zero es c ≡ true
conflict_low cs es n level c top at z = all_zero es c (λ k has.
    let has' : Has top.0 k = subst (λ (d : Clause). Has d k) (same_clause cs n c top.0 at top.1) has in
    let le : level_on es k ≤ level = top.2.bound k has' in
    omega (arith, le, z))

high_step : (es : List Entry) (c : Clause) (level : ℕ) → ((level ≡ 0) ⊎ ((k : Lit) × Has c k × (level_on es k ≡ level))) → level ≢ 0 → is_of_level_zero es c ≡ true → level ≡ 0
high_step es c level (inl z) ne h = z
high_step es c level (inr q) ne h = sym q.2 ∙ zero_each es c q.0 q.1 h

pub conflict_high : (cs : List Clause) (es : List Entry) (n level : ℕ) (c : Clause) → IsTopLevel cs es n level → slice_get cs n ≡ Some c → level ≢ 0 → is_of_level_zero es c ≡ false
conflict_high cs es n level c top at ne =
    elim (cases_Bool (is_of_level_zero es c)) [
      | inl t ↦ absurd (ne (high_step es c level (subst (λ (d : Clause). (level ≡ 0) ⊎ ((k : Lit) × Has d k × (level_on es k ≡ level))) (sym (same_clause cs n c top.0 at top.1)) top.2.met) ne t))
      | inr f ↦ f
    ]

pub none_from : (m : ℕ) (es : List Entry) (cs : List Clause) → HasNoFalse cs es → conflicts_from m es cs ≡ []
none_from m es [] h = refl
none_from m es (c ∷ cs) h = ap (λ (b : Bool). cond b (conflict_at m es c ∷ []) (conflicts_from (m + 1) es cs)) (h 0 c refl) ∙ none_from (m + 1) es cs (λ i d at. h (suc i) d at)

pub first_from : (m n : ℕ) (es : List Entry) (cs : List Clause) (c : Clause) → slice_get cs n ≡ Some c → are_false es c ≡ true → ((i : ℕ) (d : Clause) → i < n → slice_get cs i ≡ Some d → are_false es d ≡ false) → conflicts_from m es cs ≡ conflict_at (m + n) es c ∷ []
first_from m n es [] c at f h = absurd cc
first_from m zero es (d ∷ cs) c at f h =
    let it : d ≡ c = cc in
    let none : m ≡ m + 0 = omega arith in
    ap (λ (b : Bool). cond b (conflict_at m es d ∷ []) (conflicts_from (m + 1) es cs)) (ap (are_false es) it ∙ f) ∙ ap (λ (e : Clause). conflict_at m es e ∷ []) it ∙ ap (λ k. conflict_at k es c ∷ []) none
first_from m (suc n) es (d ∷ cs) c at f h =
    let sum : m + 1 + n ≡ m + suc n = omega arith in
    ap (λ (b : Bool). cond b (conflict_at m es d ∷ []) (conflicts_from (m + 1) es cs)) (h 0 d (omega arith) refl)
    ∙ first_from (m + 1) n es cs c at f (λ i e lt there. h (suc i) e (omega (arith, lt)) there)
    ∙ ap (λ k. conflict_at k es c ∷ []) sum
