-- Places that are linked by depth, and what a walk along them leaves of a clause.
use Rattle.std.proofs.Common.{set, ◌≡◌, ℕ, zero, suc, ◌+◌, ◌<◌, ◌≤◌, Bool, true, false, ◌&&◌, ◌||◌, not, cond, List, [], ◌∷◌, ◌++◌, length, map, drop, get_or, refl, sym, ap, ◌∙◌, arith, inl, inr}
use Rattle.std.specs.Prelude.{◌==◌, replicate}
use Rattle.std.specs.List.{drop-map, position_or_len}
use Rattle.std.proofs.lemmas.Bool.{cases_eq, eq-eqb, eqb-true, ne_eqb}
use Rattle.std.proofs.lemmas.List.{drop-drop, drop_all, drop_more, get_or-drop, get_or-set_other, get_or-set_same, length-drop, length-map, length-set}
use Rattle.std.proofs.lemmas.List.Sums.{passes_at_first}
use Rattle.fm_base.specs.Interpretations.{Reading}
use Rattle.fm_bank.specs.Clauses.{plit_true}
use Rattle.fm_bank.specs.declared.clause.Plit.{Plit}
use Rattle.fm_inst.specs.Depths.{IsWithin, level_true, literal_depth}
use Rattle.fm_inst.specs.Levels.{AreAtMost, AreLinked, place_of}

pub filled_at : (n x d : ℕ) → d ≤ n → get_or (replicate n x ++ x ∷ []) d 0 ≡ x
filled_at zero x zero le = refl
filled_at zero x (suc d) le = absurd (omega (arith, le))
filled_at (suc n) x zero le = refl
filled_at (suc n) x (suc d) le = filled_at n x d (omega (arith, le))

position_here : (p : ℕ → Bool) (x : ℕ) (xs : List ℕ) → p x ≡ true → position_or_len p (x ∷ xs) ≡ 0
position_here p x xs e = ap (λ c. cond (not c) (1 + position_or_len p xs) 0) e

position_on : (p : ℕ → Bool) (x : ℕ) (xs : List ℕ) → p x ≡ false → position_or_len p (x ∷ xs) ≡ suc (position_or_len p xs)
position_on p x xs e = let next : 1 + position_or_len p xs ≡ suc (position_or_len p xs) = omega arith in ap (λ c. cond (not c) (1 + position_or_len p xs) 0) e ∙ next

pub place_end : (d : ℕ) (es : List ℕ) → place_of d (length es) es ≡ length es
place_end d es =
    let none : position_or_len (λ e. e == d) (drop (length es) es) ≡ 0 = ap (position_or_len (λ e. e == d)) (drop_all (length es) es (omega arith)) in
    omega (arith, none)

place_here : (d k : ℕ) (es : List ℕ) → k < length es → get_or es k 0 ≡ d → place_of d k es ≡ k
place_here d k es lt e =
    let none : position_or_len (λ e. e == d) (drop k es) ≡ 0 = ap (position_or_len (λ e. e == d)) (drop_more es k 0 lt) ∙ position_here (λ e. e == d) (get_or es k 0) (drop (k + 1) es) (eq-eqb (get_or es k 0) d e) in
    omega (arith, none)

place_on : (d k : ℕ) (es : List ℕ) → k < length es → (get_or es k 0 ≡ d → ⊥) → place_of d k es ≡ place_of d (k + 1) es
place_on d k es lt other =
    let more : position_or_len (λ e. e == d) (drop k es) ≡ suc (position_or_len (λ e. e == d) (drop (k + 1) es)) = ap (position_or_len (λ e. e == d)) (drop_more es k 0 lt) ∙ position_on (λ e. e == d) (get_or es k 0) (drop (k + 1) es) (ne_eqb (get_or es k 0) d other) in
    omega (arith, more)

pub at_most : (es : List ℕ) (n k : ℕ) → AreAtMost es n → k < length es → get_or es k 0 ≤ n
at_most [] n k h lt = absurd (omega (arith, lt))
at_most (e ∷ es) n zero (le, h) lt = le
at_most (e ∷ es) n (suc k) (le, h) lt = at_most es n k h (omega (arith, lt))

pub linked_more : (es : List ℕ) (count k : ℕ) (first next : List ℕ) → AreAtMost es count → k < length es → AreLinked es count (k + 1) first next
    → AreLinked es count k (set first (get_or es k 0) k) (set next k (get_or first (get_or es k 0) 0))
linked_more es count k first next low lt h =
    let e = get_or es k 0 in
    let within : e ≤ count = at_most es count k low lt in
    record {
      levels = length-set first e k ∙ h.levels;
      places = length-set next k (get_or first e 0) ∙ h.places;
      firsts = λ d le. elim (cases_eq d e) [
        | inl same ↦ ap (λ i. get_or (set first e k) i 0) same ∙ get_or-set_same first e k 0 (omega (arith, within, h.levels)) ∙ sym (place_here d k es lt (sym same))
        | inr other ↦ get_or-set_other first e d k 0 other ∙ h.firsts d le ∙ sym (place_on d k es lt (λ q. other (sym q)))
      ];
      nexts = λ j from below. elim (cases_eq j k) [
        | inl same ↦ ap (λ i. get_or (set next k (get_or first e 0)) i 0) same ∙ get_or-set_same next k (get_or first e 0) 0 (omega (arith, lt, h.places)) ∙ h.firsts e within ∙ ap (λ i. place_of (get_or es i 0) (i + 1) es) (sym same)
        | inr other ↦ get_or-set_other next k j (get_or first e 0) 0 other ∙ h.nexts j (omega (arith, from, other)) below
      ];
    }

-- of a level only what stands from its next place on counts
module _ (m : Reading) (d : ℕ) (env : List ℕ) where
  abbrev depths : List Plit → List ℕ
  depths ls = map literal_depth ls

  jump_step : (l : Plit) (ls : List Plit) (b : Bool) → (literal_depth l == d) ≡ b → level_true m (drop (position_or_len (λ e. e == d) (depths ls)) ls) d env ≡ level_true m ls d env
      → level_true m (drop (position_or_len (λ e. e == d) (depths (l ∷ ls))) (l ∷ ls)) d env ≡ level_true m (l ∷ ls) d env
  jump_step l ls true e h = ap (λ n. level_true m (drop n (l ∷ ls)) d env) (position_here (λ k. k == d) (literal_depth l) (depths ls) e)
  jump_step l ls false e h = ap (λ n. level_true m (drop n (l ∷ ls)) d env) (position_on (λ k. k == d) (literal_depth l) (depths ls) e) ∙ h ∙ sym (ap (λ b. (b && plit_true m env l) || level_true m ls d env) e)

  jump : (ls : List Plit) → level_true m (drop (position_or_len (λ e. e == d) (depths ls)) ls) d env ≡ level_true m ls d env
  jump [] = refl
  jump (l ∷ ls) = jump_step l ls (literal_depth l == d) refl (jump ls)

  pub jumped : (k : ℕ) (ls : List Plit) → level_true m (drop (place_of d k (depths ls)) ls) d env ≡ level_true m (drop k ls) d env
  jumped k ls =
      let n = position_or_len (λ e. e == d) (drop k (depths ls)) in
      ap (λ l. level_true m l d env) (sym (drop-drop n k ls)) ∙ ap (λ i. level_true m (drop (position_or_len (λ e. e == d) i) (drop k ls)) d env) (drop-map literal_depth k ls) ∙ jump (drop k ls)

  depth_at : (ls : List Plit) (k : ℕ) (l : Plit) → k < length ls → get_or (depths ls) k 0 ≡ literal_depth (get_or ls k l)
  depth_at [] k l lt = absurd (omega (arith, lt))
  depth_at (x ∷ ls) zero l lt = refl
  depth_at (x ∷ ls) (suc k) l lt = depth_at ls k l (omega (arith, lt))

  pub step : (ls : List Plit) (k : ℕ) (l : Plit) → k < length ls → l ≡ get_or ls k l → get_or (depths ls) k 0 ≡ d → level_true m (drop k ls) d env ≡ (plit_true m env l || level_true m (drop (k + 1) ls) d env)
  step ls k l lt is at =
      let same : literal_depth l ≡ d = ap literal_depth is ∙ sym (depth_at ls k l lt) ∙ at in
      ap (λ x. level_true m x d env) (drop_more ls k l lt ∙ ap (λ (x : Plit). x ∷ drop (k + 1) ls) (sym is)) ∙ ap (λ b. (b && plit_true m env l) || level_true m (drop (k + 1) ls) d env) (eq-eqb (literal_depth l) d same)

pub place_has : (d k : ℕ) (es : List ℕ) → place_of d k es < length es → get_or es (place_of d k es) 0 ≡ d
place_has d k es lt =
    let n = position_or_len (λ e. e == d) (drop k es) in
    let low : n < length (drop k es) = omega (arith, lt, length-drop k es) in
    sym (get_or-drop k es n 0) ∙ eqb-true (get_or (drop k es) n 0) d (passes_at_first (λ e. e == d) (drop k es) 0 low)

-- a walk arrives at a place of the level, or at the end
pub arrived : (m : Reading) (d : ℕ) (env : List ℕ) (lits : List Plit) (k place : ℕ) → place ≡ place_of d k (map literal_depth lits)
    → (place < length lits → get_or (map literal_depth lits) place 0 ≡ d) × (level_true m (drop place lits) d env ≡ level_true m (drop k lits) d env)
arrived m d env lits k place at =
    let es = map literal_depth lits in (
      (λ low. let there : place_of d k es < length es = omega (arith, low, at, length-map lits literal_depth) in ap (λ i. get_or es i 0) at ∙ place_has d k es there),
      ap (λ i. level_true m (drop i lits) d env) at ∙ jumped m d env k lits,
    )

pub within_at_most : (lits : List Plit) (n : ℕ) → IsWithin lits n → AreAtMost (map literal_depth lits) n
within_at_most [] n h = tt
within_at_most (l ∷ ls) n (le, h) = (le, within_at_most ls n h)
