-- Marks on the entries of a trail: the clause that they stand for, and the count of those at a level.
use Rattle.std.proofs.Common.{◌≡◌, ◌≢◌, ℕ, zero, suc, ◌+◌, ◌<◌, ◌≤◌, Bool, true, false, cond, ◌&&◌, List, [], ◌∷◌, length, replicate, Some, inl, inr, refl, sym, subst, ap, ◌∙◌, arith}
use Rattle.std.specs.Prelude.{slice_get, slice_set, ◌==◌, ◌⊎◌}
use Rattle.std.proofs.lemmas.Bool.{cases_Bool, eq-eqb, ne_eqb, eqb-true, eqb-false, false≢true}
use Rattle.fm_base.specs.declared.ids.Lit.{Lit}
use Rattle.fm_base.specs.Resolution.{Has, opposite}
use Rattle.fm_trail.specs.declared.entry.Entry.{Entry}
use Rattle.fm_sat.specs.Marks.{IsMarked, IsMarkedFrom, IsUnmarked, Marked, count_at, marked}

pub set_here : {X : Type 0} (xs : List X) (i : ℕ) (v : X) → i < length xs → slice_get (slice_set xs i v) i ≡ Some v
set_here [] i v lt = absurd (omega arith)
set_here (x ∷ xs) zero v lt = refl
set_here (x ∷ xs) (suc i) v lt = set_here xs i v (omega arith)

pub set_there : {X : Type 0} (xs : List X) (i j : ℕ) (v : X) → j ≢ i → slice_get (slice_set xs i v) j ≡ slice_get xs j
set_there [] i j v ne = refl
set_there (x ∷ xs) zero zero v ne = absurd (ne refl)
set_there (x ∷ xs) zero (suc j) v ne = refl
set_there (x ∷ xs) (suc i) zero v ne = refl
set_there (x ∷ xs) (suc i) (suc j) v ne = set_there xs i j v (λ e. ne (ap suc e))

-- a place is this one or another
pub same_place : (p q : ℕ) → (p ≡ q) ⊎ (p ≢ q)
same_place p q = elim (cases_Bool (p == q)) [ inl t ↦ inl (eqb-true p q t) | inr f ↦ inr (eqb-false p q f) ]

pub mark_one : (ms : List Bool) (i : ℕ) → i < length ms → IsMarkedFrom ms i (slice_set ms i true)
mark_one ms i lt p =
    elim (same_place p i) [
      | inl here ↦ (λ h. inr here, λ h. subst (λ (n : ℕ). IsMarked (slice_set ms i true) n) (sym here) (set_here ms i true lt))
      | inr other ↦ (λ h. inl (sym (set_there ms i p true other) ∙ h), λ h. elim h [ inl was ↦ set_there ms i p true other ∙ was | inr here ↦ absurd (other here) ])
    ]

pub mark_again : (ms : List Bool) (i : ℕ) → IsMarked ms i → IsMarkedFrom ms i ms
mark_again ms i is p = (λ h. inl h, λ h. elim h [ inl was ↦ was | inr here ↦ subst (IsMarked ms) (sym here) is ])

pub mark_none : (ms : List Bool) (i : ℕ) → i < length ms → IsUnmarked ms i (slice_set ms i false)
mark_none ms i lt p =
    elim (same_place p i) [
      | inl here ↦ (λ h. absurd (let f = subst (λ (n : ℕ). slice_get (slice_set ms i false) n ≡ Some false) (sym here) (set_here ms i false lt) in let bad : Some true ≡ Some false = sym h ∙ f in cc), λ h. absurd (h.1 here))
      | inr other ↦ (λ h. (sym (set_there ms i p false other) ∙ h, other), λ h. set_there ms i p false other ∙ h.0)
    ]

-- the clause has the opposite of each marked entry's literal, and no other
marked_first : (ms : List Bool) (e : Entry) (es : List Entry) (k : Lit) → Marked ms es 0 → Marked ms es 0
marked_first ms e es k m = m

pub record MarkedAs (ms : List Bool) (es : List Entry) (k : Lit) (p : ℕ) : Type 0 where
  pub entry : Entry
  pub mark : IsMarked ms p
  pub at : slice_get es p ≡ Some entry
  pub is : opposite entry.lit ≡ k

later : (m : Bool) (ms : List Bool) (e : Entry) (es : List Entry) (k : Lit) → (p : ℕ) × MarkedAs ms es k p → (p : ℕ) × MarkedAs (m ∷ ms) (e ∷ es) k p
later m ms e es k (p, h) = (suc p, record { entry = h.entry; mark = h.mark; at = h.at; is = h.is })

has_step : (m : Bool) (ms : List Bool) (e : Entry) (es : List Entry) (k : Lit) → (Has (marked ms es) k → (p : ℕ) × MarkedAs ms es k p) → Has (cond m (opposite e.lit ∷ marked ms es) (marked ms es)) k → (p : ℕ) × MarkedAs (m ∷ ms) (e ∷ es) k p
has_step true ms e es k rest h = elim h [ inl here ↦ (0, record { entry = e; mark = refl; at = refl; is = here }) | inr more ↦ later true ms e es k (rest more) ]
has_step false ms e es k rest h = later false ms e es k (rest h)

pub marked_has : (ms : List Bool) (es : List Entry) (k : Lit) → Has (marked ms es) k → (p : ℕ) × MarkedAs ms es k p
marked_has [] es k h = absurd h
marked_has (m ∷ ms) [] k h = absurd h
marked_has (m ∷ ms) (e ∷ es) k h = has_step m ms e es k (marked_has ms es k) h

has_more : (m : Bool) (ms : List Bool) (e : Entry) (es : List Entry) (k : Lit) → Has (marked ms es) k → Has (cond m (opposite e.lit ∷ marked ms es) (marked ms es)) k
has_more true ms e es k h = inr h
has_more false ms e es k h = h

has_first : (m : Bool) (ms : List Bool) (e : Entry) (es : List Entry) → m ≡ true → Has (cond m (opposite e.lit ∷ marked ms es) (marked ms es)) (opposite e.lit)
has_first true ms e es is = inl refl
has_first false ms e es is = absurd (false≢true is)

pub has_marked : (ms : List Bool) (es : List Entry) (p : ℕ) (e : Entry) → IsMarked ms p → slice_get es p ≡ Some e → Has (marked ms es) (opposite e.lit)
has_marked [] es p e m at = absurd cc
has_marked (b ∷ ms) [] p e m at = absurd cc
has_marked (b ∷ ms) (d ∷ es) zero e m at =
    let it : d ≡ e = cc in
    let one : b ≡ true = cc in
    subst (λ (f : Entry). Has (marked (b ∷ ms) (d ∷ es)) (opposite f.lit)) it (has_first b ms d es one)
has_marked (b ∷ ms) (d ∷ es) (suc p) e m at = has_more b ms d es (opposite e.lit) (has_marked ms es p e m at)

abbrev pub one_at : ℕ → Entry → ℕ
one_at top e = cond (e.level == top) 1 0

count_more : (top : ℕ) (ms : List Bool) (es : List Entry) (e d : Entry) → d ≡ e → count_at top (true ∷ ms) (d ∷ es) ≡ one_at top e + count_at top ms es
count_more top ms es e d it = ap (λ (f : Entry). one_at top f + count_at top ms es) it

-- one mark more, or one less
pub count_set : (top : ℕ) (ms : List Bool) (es : List Entry) (p : ℕ) (e : Entry) → slice_get ms p ≡ Some false → slice_get es p ≡ Some e → count_at top (slice_set ms p true) es ≡ count_at top ms es + one_at top e
count_set top [] es p e m at = absurd cc
count_set top (b ∷ ms) [] p e m at = absurd cc
count_set top (b ∷ ms) (d ∷ es) zero e m at =
    let it : d ≡ e = cc in
    let none : b ≡ false = cc in
    let rest : count_at top (b ∷ ms) (d ∷ es) ≡ 0 + count_at top ms es = ap (λ (c : Bool). cond (c && d.level == top) 1 0 + count_at top ms es) none in
    omega (arith, count_more top ms es e d it, rest)
count_set top (b ∷ ms) (d ∷ es) (suc p) e m at = omega (arith, count_set top ms es p e m at)

pub count_unset : (top : ℕ) (ms : List Bool) (es : List Entry) (p : ℕ) (e : Entry) → IsMarked ms p → slice_get es p ≡ Some e → count_at top ms es ≡ count_at top (slice_set ms p false) es + one_at top e
count_unset top [] es p e m at = absurd cc
count_unset top (b ∷ ms) [] p e m at = absurd cc
count_unset top (b ∷ ms) (d ∷ es) zero e m at =
    let it : d ≡ e = cc in
    let one : b ≡ true = cc in
    let rest : count_at top (b ∷ ms) (d ∷ es) ≡ one_at top d + count_at top ms es = ap (λ (c : Bool). cond (c && d.level == top) 1 0 + count_at top ms es) one in
    let same : one_at top d ≡ one_at top e = ap (one_at top) it in
    omega (arith, rest, same)
count_unset top (b ∷ ms) (d ∷ es) (suc p) e m at = omega (arith, count_unset top ms es p e m at)

pub count_within : (top : ℕ) (ms : List Bool) (es : List Entry) → count_at top ms es ≤ length ms
count_within top [] es = omega arith
count_within top (m ∷ ms) [] = omega arith
count_within top (m ∷ ms) (e ∷ es) = omega (arith, count_within top ms es, one_most (m && e.level == top))
  where
    one_most : (b : Bool) → cond b 1 0 ≤ 1
    one_most true = omega arith
    one_most false = omega arith

pub record MarkedAt (ms : List Bool) (es : List Entry) (top p : ℕ) : Type 0 where
  pub entry : Entry
  pub mark : IsMarked ms p
  pub at : slice_get es p ≡ Some entry
  pub level : entry.level ≡ top

both_true : (a b : Bool) → (a && b) ≡ true → (a ≡ true) × (b ≡ true)
both_true true b h = (refl, h)
both_true false b h = absurd (false≢true h)

some_step : (top : ℕ) (m : Bool) (ms : List Bool) (e : Entry) (es : List Entry) (c : Bool) → (m && e.level == top) ≡ c → 1 ≤ cond c 1 0 + count_at top ms es → (1 ≤ count_at top ms es → (p : ℕ) × MarkedAt ms es top p) → (p : ℕ) × MarkedAt (m ∷ ms) (e ∷ es) top p
some_step top m ms e es true is h rest =
    let both = both_true m (e.level == top) is in
    (0, record { entry = e; mark = ap Some both.0; at = refl; level = eqb-true e.level top both.1 })
some_step top m ms e es false is h rest =
    let r = rest (omega arith) in
    (suc r.0, record { entry = r.1.entry; mark = r.1.mark; at = r.1.at; level = r.1.level })

pub count_some : (top : ℕ) (ms : List Bool) (es : List Entry) → 1 ≤ count_at top ms es → (p : ℕ) × MarkedAt ms es top p
count_some top [] es h = absurd (omega arith)
count_some top (m ∷ ms) [] h = absurd (omega arith)
count_some top (m ∷ ms) (e ∷ es) h = some_step top m ms e es (m && e.level == top) refl h (count_some top ms es)

pub one_here : (top : ℕ) (e : Entry) → e.level ≡ top → one_at top e ≡ 1
one_here top e is = ap (λ (b : Bool). cond b 1 0) (eq-eqb e.level top is)

pub one_not : (top : ℕ) (e : Entry) → e.level ≢ top → one_at top e ≡ 0
one_not top e not' = ap (λ (b : Bool). cond b 1 0) (ne_eqb e.level top not')

-- a marked entry of the level is counted
pub counted_some : (top : ℕ) (ms : List Bool) (es : List Entry) (p : ℕ) → MarkedAt ms es top p → 1 ≤ count_at top ms es
counted_some top ms es p m = omega (arith, count_unset top ms es p m.entry m.mark m.at, one_here top m.entry m.level)

pub none_counted : (n top : ℕ) (es : List Entry) → count_at top (replicate n false) es ≡ 0
none_counted zero top es = refl
none_counted (suc n) top [] = refl
none_counted (suc n) top (e ∷ es) = omega (arith, none_counted n top es)

pub none_marked : (n p : ℕ) → IsMarked (replicate n false) p → ⊥
none_marked zero p h = cc
none_marked (suc n) zero h = cc
none_marked (suc n) (suc p) h = none_marked n p h
