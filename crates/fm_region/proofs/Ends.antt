-- All regions at k are closed, and so are the grown ones.
use Rattle.std.proofs.Common.{◌≡◌, ℕ, zero, suc, ◌+◌, ◌-◌, ◌<◌, ◌≤◌, Bool, true, false, cond, not, ◌&&◌, ◌||◌, List, [], ◌∷◌, length, map, Option, Some, None, inl, inr, refl, sym, subst, ap, ◌∙◌, arith, get_or}
use Rattle.std.specs.Prelude.{◌==◌, nat_le, nat_lt, position}
use Rattle.std.specs.List.{All, IsDistinct, find, list_all, list_any, position_or_len, range_with_len}
use Rattle.std.proofs.lemmas.Bool.{and_from, and_parts, cases_Bool, cases_lt, false≢true, leb-true, lt-ltb, ltb-true, not-true, or_left, eqb-true, eq-eqb}
use Rattle.std.proofs.lemmas.List.{get_or_default}
use Rattle.std.proofs.lemmas.List.Elements.{All-from_get_or, All-nil}
use Rattle.std.proofs.lemmas.List.Quantifiers.{position-Some}
use Rattle.std.proofs.lemmas.List.Recursion.{is_position_or_len}
use Rattle.fm_bank.specs.Regions.{Cover, after_join, after_meeting, after_opening, apart_outside, closed, closed_within, count_apart, first_open, first_touching, grown_within, is_closed_at, is_in, is_large, must_grow, region_at, regions_at, touches}
use Rattle.fm_region.proofs.Covering.{closed_cover, cover_join, fewer, two}
use Rattle.fm_region.proofs.Members.{any_in, one_passes}
use Rattle.fm_region.proofs.Searching.{cond_no, cond_yes, found, none_some}
use Rattle.fm_region.proofs.Stages.{grown_end, grown_stays, grown_step}

rest_fails : (b c : Bool) → b ≡ true → (b && c) ≡ false → c ≡ false
rest_fails true c e f = f
rest_fails false c e f = absurd (false≢true e)

rest_has : (b c : Bool) → b ≡ false → (b || c) ≡ true → c ≡ true
rest_has true c e f = absurd (false≢true (sym e))
rest_has false c e f = f

not_no : (b : Bool) → not b ≡ false → b ≡ true
not_no true e = refl
not_no false e = absurd (false≢true (sym e))

not_below : (m n : ℕ) → nat_lt m n ≡ false → n ≤ m
not_below m n e = elim (cases_lt m n) [ inl lt ↦ absurd (false≢true (sym e ∙ lt-ltb m n lt)) | inr le ↦ le ]

all_fail_at : {X : Type 0} → (p : X → Bool) (x : X) (xs : List X) (d : X) → p x ≡ false → ((i : ℕ) → i < length xs → p (get_or xs i d) ≡ false) → (i : ℕ) → i < length (x ∷ xs) → p (get_or (x ∷ xs) i d) ≡ false
all_fail_at p x xs d bad rest zero lt = bad
all_fail_at p x xs d bad rest (suc i) lt = rest i (omega (arith, lt))

pub find_none_all : (p : ℕ → Bool) (a n : ℕ) → find p (range_with_len a n) ≡ None → (m : ℕ) → a ≤ m → m < a + n → p m ≡ false
find_none_all p a zero e m le lt = absurd (omega (arith, le, lt))
find_none_all p a (suc n) e m le lt =
    let rest = find p (range_with_len (a + 1) n) in
    elim (cases_Bool (p a)) [
      | inl good ↦ absurd (none_some a (sym e ∙ cond_yes (p a) (Some a) rest good))
      | inr bad ↦ elim (cases_lt a m) [
        | inl more ↦ find_none_all p (a + 1) n (sym (cond_no (p a) (Some a) rest bad) ∙ e) m (omega (arith, more)) (omega (arith, lt))
        | inr here ↦ let same : m ≡ a = omega (arith, here, le) in ap p same ∙ bad
      ]
    ]

pub range_fails : (p : ℕ → Bool) (a n : ℕ) → list_all p (range_with_len a n) ≡ false → (m : ℕ) × (a ≤ m) × (m < a + n) × (p m ≡ false)
range_fails p a zero e = absurd (false≢true (sym e))
range_fails p a (suc n) e =
    elim (cases_Bool (p a)) [
      | inl good ↦ let r = range_fails p (a + 1) n (rest_fails (p a) (list_all p (range_with_len (a + 1) n)) good e) in (r.0, (let le = r.1 in omega (arith, le)), (let lt = r.2 in omega (arith, lt)), r.3)
      | inr bad ↦ (a, omega arith, omega arith, bad)
    ]

abbrev first_at : {X : Type 0} → (X → Bool) → List X → ℕ
first_at p [] = 0
first_at p (x ∷ xs) = cond (p x) 0 (1 + first_at p xs)

all_fail : {X : Type 0} → (p : X → Bool) (xs : List X) (d : X) → length xs ≤ first_at p xs → (i : ℕ) → i < length xs → p (get_or xs i d) ≡ false
all_fail p [] d le i lt = absurd (omega (arith, lt))
all_fail p (x ∷ xs) d le i lt =
    elim (cases_Bool (p x)) [
      | inl good ↦ let zero_at = cond_yes (p x) 0 (1 + first_at p xs) good in absurd (omega (arith, le, zero_at))
      | inr bad ↦ let next = cond_no (p x) 0 (1 + first_at p xs) bad in all_fail_at p x xs d bad (all_fail p xs d (omega (arith, le, next))) i lt
    ]

pub none_passes : {X : Type 0} → (p : X → Bool) (xs : List X) (d : X) → position p xs ≡ None → (i : ℕ) → i < length xs → p (get_or xs i d) ≡ false
none_passes p xs d e =
    let at = is_position_or_len (first_at p) p refl (λ x ys. refl) xs in
    let n = position_or_len p xs in
    elim (cases_lt n (length xs)) [
      | inl lt ↦ absurd (none_some n (sym e ∙ cond_yes (nat_lt n (length xs)) (Some n) None (lt-ltb n (length xs) lt)))
      | inr ge ↦ all_fail p xs d (omega (arith, ge, at))
    ]

-- what a class of an open region is apart from outside
pub record IsMeeting (apart : ℕ → ℕ → Bool) (classes region : List ℕ) (c d : ℕ) : Type 0 where
  pub inside : is_in region c ≡ true
  pub there : is_in classes d ≡ true
  pub outside : is_in region d ≡ false
  pub differs : apart c d ≡ true

module _ (apart : ℕ → ℕ → Bool) (classes : List ℕ) (k : ℕ) where
  pub open_meets : (region : List ℕ) → is_closed_at apart classes k region ≡ false → (c : ℕ) × ((d : ℕ) × IsMeeting apart classes region c d)
  open_meets region e =
      let a = range_fails (λ a. nat_lt (count_apart apart classes region (k + 1 - a)) a) 1 k e in
      let many = k + 1 - a.0 in
      let enough = not_below (count_apart apart classes region many) a.0 a.3 in
      let one = a.1 in
      let within = a.2 in
      let c = one_passes (λ c. nat_le many (apart_outside apart classes region c)) region (omega (arith, enough, one)) in
      let out = leb-true many (apart_outside apart classes region c.0) c.2 in
      let d = one_passes (λ d. not (is_in region d) && apart c.0 d) classes (omega (arith, out, within)) in
      let parts = and_parts (not (is_in region d.0)) (apart c.0 d.0) d.2 in
      (c.0, (d.0, record { inside = c.1; there = d.1; outside = not-true (is_in region d.0) parts.0; differs = parts.1 }))

  -- an open region touches another one
  pub meets_other : (rs : List (List ℕ)) → Cover rs classes → (i : ℕ) → i < length rs → is_closed_at apart classes k (region_at rs i) ≡ false → first_touching apart rs i ≡ None → ⊥
  meets_other rs cover i lt e none =
      let m = open_meets (region_at rs i) e in
      let d = m.1.0 in
      let w = m.1.1 in
      let had = cover d w.there in
      let j = had.1.0 in
      let at : region_at rs j ≡ had.0 = get_or_default rs j [] had.0 had.1.1 ∙ had.1.2 in
      let other : (j == i) ≡ false = (elim (cases_Bool (j == i)) [
        | inl same ↦ absurd (false≢true (sym w.outside ∙ (ap (λ (n : ℕ). is_in (region_at rs n) d) (sym (eqb-true j i same)) ∙ (ap (λ (r : List ℕ). is_in r d) at ∙ had.2))))
        | inr differ ↦ differ
      ]) in
      let touch : touches apart (region_at rs i) (region_at rs j) ≡ true = any_in (λ c. list_any (λ z. apart c z) (region_at rs j)) (region_at rs i) m.0 w.inside (any_in (λ z. apart m.0 z) (region_at rs j) d (ap (λ (r : List ℕ). is_in r d) at ∙ had.2) w.differs) in
      let below = had.1.1 in
      let no = find_none_all (λ z. not (z == i) && touches apart (region_at rs i) (region_at rs z)) 0 (length rs) none j (omega arith) (omega (arith, below)) in
      false≢true (sym no ∙ and_from (not (j == i)) (touches apart (region_at rs i) (region_at rs j)) (ap not other) touch)

  abbrev AllClosed : List (List ℕ) → Type 0
  AllClosed rs = All (λ r. is_closed_at apart classes k r ≡ true) rs

  abbrev Closes : ℕ → (List (List ℕ) → List (List ℕ)) → Type 0
  Closes n onward = (rs : List (List ℕ)) → length rs ≤ n → Cover rs classes → AllClosed (onward rs)

  meeting : (n : ℕ) (onward : List (List ℕ) → List (List ℕ)) → Closes n onward → (rs : List (List ℕ)) → length rs ≤ suc n → Cover rs classes → (i : ℕ) → i < length rs → is_closed_at apart classes k (region_at rs i) ≡ false → (o : Option ℕ) → first_touching apart rs i ≡ o → AllClosed (after_meeting classes onward rs i o)
  meeting n onward go rs le cover i lt open_i None e = absurd (meets_other rs cover i lt open_i e)
  meeting n onward go rs le cover i lt open_i (Some j) e =
      let f = found (λ m. not (m == i) && touches apart (region_at rs i) (region_at rs m)) 0 (length rs) j e in
      let below = f.below in
      let parts = and_parts (not (j == i)) (touches apart (region_at rs i) (region_at rs j)) f.passes in
      let ne : i ≡ j → ⊥ = λ same. false≢true (sym (ap not (eq-eqb j i (sym same))) ∙ parts.0) in
      let less = fewer apart classes k rs i j lt (omega (arith, below)) ne in
      go (after_join classes rs i j) (omega (arith, le, less)) (cover_join apart classes k rs i j lt (omega (arith, below)) ne cover)

  opening : (n : ℕ) (onward : List (List ℕ) → List (List ℕ)) → Closes n onward → (rs : List (List ℕ)) → length rs ≤ suc n → Cover rs classes → (o : Option ℕ) → first_open apart classes k rs ≡ o → AllClosed (after_opening apart classes onward rs o)
  opening n onward go rs le cover None e = All-from_get_or (λ r. is_closed_at apart classes k r ≡ true) rs [] (λ i lt. not_no (is_closed_at apart classes k (get_or rs i [])) (none_passes (λ r. not (is_closed_at apart classes k r)) rs [] e i lt))
  opening n onward go rs le cover (Some i) e =
      let s = position-Some (λ r. not (is_closed_at apart classes k r)) rs i [] e in
      meeting n onward go rs le cover i s.0 (not-true (is_closed_at apart classes k (get_or rs i [])) s.1) (first_touching apart rs i) refl

  pub closed_all : (n : ℕ) (rs : List (List ℕ)) → length rs ≤ n → Cover rs classes → AllClosed (closed_within apart classes k n rs)
  unfolding closed_within
  closed_all zero [] le cover = All-nil (λ r. is_closed_at apart classes k r ≡ true)
  closed_all zero (r ∷ rs) le cover = absurd (omega (arith, le))
  closed_all (suc n) rs le cover = opening n (closed_within apart classes k n) (closed_all n) rs le cover (first_open apart classes k rs) refl

  -- each class by itself
  pub cover_alone : (cs : List ℕ) → Cover (map (λ c. c ∷ []) cs) cs
  cover_alone [] = λ c h. absurd (false≢true h)
  cover_alone (x ∷ xs) = λ c h. elim (cases_Bool (c == x)) [
    | inl same ↦ (x ∷ [], (zero, omega arith, refl), or_left (c == x) false same)
    | inr other ↦
        let had = cover_alone xs c (rest_has (c == x) (is_in xs c) other h) in
        let lt = had.1.1 in
        (had.0, (suc had.1.0, omega (arith, lt), had.1.2), had.2)
  ]

  pub regions_cover : Cover (regions_at apart classes k) classes
  regions_cover = closed_cover apart classes k (length (map (λ c. c ∷ []) classes)) (map (λ c. c ∷ []) classes) (cover_alone classes)

  pub regions_closed : AllClosed (regions_at apart classes k)
  regions_closed = closed_all (length (map (λ c. c ∷ []) classes)) (map (λ c. c ∷ []) classes) (omega arith) (cover_alone classes)

  module _ (distinct : IsDistinct (λ c d. c == d) classes) where
    pub grown_closed : (n : ℕ) (rs : List (List ℕ)) → Cover rs classes → AllClosed rs → Cover (grown_within apart classes k n rs) classes × AllClosed (grown_within apart classes k n rs)
    grown_closed zero rs cover h = subst (λ (xs : List (List ℕ)). Cover xs classes × AllClosed xs) (sym (grown_end apart classes k rs)) (cover, h)
    grown_closed (suc n) rs cover h =
        let joined = after_join classes rs 0 1 in
        elim (cases_Bool (must_grow classes k rs)) [
          | inl must ↦
              let parts = and_parts (nat_lt k (length classes)) (not (list_any (λ r. is_large k r) rs)) must in
              let t = two apart classes k distinct (ltb-true k (length classes) parts.0) rs cover (not-true (list_any (λ r. is_large k r) rs) parts.1) in
              let c = cover_join apart classes k rs 0 1 (omega (arith, t)) (omega (arith, t)) (λ e. omega (arith, e)) cover in
              subst (λ (xs : List (List ℕ)). Cover xs classes × AllClosed xs) (sym (grown_step apart classes k n rs must)) (grown_closed n (closed apart classes k joined) (closed_cover apart classes k (length joined) joined c) (closed_all (length joined) joined (omega arith) c))
          | inr done ↦ subst (λ (xs : List (List ℕ)). Cover xs classes × AllClosed xs) (sym (grown_stays apart classes k (suc n) rs done)) (cover, h)
        ]
