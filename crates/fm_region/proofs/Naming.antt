-- Regions of classes by place, and the same regions once each class has its name: closing and growing don't see the names.
use Rattle.std.proofs.Common.{◌≡◌, ℕ, zero, suc, ◌+◌, ◌-◌, ◌<◌, Bool, true, false, cond, not, ◌&&◌, ◌||◌, List, [], ◌∷◌, ◌++◌, drop, length, map, take, min, max, Option, Some, None, inl, inr, refl, sym, subst, ap, ◌∙◌, arith}
use Rattle.std.specs.Prelude.{◌==◌, nat_le, nat_lt, slice_set}
use Rattle.std.specs.List.{IsDistinct, count_by, filter, find, list_all, list_any, range_with_len, remove}
use Rattle.std.proofs.lemmas.Bool.{and_parts, cases_Bool, eq-eqb, eqb-true, false≢true, or_cases, or_left, or_right}
use Rattle.std.proofs.lemmas.List.{drop-map, length-map, map-append, map-set, take-map}
use Rattle.std.proofs.lemmas.List.Quantifiers.{position-Some}
use Rattle.std.proofs.lemmas.List.Sums.{length-filter}
use Rattle.fm_bank.specs.Regions.{Cover, after_join, after_meeting, after_opening, apart_outside, closed, closed_within, count_apart, first_open, first_touching, grown_within, is_closed_at, is_in, is_large, joined, must_grow, region_at, touches}
use Rattle.fm_region.proofs.Members.{filter_from, first_in}
use Rattle.fm_region.proofs.Searching.{found, position_at, position_none, same_bool}
use Rattle.fm_region.proofs.Covering.{closed_cover, closing_keeps, cover_join}
use Rattle.fm_region.proofs.Ends.{none_passes}
use Rattle.fm_region.proofs.Joining.{join_at}
use Rattle.fm_region.proofs.Stages.{grown_end, grown_stays, grown_step, two_there}

pub later_in : (x : ℕ) (xs : List ℕ) (c : ℕ) → is_in xs c ≡ true → is_in (x ∷ xs) c ≡ true
later_in x xs c h = or_right (c == x) (is_in xs c) h

pub all_same : (p q : ℕ → Bool) (xs : List ℕ) → ((x : ℕ) → p x ≡ q x) → list_all p xs ≡ list_all q xs
all_same p q [] e = refl
all_same p q (x ∷ xs) e = ap (λ b. b && list_all p xs) (e x) ∙ ap (λ b. q x && b) (all_same p q xs e)

pub find_same : (p q : ℕ → Bool) (xs : List ℕ) → ((x : ℕ) → p x ≡ q x) → find p xs ≡ find q xs
find_same p q [] e = refl
find_same p q (x ∷ xs) e = ap (λ b. cond b (Some x) (find p xs)) (e x) ∙ ap (λ o. cond (q x) (Some x) o) (find_same p q xs e)

same_by : (a b : Bool) (x : ℕ) (ys zs : List ℕ) → a ≡ b → ys ≡ zs → cond a (x ∷ ys) ys ≡ cond b (x ∷ zs) zs
same_by a b x ys zs e h = ap (λ c. cond c (x ∷ ys) ys) e ∙ ap (λ ws. cond b (x ∷ ws) ws) h

pub filter_same : (p q : ℕ → Bool) (xs : List ℕ) → ((c : ℕ) → is_in xs c ≡ true → p c ≡ q c) → filter p xs ≡ filter q xs
filter_same p q [] e = refl
filter_same p q (x ∷ xs) e = same_by (p x) (q x) x (filter p xs) (filter q xs) (e x (first_in x xs)) (filter_same p q xs (λ c h. e c (later_in x xs c h)))

pub map_remove : {X Y : Type 0} → (g : X → Y) (xs : List X) (i : ℕ) → map g (remove xs i) ≡ remove (map g xs) i
map_remove g xs i =
    map-append g (take i xs) (drop (suc i) xs)
    ∙ (ap (λ ys. ys ++ map g (drop (suc i) xs)) (sym (take-map g i xs)) ∙ ap (λ ys. take i (map g xs) ++ ys) (sym (drop-map g (suc i) xs)))

module _ (f : ℕ → ℕ) where
  pub at_named : (rs : List (List ℕ)) (i : ℕ) → region_at (map (map f) rs) i ≡ map f (region_at rs i)
  at_named [] i = refl
  at_named (r ∷ rs) zero = refl
  at_named (r ∷ rs) (suc i) = at_named rs i

  pub any_named : (p q : ℕ → Bool) (xs : List ℕ) → ((c : ℕ) → is_in xs c ≡ true → p (f c) ≡ q c) → list_any p (map f xs) ≡ list_any q xs
  any_named p q [] e = refl
  any_named p q (x ∷ xs) e = ap (λ b. b || list_any p (map f xs)) (e x (first_in x xs)) ∙ ap (λ b. q x || b) (any_named p q xs (λ c h. e c (later_in x xs c h)))

  filter_by : (a b : Bool) (x : ℕ) (ys xs : List ℕ) → a ≡ b → ys ≡ map f xs → cond a (f x ∷ ys) ys ≡ map f (cond b (x ∷ xs) xs)
  filter_by true true x ys xs e h = ap (λ zs. f x ∷ zs) h
  filter_by true false x ys xs e h = absurd (false≢true (sym e))
  filter_by false true x ys xs e h = absurd (false≢true e)
  filter_by false false x ys xs e h = h

  pub filter_named : (p q : ℕ → Bool) (xs : List ℕ) → ((c : ℕ) → is_in xs c ≡ true → p (f c) ≡ q c) → filter p (map f xs) ≡ map f (filter q xs)
  filter_named p q [] e = refl
  filter_named p q (x ∷ xs) e = filter_by (p (f x)) (q x) x (filter p (map f xs)) (filter q xs) (e x (first_in x xs)) (filter_named p q xs (λ c h. e c (later_in x xs c h)))

  pub count_named : (p q : ℕ → Bool) (xs : List ℕ) → ((c : ℕ) → is_in xs c ≡ true → p (f c) ≡ q c) → count_by p (map f xs) ≡ count_by q xs
  count_named p q xs e = sym (length-filter p (map f xs)) ∙ (ap length (filter_named p q xs e) ∙ (length-map (filter q xs) f ∙ length-filter q xs))

  pub in_map : (xs : List ℕ) (y : ℕ) → is_in (map f xs) y ≡ true → (c : ℕ) × (is_in xs c ≡ true) × (y ≡ f c)
  in_map [] y h = absurd (false≢true h)
  in_map (x ∷ xs) y h = elim (or_cases (y == f x) (is_in (map f xs) y) h) [
    | inl same ↦ (x, first_in x xs, eqb-true y (f x) same)
    | inr rest ↦ let r = in_map xs y rest in (r.0, later_in x xs r.0 r.1, r.2)
  ]

  pub map_in : (xs : List ℕ) (c : ℕ) → is_in xs c ≡ true → is_in (map f xs) (f c) ≡ true
  map_in [] c h = absurd (false≢true h)
  map_in (x ∷ xs) c h = elim (or_cases (c == x) (is_in xs c) h) [
    | inl same ↦ or_left (f c == f x) (is_in (map f xs) (f c)) (eq-eqb (f c) (f x) (ap f (eqb-true c x same)))
    | inr rest ↦ or_right (f c == f x) (is_in (map f xs) (f c)) (map_in xs c rest)
  ]

  pub any_large : (k : ℕ) (rs : List (List ℕ)) → list_any (λ r. is_large k r) (map (map f) rs) ≡ list_any (λ r. is_large k r) rs
  any_large k [] = refl
  any_large k (r ∷ rs) = ap (λ (n : ℕ). nat_lt k n || list_any (λ r. is_large k r) (map (map f) rs)) (length-map r f) ∙ ap (λ b. is_large k r || b) (any_large k rs)

module _ (f : ℕ → ℕ) (near apart : ℕ → ℕ → Bool) (classes : List ℕ) (k : ℕ) (one : (c d : ℕ) → is_in classes c ≡ true → is_in classes d ≡ true → f c ≡ f d → c ≡ d) (same : (c d : ℕ) → is_in classes c ≡ true → is_in classes d ≡ true → apart (f c) (f d) ≡ near c d) where
  abbrev Within : List ℕ → Type 0
  Within r = (c : ℕ) → is_in r c ≡ true → is_in classes c ≡ true

  abbrev pub AllWithin : List (List ℕ) → Type 0
  AllWithin rs = (i : ℕ) → Within (region_at rs i)

  in_named : (r : List ℕ) → Within r → (c : ℕ) → is_in classes c ≡ true → is_in (map f r) (f c) ≡ is_in r c
  in_named r within c h = same_bool (is_in (map f r) (f c)) (is_in r c)
      (λ t. let m = in_map f r (f c) t in subst (λ (d : ℕ). is_in r d ≡ true) (sym (one c m.0 h (within m.0 m.1) m.2)) m.1)
      (λ t. map_in f r c t)

  outside_named : (r : List ℕ) → Within r → (c : ℕ) → is_in classes c ≡ true → apart_outside apart (map f classes) (map f r) (f c) ≡ apart_outside near classes r c
  outside_named r within c h =
      count_named f (λ d. not (is_in (map f r) d) && apart (f c) d) (λ d. not (is_in r d) && near c d) classes
      (λ d g. ap (λ b. not b && apart (f c) (f d)) (in_named r within d g) ∙ ap (λ b. not (is_in r d) && b) (same c d h g))

  count_apart_named : (r : List ℕ) → Within r → (many : ℕ) → count_apart apart (map f classes) (map f r) many ≡ count_apart near classes r many
  count_apart_named r within many =
      count_named f (λ c. nat_le many (apart_outside apart (map f classes) (map f r) c)) (λ c. nat_le many (apart_outside near classes r c)) r
      (λ c h. ap (nat_le many) (outside_named r within c (within c h)))

  closed_at_named : (r : List ℕ) → Within r → is_closed_at apart (map f classes) k (map f r) ≡ is_closed_at near classes k r
  closed_at_named r within =
      all_same (λ a. nat_lt (count_apart apart (map f classes) (map f r) (k + 1 - a)) a) (λ a. nat_lt (count_apart near classes r (k + 1 - a)) a) (range_with_len 1 k)
      (λ a. ap (λ (n : ℕ). nat_lt n a) (count_apart_named r within (k + 1 - a)))

  touches_named : (r s : List ℕ) → Within r → Within s → touches apart (map f r) (map f s) ≡ touches near r s
  touches_named r s wr ws =
      any_named f (λ c. list_any (λ d. apart c d) (map f s)) (λ c. list_any (λ d. near c d) s) r
      (λ c h. any_named f (λ d. apart (f c) d) (λ d. near c d) s (λ d g. same c d (wr c h) (ws d g)))

  joined_named : (r s : List ℕ) → Within r → Within s → joined (map f classes) (map f r) (map f s) ≡ map f (joined classes r s)
  joined_named r s wr ws =
      filter_named f (λ c. is_in (map f r) c || is_in (map f s) c) (λ c. is_in r c || is_in s c) classes
      (λ c h. ap (λ b. b || is_in (map f s) (f c)) (in_named r wr c h) ∙ ap (λ b. is_in r c || b) (in_named s ws c h))

  join_named : (rs : List (List ℕ)) → AllWithin rs → (i j : ℕ) → after_join (map f classes) (map (map f) rs) i j ≡ map (map f) (after_join classes rs i j)
  join_named rs within i j =
      let both = joined classes (region_at rs i) (region_at rs j) in
      let e : joined (map f classes) (region_at (map (map f) rs) i) (region_at (map (map f) rs) j) ≡ map f both =
      ap (λ (r : List ℕ). joined (map f classes) r (region_at (map (map f) rs) j)) (at_named f rs i)
      ∙ (ap (λ (r : List ℕ). joined (map f classes) (map f (region_at rs i)) r) (at_named f rs j) ∙ joined_named (region_at rs i) (region_at rs j) (within i) (within j)) in
      ap (λ (r : List ℕ). remove (slice_set (map (map f) rs) (min i j) r) (max i j)) e
      ∙ (ap (λ (xs : List (List ℕ)). remove xs (max i j)) (sym (map-set (map f) rs (min i j) both)) ∙ sym (map_remove (map f) (slice_set rs (min i j) both) (max i j)))

  within_join : (rs : List (List ℕ)) (i j : ℕ) → i < length rs → j < length rs → (i ≡ j → ⊥) → AllWithin rs → AllWithin (after_join classes rs i j)
  within_join rs i j il jl ne within m =
      let both = joined classes (region_at rs i) (region_at rs j) in
      elim (join_at classes rs i j il jl ne m) [
        | inl at ↦ subst Within (sym at.1) (λ c h. (filter_from (λ z. is_in (region_at rs i) z || is_in (region_at rs j) z) classes c h).0)
        | inr at ↦ subst Within (sym at.stays) (within at.from)
      ]

  open_by : (rs : List (List ℕ)) → AllWithin rs → (o : Option ℕ) → first_open near classes k rs ≡ o → first_open apart (map f classes) k (map (map f) rs) ≡ o
  open_by rs within None h =
      let p : List ℕ → Bool = λ r. not (is_closed_at apart (map f classes) k r) in
      let q : List ℕ → Bool = λ r. not (is_closed_at near classes k r) in
      let long = length-map rs (map f) in
      position_none p (map (map f) rs) [] (λ m lt. ap p (at_named f rs m) ∙ (ap not (closed_at_named (region_at rs m) (within m)) ∙ none_passes q rs [] h m (omega (arith, lt, long))))
  open_by rs within (Some i) h =
      let p : List ℕ → Bool = λ r. not (is_closed_at apart (map f classes) k r) in
      let e : (m : ℕ) → p (region_at (map (map f) rs) m) ≡ not (is_closed_at near classes k (region_at rs m)) = λ m. ap p (at_named f rs m) ∙ ap not (closed_at_named (region_at rs m) (within m)) in
      let s = position-Some (λ r. not (is_closed_at near classes k r)) rs i [] h in
      let long = length-map rs (map f) in
      position_at p (map (map f) rs) i [] (let lt = s.0 in omega (arith, lt, long)) (e i ∙ s.1) (λ m lt. e m ∙ s.2 m lt)

  open_named : (rs : List (List ℕ)) → AllWithin rs → first_open apart (map f classes) k (map (map f) rs) ≡ first_open near classes k rs
  open_named rs within = open_by rs within (first_open near classes k rs) refl

  touching_named : (rs : List (List ℕ)) → AllWithin rs → (i : ℕ) → first_touching apart (map (map f) rs) i ≡ first_touching near rs i
  touching_named rs within i =
      let p : ℕ → Bool = λ j. not (j == i) && touches apart (region_at (map (map f) rs) i) (region_at (map (map f) rs) j) in
      let q : ℕ → Bool = λ j. not (j == i) && touches near (region_at rs i) (region_at rs j) in
      ap (λ (n : ℕ). find p (range_with_len 0 n)) (length-map rs (map f))
      ∙ find_same p q (range_with_len 0 (length rs)) (λ j. ap (λ b. not (j == i) && b)
      (ap (λ (r : List ℕ). touches apart r (region_at (map (map f) rs) j)) (at_named f rs i) ∙ (ap (λ (r : List ℕ). touches apart (map f (region_at rs i)) r) (at_named f rs j) ∙ touches_named (region_at rs i) (region_at rs j) (within i) (within j))))

  abbrev Named : (List (List ℕ) → List (List ℕ)) → (List (List ℕ) → List (List ℕ)) → Type 0
  Named onward by_place = (rs : List (List ℕ)) → AllWithin rs → onward (map (map f) rs) ≡ map (map f) (by_place rs)

  meeting : (onward by_place : List (List ℕ) → List (List ℕ)) → Named onward by_place → (rs : List (List ℕ)) → AllWithin rs → (i : ℕ) → i < length rs → (o : Option ℕ) → first_touching near rs i ≡ o → after_meeting (map f classes) onward (map (map f) rs) i o ≡ map (map f) (after_meeting classes by_place rs i o)
  meeting onward by_place go rs within i il None e = refl
  meeting onward by_place go rs within i il (Some j) e =
      let t = found (λ m. not (m == i) && touches near (region_at rs i) (region_at rs m)) 0 (length rs) j e in
      let below = t.below in
      let parts = and_parts (not (j == i)) (touches near (region_at rs i) (region_at rs j)) t.passes in
      ap onward (join_named rs within i j) ∙ go (after_join classes rs i j) (within_join rs i j il (omega (arith, below)) (λ same. false≢true (sym (ap not (eq-eqb j i (sym same))) ∙ parts.0)) within)

  opening : (onward by_place : List (List ℕ) → List (List ℕ)) → Named onward by_place → (rs : List (List ℕ)) → AllWithin rs → (o : Option ℕ) → first_open near classes k rs ≡ o → after_opening apart (map f classes) onward (map (map f) rs) o ≡ map (map f) (after_opening near classes by_place rs o)
  opening onward by_place go rs within None e = refl
  opening onward by_place go rs within (Some i) e =
      ap (after_meeting (map f classes) onward (map (map f) rs) i) (touching_named rs within i)
      ∙ meeting onward by_place go rs within i (position-Some (λ r. not (is_closed_at near classes k r)) rs i [] e).0 (first_touching near rs i) refl

  pub closed_named : (n : ℕ) → Named (closed_within apart (map f classes) k n) (closed_within near classes k n)
  unfolding closed_within
  closed_named zero rs within = refl
  closed_named (suc n) rs within =
      ap (after_opening apart (map f classes) (closed_within apart (map f classes) k n) (map (map f) rs)) (open_named rs within)
      ∙ opening (closed_within apart (map f classes) k n) (closed_within near classes k n) (closed_named n) rs within (first_open near classes k rs) refl

  pub closed_is_within : (n : ℕ) (rs : List (List ℕ)) → AllWithin rs → AllWithin (closed_within near classes k n rs)
  closed_is_within n rs within = closing_keeps near classes k AllWithin within_join n rs within

  grow_named : (rs : List (List ℕ)) → must_grow (map f classes) k (map (map f) rs) ≡ must_grow classes k rs
  grow_named rs = ap (λ (n : ℕ). nat_lt k n && not (list_any (λ r. is_large k r) (map (map f) rs))) (length-map classes f) ∙ ap (λ b. nat_lt k (length classes) && not b) (any_large f k rs)

  module _ (distinct : IsDistinct (λ c d. c == d) classes) where
    pub grown_named : (n : ℕ) (rs : List (List ℕ)) → Cover rs classes → AllWithin rs → grown_within apart (map f classes) k n (map (map f) rs) ≡ map (map f) (grown_within near classes k n rs)
    grown_named zero rs cover within = grown_end apart (map f classes) k (map (map f) rs) ∙ ap (map (map f)) (sym (grown_end near classes k rs))
    grown_named (suc n) rs cover within =
        elim (cases_Bool (must_grow classes k rs)) [
          | inl must ↦
              let two = two_there near classes k distinct rs cover must in
              let together = after_join classes rs 0 1 in
              let c = cover_join near classes k rs 0 1 (omega (arith, two)) (omega (arith, two)) (λ e. omega (arith, e)) cover in
              let w = within_join rs 0 1 (omega (arith, two)) (omega (arith, two)) (λ e. omega (arith, e)) within in
              let closes : closed apart (map f classes) k (after_join (map f classes) (map (map f) rs) 0 1) ≡ map (map f) (closed near classes k together) =
              ap (closed apart (map f classes) k) (join_named rs within 0 1) ∙ (ap (λ (m : ℕ). closed_within apart (map f classes) k m (map (map f) together)) (length-map together (map f)) ∙ closed_named (length together) together w) in
              grown_step apart (map f classes) k n (map (map f) rs) (grow_named rs ∙ must)
              ∙ (ap (grown_within apart (map f classes) k n) closes
              ∙ (grown_named n (closed near classes k together) (closed_cover near classes k (length together) together c) (closed_is_within (length together) together w)
              ∙ ap (map (map f)) (sym (grown_step near classes k n rs must))))
          | inr done ↦ grown_stays apart (map f classes) k (suc n) (map (map f) rs) (grow_named rs ∙ done) ∙ ap (map (map f)) (sym (grown_stays near classes k (suc n) rs done))
        ]
