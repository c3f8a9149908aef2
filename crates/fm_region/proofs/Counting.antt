-- How many classes one is apart from: outside a region, and in two regions that are joined.
use Rattle.std.proofs.Common.{◌≡◌, ℕ, ◌+◌, ◌-◌, ◌≤◌, Bool, true, false, cond, not, ◌&&◌, ◌||◌, List, [], ◌∷◌, length, map, inl, inr, refl, sym, ap, ◌∙◌, arith}
use Rattle.std.specs.Prelude.{nat_lt}
use Rattle.std.specs.List.{count_by, filter, list_any}
use Rattle.std.proofs.lemmas.Bool.{false≢true, lt-ltb, ltb-true, or_cases}
use Rattle.std.proofs.lemmas.List.Sums.{count_by-le-length, length-filter}
use Rattle.fm_region.specs.Parts.{IsPart, Up, apart_from, count_at}
use Rattle.fm_bank.specs.Regions.{apart_outside, is_in, joined, touches}
use Rattle.fm_region.proofs.Ascending.{same_up, up_filter}
use Rattle.fm_region.proofs.Cliques.{some_there}
use Rattle.fm_region.proofs.Members.{any_in, filter_from, filter_in, first_in, one_passes}
use Rattle.fm_region.proofs.Naming.{later_in}
use Rattle.fm_region.proofs.Searching.{same_bool}

split_by : (a b : Bool) (x : ℕ) (us vs ws : List ℕ) → length us + length vs ≡ length ws → length (cond (not a && b) (x ∷ us) us) + length (cond (a && b) (x ∷ vs) vs) ≡ length (cond b (x ∷ ws) ws)
split_by true true x us vs ws h = omega (arith, h)
split_by true false x us vs ws h = h
split_by false true x us vs ws h = omega (arith, h)
split_by false false x us vs ws h = h

split_lengths : (p q : ℕ → Bool) (xs : List ℕ) → length (filter (λ d. not (p d) && q d) xs) + length (filter (λ d. p d && q d) xs) ≡ length (filter q xs)
split_lengths p q [] = omega arith
split_lengths p q (x ∷ xs) = split_by (p x) (q x) x (filter (λ d. not (p d) && q d) xs) (filter (λ d. p d && q d) xs) (filter q xs) (split_lengths p q xs)

pub count_split : (p q : ℕ → Bool) (xs : List ℕ) → count_by (λ d. not (p d) && q d) xs + count_by (λ d. p d && q d) xs ≡ count_by q xs
count_split p q xs =
    let a = length-filter (λ d. not (p d) && q d) xs in
    let b = length-filter (λ d. p d && q d) xs in
    let c = length-filter q xs in
    let s = split_lengths p q xs in
    omega (arith, a, b, c, s)

filter_by : (q : ℕ → Bool) (a : Bool) (x : ℕ) (ys zs : List ℕ) → filter q ys ≡ zs → filter q (cond a (x ∷ ys) ys) ≡ cond (a && q x) (x ∷ zs) zs
filter_by q true x ys zs h = ap (λ ws. cond (q x) (x ∷ ws) ws) h
filter_by q false x ys zs h = h

filter_twice : (p q : ℕ → Bool) (xs : List ℕ) → filter q (filter p xs) ≡ filter (λ d. p d && q d) xs
filter_twice p q [] = refl
filter_twice p q (x ∷ xs) = filter_by q (p x) x (filter p xs) (filter (λ d. p d && q d) xs) (filter_twice p q xs)

pub count_filter : (p q : ℕ → Bool) (xs : List ℕ) → count_by q (filter p xs) ≡ count_by (λ d. p d && q d) xs
count_filter p q xs = sym (length-filter q (filter p xs)) ∙ (ap length (filter_twice p q xs) ∙ length-filter (λ d. p d && q d) xs)

either_by : (a b c : Bool) (x : ℕ) (us vs ws : List ℕ) → (a ≡ true → b ≡ true → ⊥) → length us ≡ length vs + length ws → length (cond ((a || b) && c) (x ∷ us) us) ≡ length (cond (a && c) (x ∷ vs) vs) + length (cond (b && c) (x ∷ ws) ws)
either_by true true c x us vs ws ne h = absurd (ne refl refl)
either_by true false true x us vs ws ne h = omega (arith, h)
either_by true false false x us vs ws ne h = h
either_by false true true x us vs ws ne h = omega (arith, h)
either_by false true false x us vs ws ne h = h
either_by false false c x us vs ws ne h = h

either_lengths : (p q r : ℕ → Bool) → ((d : ℕ) → p d ≡ true → q d ≡ true → ⊥) → (xs : List ℕ) → length (filter (λ d. (p d || q d) && r d) xs) ≡ length (filter (λ d. p d && r d) xs) + length (filter (λ d. q d && r d) xs)
either_lengths p q r ne [] = omega arith
either_lengths p q r ne (x ∷ xs) = either_by (p x) (q x) (r x) x (filter (λ d. (p d || q d) && r d) xs) (filter (λ d. p d && r d) xs) (filter (λ d. q d && r d) xs) (ne x) (either_lengths p q r ne xs)

le_by : (a b : Bool) (x : ℕ) (us vs : List ℕ) → (a ≡ true → b ≡ true) → length us ≤ length vs → length (cond a (x ∷ us) us) ≤ length (cond b (x ∷ vs) vs)
le_by true true x us vs e h = omega (arith, h)
le_by true false x us vs e h = absurd (false≢true (e refl))
le_by false true x us vs e h = omega (arith, h)
le_by false false x us vs e h = h

le_lengths : (p q : ℕ → Bool) (xs : List ℕ) → ((x : ℕ) → p x ≡ true → q x ≡ true) → length (filter p xs) ≤ length (filter q xs)
le_lengths p q [] e = omega arith
le_lengths p q (x ∷ xs) e = le_by (p x) (q x) x (filter p xs) (filter q xs) (e x) (le_lengths p q xs e)

pub count_le : (p q : ℕ → Bool) (xs : List ℕ) → ((x : ℕ) → p x ≡ true → q x ≡ true) → count_by p xs ≤ count_by q xs
count_le p q xs e =
    let a = length-filter p xs in
    let b = length-filter q xs in
    let l = le_lengths p q xs e in
    omega (arith, a, b, l)

pub map_on : (f g : ℕ → ℕ) (xs : List ℕ) → ((c : ℕ) → is_in xs c ≡ true → f c ≡ g c) → map f xs ≡ map g xs
map_on f g [] e = refl
map_on f g (x ∷ xs) e = ap (λ y. y ∷ map f xs) (e x (first_in x xs)) ∙ ap (λ ys. g x ∷ ys) (map_on f g xs (λ c h. e c (later_in x xs c h)))

pub any_from : (p : ℕ → Bool) (xs : List ℕ) → list_any p xs ≡ true → (c : ℕ) × (is_in xs c ≡ true) × (p c ≡ true)
any_from p [] h = absurd (false≢true h)
any_from p (x ∷ xs) h = elim (or_cases (p x) (list_any p xs) h) [
  | inl here ↦ (x, first_in x xs, here)
  | inr rest ↦ let r = any_from p xs rest in (r.0, later_in x xs r.0 r.1, r.2)
]

module _ (apart : ℕ → ℕ → Bool) (classes : List ℕ) (up : Up classes) where
  -- a region is a part of all classes
  pub part_is : (r : List ℕ) → IsPart classes r → r ≡ filter (λ d. is_in r d) classes
  part_is r p = same_up r (filter (λ d. is_in r d) classes) p.up (up_filter (λ d. is_in r d) classes up) (λ c h. filter_in (λ d. is_in r d) classes c (p.within c h) h) (λ c h. (filter_from (λ d. is_in r d) classes c h).1)

  counted_all : (r : List ℕ) → IsPart classes r → (q : ℕ → Bool) → count_by q r ≡ count_by (λ d. is_in r d && q d) classes
  counted_all r p q = ap (count_by q) (part_is r p) ∙ count_filter (λ d. is_in r d) q classes

  pub outside_count : (r : List ℕ) → IsPart classes r → (c : ℕ) → apart_from apart classes c - apart_from apart r c ≡ apart_outside apart classes r c
  outside_count r p c =
      let all = count_split (λ d. is_in r d) (λ d. apart c d) classes in
      let inside = counted_all r p (λ d. apart c d) in
      omega (arith, all, inside)

  pub joined_count : (a b : List ℕ) → IsPart classes a → IsPart classes b → ((d : ℕ) → is_in a d ≡ true → is_in b d ≡ true → ⊥) → (c : ℕ) → apart_from apart (joined classes a b) c ≡ apart_from apart a c + apart_from apart b c
  joined_count a b pa pb ne c =
      let q : ℕ → Bool = λ d. apart c d in
      let both = count_filter (λ d. is_in a d || is_in b d) q classes in
      let left = counted_all a pa q in
      let right = counted_all b pb q in
      let lengths = either_lengths (λ d. is_in a d) (λ d. is_in b d) q ne classes in
      let x = length-filter (λ d. (is_in a d || is_in b d) && q d) classes in
      let y = length-filter (λ d. is_in a d && q d) classes in
      let z = length-filter (λ d. is_in b d && q d) classes in
      omega (arith, both, left, right, lengths, x, y, z)

  pub joined_few : (a b : List ℕ) (c : ℕ) → apart_from apart (joined classes a b) c ≤ length classes
  joined_few a b c =
      let q : ℕ → Bool = λ d. apart c d in
      let both = count_filter (λ d. is_in a d || is_in b d) q classes in
      let few = count_by-le-length (λ d. (is_in a d || is_in b d) && q d) classes in
      omega (arith, both, few)

  -- a region touches another where some class of that one is apart from classes of it
  pub meets_is : (symmetric : (c d : ℕ) → is_in classes c ≡ true → is_in classes d ≡ true → apart c d ≡ apart d c) (r s : List ℕ) (inside : List ℕ) → IsPart classes r → IsPart classes s → ((c : ℕ) → is_in classes c ≡ true → count_at inside c ≡ apart_from apart r c) → list_any (λ d. nat_lt 0 (count_at inside d)) s ≡ touches apart r s
  meets_is symmetric r s inside pr ps counted =
      same_bool (list_any (λ d. nat_lt 0 (count_at inside d)) s) (touches apart r s)
      (λ h.
      let m = any_from (λ d. nat_lt 0 (count_at inside d)) s h in
      let d_in = ps.within m.0 m.1 in
      let many = ltb-true 0 (count_at inside m.0) m.2 in
      let is = counted m.0 d_in in
      let c = one_passes (λ c. apart m.0 c) r (omega (arith, many, is)) in
      any_in (λ c. list_any (λ d. apart c d) s) r c.0 c.1 (any_in (λ d. apart c.0 d) s m.0 m.1 (symmetric c.0 m.0 (pr.within c.0 c.1) d_in ∙ c.2)))
      (λ h.
      let c = any_from (λ c. list_any (λ d. apart c d) s) r h in
      let d = any_from (λ d. apart c.0 d) s c.2 in
      let d_in = ps.within d.0 d.1 in
      let one = some_there (filter (λ x. apart d.0 x) r) c.0 (filter_in (λ x. apart d.0 x) r c.0 c.1 (symmetric d.0 c.0 d_in (pr.within c.0 c.1) ∙ d.2)) in
      let is = counted d.0 d_in in
      let long = length-filter (λ x. apart d.0 x) r in
      any_in (λ d. nat_lt 0 (count_at inside d)) s d.0 d.1 (lt-ltb 0 (count_at inside d.0) (omega (arith, one, is, long))))
