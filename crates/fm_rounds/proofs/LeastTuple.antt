-- The first tuple that passes a test is the least one, and where there is none each fails it.
use Rattle.std.proofs.Common.{◌≡◌, ℕ, zero, suc, ◌+◌, ◌<◌, ◌≤◌, Bool, true, false, cond, List, [], ◌∷◌, length, map, Option, Some, None, refl, sym, subst, ap, ◌∙◌, arith, inl, inr}
use Rattle.std.specs.Option.{option_or}
use Rattle.std.specs.List.{find}
use Rattle.std.proofs.lemmas.Bool.{cases_lt, false≢true}
use Rattle.std.proofs.lemmas.List.Folds.{find-append}
use Rattle.fm_base.specs.Interpretations.{Reading}
use Rattle.fm_base.specs.Models.{IsElements}
use Rattle.fm_base.specs.declared.ids.SortId.{SortId}
use Rattle.fm_rounds.proofs.Orders.{precedes_cases}
use Rattle.fm_rounds.specs.Failing.{sizes_of}
use Rattle.fm_rounds.specs.Tuples.{from_first, precedes, tuples}

-- a tuple behind x, where there is one
abbrev pub behind : ℕ → Option (List ℕ) → Option (List ℕ)
behind x None = None
behind x (Some xs) = Some (x ∷ xs)

find_step : (p : List ℕ → Bool) (x : ℕ) (y : List ℕ) (o : Option (List ℕ)) (b : Bool) → cond b (Some (x ∷ y)) (behind x o) ≡ behind x (cond b (Some y) o)
find_step p x y o true = refl
find_step p x y o false = refl

pub find_map : (p : List ℕ → Bool) (x : ℕ) (ys : List (List ℕ)) → find p (map (λ zs. x ∷ zs) ys) ≡ behind x (find (λ zs. p (x ∷ zs)) ys)
find_map p x [] = refl
find_map p x (y ∷ ys) = ap (λ o. cond (p (x ∷ y)) (Some (x ∷ y)) o) (find_map p x ys) ∙ find_step p x y (find (λ zs. p (x ∷ zs)) ys) (p (x ∷ y))

abbrev pub Below : List ℕ → List ℕ → Type 0
Below [] [] = Unit {0}
Below [] (x ∷ xs) = ⊥
Below (n ∷ ns) [] = ⊥
Below (n ∷ ns) (x ∷ xs) = (x < n) × Below ns xs

-- what a search finds: nothing that passes, or the least that does
abbrev pub IsAnswer : (List ℕ → Bool) → List ℕ → Option (List ℕ) → Type 0
IsAnswer p ns None = (xs : List ℕ) → Below ns xs → p xs ≡ false
IsAnswer p ns (Some xs) = Below ns xs × (p xs ≡ true) × ((other : List ℕ) → Below ns other → precedes other xs ≡ true → p other ≡ false)

-- the same of the tuples whose first number is one of `k`, from `a` on
abbrev pub IsPart : (List ℕ → Bool) → List ℕ → ℕ → ℕ → Option (List ℕ) → Type 0
IsPart p ns a k None = (x : ℕ) (xs : List ℕ) → a ≤ x → x < a + k → Below ns xs → p (x ∷ xs) ≡ false
IsPart p ns a k (Some []) = ⊥
IsPart p ns a k (Some (x ∷ xs)) = (a ≤ x) × (x < a + k) × Below ns xs × (p (x ∷ xs) ≡ true) × ((y : ℕ) (ys : List ℕ) → a ≤ y → y < a + k → Below ns ys → precedes (y ∷ ys) (x ∷ xs) ≡ true → p (y ∷ ys) ≡ false)

module _ (p : List ℕ → Bool) (ns : List ℕ) where
  part_more : (a k : ℕ) (here rest : Option (List ℕ)) → IsAnswer (λ zs. p (a ∷ zs)) ns here → IsPart p ns (a + 1) k rest → IsPart p ns a (suc k) (option_or (behind a here) rest)
  part_more a k None None here rest = λ x xs le lt below.
      elim (cases_lt a x) [
        | inl less ↦ rest x xs (omega (arith, less)) (omega (arith, lt)) below
        | inr same ↦ subst (λ v. p (v ∷ xs) ≡ false) (omega (arith, same, le)) (here xs below)
      ]
  part_more a k None (Some []) here rest = absurd rest
  part_more a k None (Some (x ∷ xs)) here (low, high, below, holds, least) = (
    omega (arith, low),
    omega (arith, high),
    below,
    holds,
    λ y ys le lt under before. elim (cases_lt a y) [
      | inl less ↦ least y ys (omega (arith, less)) (omega (arith, lt)) under before
      | inr same ↦ subst (λ v. p (v ∷ ys) ≡ false) (omega (arith, same, le)) (here ys under)
    ],
  )
  part_more a k (Some xs) rest (below, holds, least) other = (
    omega arith,
    omega arith,
    below,
    holds,
    λ y ys le lt under before. elim (precedes_cases y a ys xs before) [
      | inl less ↦ absurd (omega (arith, less, le))
      | inr same ↦ subst (λ v. p (v ∷ ys) ≡ false) (sym same.0) (least ys under same.1)
    ],
  )

none_before : (p : List ℕ → Bool) (other : List ℕ) → Below [] other → precedes other [] ≡ true → p other ≡ false
none_before p [] below before = absurd (false≢true before)
none_before p (x ∷ xs) below before = absurd below

only_empty : (p : List ℕ → Bool) (xs : List ℕ) → Below [] xs → p [] ≡ false → p xs ≡ false
only_empty p [] below e = e
only_empty p (x ∷ xs) below e = absurd below

empty_is : (p : List ℕ → Bool) (b : Bool) → p [] ≡ b → IsAnswer p [] (cond b (Some []) None)
empty_is p true e = (tt, e, λ other below before. none_before p other below before)
empty_is p false e = λ xs below. only_empty p xs below e

part_is : (p : List ℕ → Bool) (ns : List ℕ) → ((q : List ℕ → Bool) → IsAnswer q ns (find q (tuples ns))) → (a k : ℕ) → IsPart p ns a k (find p (from_first ns a k))
part_is p ns ih a zero = λ x xs le lt below. absurd (omega (arith, le, lt))
part_is p ns ih a (suc k) =
    let e = find-append p (map (λ ys. a ∷ ys) (tuples ns)) (from_first ns (a + 1) k) ∙ ap (λ o. option_or o (find p (from_first ns (a + 1) k))) (find_map p a (tuples ns)) in
    subst (IsPart p ns a (suc k)) (sym e) (part_more p ns a k (find (λ zs. p (a ∷ zs)) (tuples ns)) (find p (from_first ns (a + 1) k)) (ih (λ zs. p (a ∷ zs))) (part_is p ns ih (a + 1) k))

none_whole : (p : List ℕ → Bool) (n : ℕ) (ns : List ℕ) → ((x : ℕ) (xs : List ℕ) → 0 ≤ x → x < 0 + n → Below ns xs → p (x ∷ xs) ≡ false) → (xs : List ℕ) → Below (n ∷ ns) xs → p xs ≡ false
none_whole p n ns h [] below = absurd below
none_whole p n ns h (x ∷ xs) (lt, below) = h x xs (omega arith) (omega (arith, lt)) below

least_whole : (p : List ℕ → Bool) (n : ℕ) (ns : List ℕ) (x : ℕ) (xs other : List ℕ) → ((y : ℕ) (ys : List ℕ) → 0 ≤ y → y < 0 + n → Below ns ys → precedes (y ∷ ys) (x ∷ xs) ≡ true → p (y ∷ ys) ≡ false) → Below (n ∷ ns) other → precedes other (x ∷ xs) ≡ true → p other ≡ false
least_whole p n ns x xs [] least under before = absurd under
least_whole p n ns x xs (y ∷ ys) least (lt, under) before = least y ys (omega arith) (omega (arith, lt)) under before

whole : (p : List ℕ → Bool) (n : ℕ) (ns : List ℕ) (o : Option (List ℕ)) → IsPart p ns 0 n o → IsAnswer p (n ∷ ns) o
whole p n ns None h = λ xs below. none_whole p n ns h xs below
whole p n ns (Some []) h = absurd h
whole p n ns (Some (x ∷ xs)) (low, high, below, holds, least) = ((omega (arith, high), below), holds, λ other under before. least_whole p n ns x xs other least under before)

pub first_tuple_is : (p : List ℕ → Bool) (ns : List ℕ) → IsAnswer p ns (find p (tuples ns))
first_tuple_is p [] = empty_is p (p []) refl
first_tuple_is p (n ∷ ns) = whole p n ns (find p (from_first ns 0 n)) (part_is p ns (λ q. first_tuple_is q ns) 0 n)

pub below_elements : (m : Reading) (ss : List SortId) (xs : List ℕ) → IsElements m ss xs → Below (sizes_of m ss) xs
below_elements m [] [] h = tt
below_elements m [] (x ∷ xs) h = absurd h
below_elements m (s ∷ ss) [] h = absurd h
below_elements m (s ∷ ss) (x ∷ xs) (lt, h) = (lt, below_elements m ss xs h)

pub elements_below : (m : Reading) (ss : List SortId) (xs : List ℕ) → Below (sizes_of m ss) xs → IsElements m ss xs
elements_below m [] [] h = tt
elements_below m [] (x ∷ xs) h = absurd h
elements_below m (s ∷ ss) [] h = absurd h
elements_below m (s ∷ ss) (x ∷ xs) (lt, h) = (lt, elements_below m ss xs h)

pub below_length : (ns xs : List ℕ) → Below ns xs → length xs ≡ length ns
below_length [] [] h = refl
below_length [] (x ∷ xs) h = absurd h
below_length (n ∷ ns) [] h = absurd h
below_length (n ∷ ns) (x ∷ xs) (lt, h) = omega (arith, below_length ns xs h)
