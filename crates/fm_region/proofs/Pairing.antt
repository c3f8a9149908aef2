-- Rows by the pairs read.
use Rattle.std.proofs.Common.{◌≡◌, ◌⊎◌, ℕ, zero, suc, ◌<◌, Bool, true, false, ◌&&◌, ◌||◌, List, [], ◌∷◌, ◌++◌, length, Option, Some, None, inl, inr, refl, sym, subst, ap, ◌∙◌, arith}
use Rattle.std.specs.Prelude.{◌==◌}
use Rattle.std.specs.List.{All}
use Rattle.std.proofs.lemmas.Bool.{and_from, and_parts, cases_lt, eq-eqb, eqb-true, false≢true, or_cases, or_left, or_right}
use Rattle.std.proofs.lemmas.List.{length-map}
use Rattle.std.proofs.lemmas.List.Elements.{All-cons, All-nil}
use Rattle.fm_base.specs.declared.ids.SortId.{SortId}
use Rattle.fm_base.specs.declared.ids.TermId.{TermId}
use Rattle.fm_bank.specs.Closure.{AreApart, AreSides, Follows, Shape, object}
use Rattle.fm_bank.specs.Terms.{numbers}
use Rattle.fm_cong.specs.Facts.{pairs_of}
use Rattle.fm_cong.specs.Held.{AreEqual, Held}
use Rattle.fm_cells.specs.Ascending.{IsFound, is_in as is_term_in}
use Rattle.fm_cong.specs.Types.{AreOldest, IsOldest, IsOldestOf}
use Rattle.fm_bank.specs.Regions.{is_in}
use Rattle.fm_region.specs.Rows.{AreSeparate, IsPairBelow, IsPlaceOf, are_both, between, both_places, number_at}
use Rattle.fm_region.proofs.Ascending.{ascending_up, in_contains, up_at}
use Rattle.fm_region.proofs.Members.{first_in}
use Rattle.fm_region.proofs.Naming.{later_in}
use Rattle.fm_region.proofs.Pushes.{at_number}

pub follows_back : (shapes : List Shape) (facts : List (ℕ × ℕ)) (x y : ℕ) → Follows shapes facts x y → Follows shapes facts y x
follows_back shapes facts x y h = λ R c. c.symmetric x y (h R c)

pub follows_on : (shapes : List Shape) (facts : List (ℕ × ℕ)) (x y z : ℕ) → Follows shapes facts x y → Follows shapes facts y z → Follows shapes facts x z
follows_on shapes facts x y z h k = λ R c. c.transitive x y z (h R c) (k R c)

or_false : (a : Bool) → (a || false) ≡ a
or_false true = refl
or_false false = refl

-- more pairs
pub between_more : (ps qs : List (ℕ × ℕ)) (x y : ℕ) → between (ps ++ qs) x y ≡ (between ps x y || between qs x y)
between_more [] qs x y = refl
between_more (p ∷ ps) qs x y = ap (λ b. are_both p x y || b) (between_more ps qs x y) ∙ or_nested (are_both p x y) (between ps x y) (between qs x y)
  where
    or_nested : (a b c : Bool) → (a || (b || c)) ≡ ((a || b) || c)
    or_nested true b c = refl
    or_nested false b c = refl

pub between_one : (ps : List (ℕ × ℕ)) (p : ℕ × ℕ) (x y : ℕ) → between (ps ++ p ∷ []) x y ≡ (between ps x y || are_both p x y)
between_one ps p x y = between_more ps (p ∷ []) x y ∙ ap (λ b. between ps x y || b) (or_false (are_both p x y))

pub between_back : (ps : List (ℕ × ℕ)) (x y : ℕ) → between ps x y ≡ between ps y x
between_back [] x y = refl
between_back (p ∷ ps) x y = ap (λ b. b || between ps x y) (both_back (x == p.0) (y == p.1) (x == p.1) (y == p.0)) ∙ ap (λ b. are_both p y x || b) (between_back ps x y)
  where
    or_back : (a b : Bool) → (a || b) ≡ (b || a)
    or_back true true = refl
    or_back true false = refl
    or_back false true = refl
    or_back false false = refl

    and_back : (a b : Bool) → (a && b) ≡ (b && a)
    and_back true true = refl
    and_back true false = refl
    and_back false true = refl
    and_back false false = refl

    both_back : (a b c d : Bool) → ((a && b) || (c && d)) ≡ ((d && c) || (b && a))
    both_back a b c d = or_back (a && b) (c && d) ∙ (λ i. and_back c d i || and_back a b i)

-- what waits behind the pairs is of places, where what is found is
pub both_below : (count : ℕ) (a b : Option ℕ) → ((c : ℕ) → a ≡ Some c → c < count) → ((d : ℕ) → b ≡ Some d → d < count) → All (IsPairBelow count) (both_places a b)
both_below count None b ha hb = All-nil (IsPairBelow count)
both_below count (Some c) None ha hb = All-nil (IsPairBelow count)
both_below count (Some c) (Some d) ha hb = All-cons (IsPairBelow count) (c, d) [] (ha c refl, hb d refl) (All-nil (IsPairBelow count))

module _ (shapes : List Shape) (facts : List (ℕ × ℕ)) (p : ℕ × ℕ) (a b : ℕ) where
  abbrev pub Parts : Type 0
  Parts = AreSides shapes facts a b p ⊎ AreSides shapes facts b a p

  pub apart_more : (xs : List (ℕ × ℕ)) → AreApart shapes facts (xs ++ p ∷ []) a b → AreApart shapes facts xs a b ⊎ Parts
  apart_more [] (inl h) = inr h
  apart_more [] (inr h) = absurd h
  apart_more (x ∷ xs) (inl h) = inl (inl h)
  apart_more (x ∷ xs) (inr h) = elim (apart_more xs h) [ inl r ↦ inl (inr r) | inr s ↦ inr s ]

  pub apart_less : (xs : List (ℕ × ℕ)) → AreApart shapes facts xs a b ⊎ Parts → AreApart shapes facts (xs ++ p ∷ []) a b
  apart_less [] (inl h) = absurd h
  apart_less [] (inr h) = inl h
  apart_less (x ∷ xs) (inl (inl h)) = inl h
  apart_less (x ∷ xs) (inl (inr h)) = inr (apart_less xs (inl h))
  apart_less (x ∷ xs) (inr h) = inr (apart_less xs (inr h))

module _ (g : Held) (ns : List ℕ) (separate : AreSeparate g ns) where
  place_same : (s : ℕ) (o : Option ℕ) → IsPlaceOf g ns s o → (c : ℕ) → c < length ns → AreEqual g (object (number_at ns c)) (object s) → o ≡ Some c
  place_same s None is c lt e = absurd (is c lt e)
  place_same s (Some i) is c lt e =
      ap Some (separate i c is.0 lt (follows_on g.shapes (pairs_of g.facts) (object (number_at ns i)) (object s) (object (number_at ns c)) is.1 (follows_back g.shapes (pairs_of g.facts) (object (number_at ns c)) (object s) e)))

  module _ (p : ℕ × ℕ) where
    abbrev Sides : ℕ → ℕ → Type 0
    Sides x y = AreSides g.shapes (pairs_of g.facts) (number_at ns x) (number_at ns y) p

    pub both_to : (a b : Option ℕ) → IsPlaceOf g ns p.0 a → IsPlaceOf g ns p.1 b → (x y : ℕ) → between (both_places a b) x y ≡ true → Sides x y ⊎ Sides y x
    both_to None b ia ib x y h = absurd (false≢true h)
    both_to (Some c) None ia ib x y h = absurd (false≢true h)
    both_to (Some c) (Some d) ia ib x y h = elim (or_cases (x == c && y == d) (x == d && y == c) (sym (or_false (are_both (c, d) x y)) ∙ h)) [
      | inl one ↦
          let e = and_parts (x == c) (y == d) one in
          inl (subst (λ (n : ℕ). AreEqual g (object (number_at ns n)) (object p.0)) (sym (eqb-true x c e.0)) ia.1, subst (λ (n : ℕ). AreEqual g (object (number_at ns n)) (object p.1)) (sym (eqb-true y d e.1)) ib.1)
      | inr two ↦
          let e = and_parts (x == d) (y == c) two in
          inr (subst (λ (n : ℕ). AreEqual g (object (number_at ns n)) (object p.0)) (sym (eqb-true y c e.1)) ia.1, subst (λ (n : ℕ). AreEqual g (object (number_at ns n)) (object p.1)) (sym (eqb-true x d e.0)) ib.1)
    ]

    both_of : (x y : ℕ) → between (both_places (Some x) (Some y)) x y ≡ true
    both_of x y = or_false (are_both (x, y) x y) ∙ or_left (x == x && y == y) (x == y && y == x) (and_from (x == x) (y == y) (eq-eqb x x refl) (eq-eqb y y refl))

    both_swapped : (x y : ℕ) → between (both_places (Some y) (Some x)) x y ≡ true
    both_swapped x y = or_false (are_both (y, x) x y) ∙ or_right (x == y && y == x) (x == x && y == y) (and_from (x == x) (y == y) (eq-eqb x x refl) (eq-eqb y y refl))

    pub both_from : (a b : Option ℕ) → IsPlaceOf g ns p.0 a → IsPlaceOf g ns p.1 b → (x y : ℕ) → x < length ns → y < length ns → Sides x y ⊎ Sides y x → between (both_places a b) x y ≡ true
    both_from a b ia ib x y lx ly (inl h) =
        ap (λ (o : Option ℕ). between (both_places o b) x y) (place_same p.0 a ia x lx h.0) ∙ (ap (λ (o : Option ℕ). between (both_places (Some x) o) x y) (place_same p.1 b ib y ly h.1) ∙ both_of x y)
    both_from a b ia ib x y lx ly (inr h) =
        ap (λ (o : Option ℕ). between (both_places o b) x y) (place_same p.0 a ia y ly h.0) ∙ (ap (λ (o : Option ℕ). between (both_places (Some y) o) x y) (place_same p.1 b ib x lx h.1) ∙ both_swapped x y)

pub place_in : (ns : List ℕ) (i : ℕ) → i < length ns → is_in ns (number_at ns i) ≡ true
place_in [] i lt = absurd (omega (arith, lt))
place_in (x ∷ xs) zero lt = first_in x xs
place_in (x ∷ xs) (suc i) lt = later_in x xs (number_at xs i) (place_in xs i (omega (arith, lt)))

-- the oldest terms of classes are separate
pub oldest_separate : (g : Held) (sort : SortId) (terms : List TermId) → AreOldest g sort terms → AreSeparate g (numbers terms)
oldest_separate g sort terms old c d lc ld e =
    let ns = numbers terms in
    let up = ascending_up terms old.ascending in
    let is : (i : ℕ) → i < length ns → IsOldest g sort (record { 0 = number_at ns i }) = λ i lt. (old.oldest (record { 0 = number_at ns i })).0 (in_contains terms (number_at ns i) (place_in ns i lt)) in
    let low = (is c lc).first (number_at ns d) (is d ld).registered e in
    let high = (is d ld).first (number_at ns c) (is c lc).registered (follows_back g.shapes (pairs_of g.facts) (object (number_at ns c)) (object (number_at ns d)) e) in
    elim (cases_lt c d) [
      | inl lt ↦ absurd (let a = up_at ns up c d lt ld in omega (arith, a, high))
      | inr ge ↦ elim (cases_lt d c) [
        | inl lt ↦ absurd (let a = up_at ns up d c lt lc in omega (arith, a, low))
        | inr le ↦ omega (arith, ge, le)
      ]
    ]

pub below_place : (g : Held) (terms : List TermId) (t : ℕ) (c : Option ℕ) → IsPlaceOf g (numbers terms) t c → (n : ℕ) → c ≡ Some n → n < length terms
below_place g terms t None h n e = absurd (none_some n e)
  where
    none_some : (n : ℕ) → None ≡ Some n → ⊥
    none_some n e = cc
below_place g terms t (Some c) h n e = let lt = h.0 in omega (arith, lt, length-map terms (λ (u : TermId). u.0), some_same c n e)
  where
    some_same : (c n : ℕ) → Some c ≡ Some n → c ≡ n
    some_same c n e = cc

in_numbers : (terms : List TermId) (n : ℕ) → is_term_in terms n ≡ is_in (numbers terms) n
in_numbers [] n = refl
in_numbers (t ∷ terms) n = ap (λ b. (n == t.0) || b) (in_numbers terms n)

module _ (g : Held) (sort : SortId) (terms : List TermId) (old : AreOldest g sort terms) (t o : TermId) (is : IsOldestOf g t o) where
  -- the place of the oldest term of a class is that of the class
  pub found_place : (c : Option ℕ) → IsFound terms o.0 c → IsPlaceOf g (numbers terms) t.0 c
  found_place None off = λ c lt e.
      let ns = numbers terms in
      let facts = pairs_of g.facts in
      let u : TermId = record { 0 = number_at ns c } in
      let there = place_in ns c lt in
      let first = (old.oldest u).0 (in_contains terms u.0 there) in
      let low = first.first o.0 is.registered (follows_on g.shapes facts (object u.0) (object t.0) (object o.0) e is.equal) in
      let high = is.first u.0 first.registered (follows_back g.shapes facts (object u.0) (object t.0) e) in
      let same : u.0 ≡ o.0 = omega (arith, low, high) in
      false≢true (sym off ∙ (in_numbers terms o.0 ∙ subst (λ (n : ℕ). is_in ns n ≡ true) same there))
  found_place (Some c) h =
      let ns = numbers terms in
      let long = length-map terms (λ (u : TermId). u.0) in
      let lt = h.0 in
      let at : number_at ns c ≡ o.0 = at_number terms c o lt ∙ h.1 o in
      (omega (arith, lt, long), subst (λ (n : ℕ). AreEqual g (object n) (object t.0)) (sym at) (follows_back g.shapes (pairs_of g.facts) (object t.0) (object o.0) is.equal))
