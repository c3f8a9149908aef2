-- What going on and going back means for literals: the entries of the levels up to one are a front of the trail.
use Rattle.std.proofs.Common.{◌≡◌, ℕ, zero, suc, ◌+◌, ◌<◌, ◌≤◌, Bool, true, false, cond, List, [], ◌∷◌, ◌++◌, map, take, Some, None, inl, inr, refl, sym, subst, ap, ◌∙◌, arith}
use Rattle.std.specs.Prelude.{◌==◌, Option, slice_get, nat_le}
use Rattle.std.specs.List.{range_with_len}
use Rattle.std.proofs.lemmas.Bool.{cases_Bool, leb-true, leb-false, lt-leb, le-leb}
use Rattle.std.proofs.lemmas.List.{take-map}
use Rattle.fm_base.specs.declared.ids.Lit.{Lit}
use Rattle.fm_trail.specs.declared.entry.Entry.{Entry}
use Rattle.fm_trail.specs.Trail.{AreLevelled, HasOneEntry, decision, decisions_in, implied, is_decided, is_false, level_of, level_on, levels_of, place_of, up_to, value_of}
use Rattle.fm_trail.proofs.Places.{get_front, place_some, value_at, value_by_place}
use Rattle.fm_trail.proofs.Literals.{IsFalseAt, false_by, level_from}
use Rattle.fm_trail.proofs.Levels.{up_to_none}

pub get_back : {X : Type 0} (xs : List X) (n i : ℕ) (x : X) → i < n → slice_get xs i ≡ Some x → slice_get (take n xs) i ≡ Some x
get_back xs zero i x lt at = absurd (omega arith)
get_back [] (suc n) i x lt at = absurd cc
get_back (y ∷ xs) (suc n) zero x lt at = at
get_back (y ∷ xs) (suc n) (suc i) x lt at = get_back xs n i x (omega arith) at

pub once_front : (es : List Entry) (n : ℕ) → HasOneEntry es → HasOneEntry (take n es)
once_front es n once i j e f at at' same = once i j e f (get_front es n i e at).1 (get_front es n j f at').1 same

-- the levels up to one are a front
pub record IsFront (es : List Entry) (level : ℕ) : Type 0 where
  pub end : ℕ
  pub is : up_to level es ≡ take end es
  pub inside : (q : ℕ) (e : Entry) → slice_get es q ≡ Some e → e.level ≤ level → q < end
  pub outside : (q : ℕ) (e : Entry) → slice_get es q ≡ Some e → level < e.level → end ≤ q

front_more : (e : Entry) (es : List Entry) (level : ℕ) → e.level ≤ level → IsFront es level → IsFront (e ∷ es) level
front_more e es level le f = record {
  end = suc f.end;
  is = ap (λ (b : Bool). cond b (e ∷ up_to level es) (up_to level es)) (le-leb e.level level le) ∙ ap (λ (xs : List Entry). e ∷ xs) f.is;
  inside = inside;
  outside = outside;
}
  where
    inside : (q : ℕ) (d : Entry) → slice_get (e ∷ es) q ≡ Some d → d.level ≤ level → q < suc f.end
    inside zero d at small = omega arith
    inside (suc q) d at small = omega (arith, f.inside q d at small)

    outside : (q : ℕ) (d : Entry) → slice_get (e ∷ es) q ≡ Some d → level < d.level → suc f.end ≤ q
    outside zero d at big = let it : e ≡ d = cc in let eq = ap (λ (g : Entry). g.level) it in absurd (omega arith)
    outside (suc q) d at big = omega (arith, f.outside q d at big)

front_none : (n : ℕ) (e : Entry) (es : List Entry) (level : ℕ) → AreLevelled n (e ∷ es) → level < e.level → IsFront (e ∷ es) level
front_none n e es level h lt = record {
  end = 0;
  is = ap (λ (b : Bool). cond b (e ∷ up_to level es) (up_to level es)) (lt-leb e.level level lt) ∙ up_to_none e.level level es h.1 lt;
  inside = inside;
  outside = λ q d at big. omega arith;
}
  where
    inside : (q : ℕ) (d : Entry) → slice_get (e ∷ es) q ≡ Some d → d.level ≤ level → q < 0
    inside zero d at small = let it : e ≡ d = cc in let eq = ap (λ (g : Entry). g.level) it in absurd (omega arith)
    inside (suc q) d at small = let more = level_from e.level es q d h.1 at in absurd (omega arith)

pub front_of : (n : ℕ) (es : List Entry) (level : ℕ) → AreLevelled n es → IsFront es level
front_of n [] level h = record { end = 0; is = refl; inside = λ q e at small. absurd cc; outside = λ q e at big. omega arith }
front_of n (e ∷ es) level h =
    elim (cases_Bool (nat_le e.level level)) [
      | inl low ↦ front_more e es level (leb-true e.level level low) (front_of e.level es level h.1)
      | inr high ↦ front_none n e es level h (leb-false e.level level high)
    ]

-- a literal that is false by an entry of a front is false on the front
pub false_front : (es : List Entry) (n : ℕ) (l : Lit) (q : ℕ) → HasOneEntry es → IsFalseAt es l q → q < n → is_false (take n es) l ≡ true
false_front es n l q once f lt = subst (λ (k : Lit). is_false (take n es) k ≡ true) f.is (false_by (take n es) q f.entry (once_front es n once) (get_back es n q f.entry lt f.at))

none_in : (es : List Entry) (n : ℕ) (l : Lit) (r : Option ℕ) → place_of (take n es) l.atom ≡ r → ((q : ℕ) (e : Entry) → slice_get es q ≡ Some e → e.lit.atom.0 ≡ l.atom.0 → n ≤ q) → value_at (take n es) r ≡ None
none_in es n l None is far = refl
none_in es n l (Some q) is far =
    let s = place_some (take n es) l.atom q is in
    let at = get_front es n q s.entry s.there in
    let le = far q s.entry at.1 s.same in
    let lt = at.0 in
    absurd (omega arith)

-- a literal whose entry is behind the front has no value on it
pub open_front : (es : List Entry) (n : ℕ) (l : Lit) → ((q : ℕ) (e : Entry) → slice_get es q ≡ Some e → e.lit.atom.0 ≡ l.atom.0 → n ≤ q) → value_of (take n es) l.atom ≡ None
open_front es n l far = value_by_place (take n es) l.atom ∙ none_in es n l (place_of (take n es) l.atom) refl far

pub level_most : (n : ℕ) (es : List Entry) (p : ℕ) (f : Entry) → AreLevelled n es → slice_get es p ≡ Some f → f.level ≤ n + level_of es
level_most n [] p f h at = absurd cc
level_most n (e ∷ es) zero f h at = let it : e ≡ f = cc in omega (arith, h.0, ap (λ (g : Entry). g.level) it)
level_most n (e ∷ es) (suc p) f h at = omega (arith, h.0, level_most e.level es p f h.1 at)

-- The content at each open level, as entries come.
up_to_push : (j : ℕ) (es : List Entry) (e : Entry) → j < e.level → up_to j (es ++ e ∷ []) ≡ up_to j es
up_to_push j [] e lt = ap (λ (b : Bool). cond b (e ∷ []) []) (lt-leb e.level j lt)
up_to_push j (d ∷ es) e lt = ap (λ (xs : List Entry). cond (nat_le d.level j) (d ∷ xs) xs) (up_to_push j es e lt)

pub up_to_all : (n j : ℕ) (es : List Entry) → AreLevelled n es → n + level_of es ≤ j → up_to j es ≡ es
up_to_all n j [] h le = refl
up_to_all n j (e ∷ es) h le =
    let small : e.level ≤ j = omega (arith, h.0) in
    ap (λ (b : Bool). cond b (e ∷ up_to j es) (up_to j es)) (le-leb e.level j small) ∙ ap (λ (xs : List Entry). e ∷ xs) (up_to_all e.level j es h.1 (omega (arith, h.0)))

pub level_push : (es : List Entry) (e : Entry) → level_of (es ++ e ∷ []) ≡ level_of es + decisions_in e
level_push [] e = omega arith
level_push (d ∷ es) e = omega (arith, level_push es e)

range_push : (a n : ℕ) → range_with_len a (n + 1) ≡ range_with_len a n ++ (a + n) ∷ []
range_push a zero = ap (λ (b : ℕ). b ∷ []) (omega arith)
range_push a (suc n) =
    let s : suc n + 1 ≡ suc (n + 1) = omega arith in
    let t : a + 1 + n ≡ a + suc n = omega arith in
    ap (range_with_len a) s ∙ ap (λ (xs : List ℕ). a ∷ xs) (range_push (a + 1) n ∙ ap (λ (b : ℕ). range_with_len (a + 1) n ++ b ∷ []) t)

map_same : (f g : ℕ → List Entry) (a n : ℕ) → ((j : ℕ) → j < a + n → f j ≡ g j) → map f (range_with_len a n) ≡ map g (range_with_len a n)
map_same f g a zero same = refl
map_same f g a (suc n) same = λ i. same a (omega arith) i ∷ map_same f g (a + 1) n (λ j lt. same j (omega arith)) i

map_last : (f : ℕ → List Entry) (xs : List ℕ) (x : ℕ) → map f (xs ++ x ∷ []) ≡ map f xs ++ f x ∷ []
map_last f [] x = refl
map_last f (y ∷ xs) x = ap (λ (zs : List (List Entry)). f y ∷ zs) (map_last f xs x)

-- a decision opens one level, and what stood there is its content
pub levels_decided : (es : List Entry) (l : Lit) → AreLevelled 0 es → levels_of (es ++ decision es l ∷ []) ≡ levels_of es ++ es ∷ []
levels_decided es l h =
    let e = decision es l in
    let n : level_of (es ++ e ∷ []) ≡ level_of es + 1 = level_push es e in
    let z : 0 + level_of es ≡ level_of es = omega arith in
    ap (λ (k : ℕ). map (λ j. up_to j (es ++ e ∷ [])) (range_with_len 0 k)) n ∙ (ap (map (λ j. up_to j (es ++ e ∷ []))) (range_push 0 (level_of es)) ∙ (map_last (λ j. up_to j (es ++ e ∷ [])) (range_with_len 0 (level_of es)) (0 + level_of es) ∙ λ i. map_same (λ j. up_to j (es ++ e ∷ [])) (λ j. up_to j es) 0 (level_of es) (λ j lt. up_to_push j es e (omega arith)) i ++ (up_to_push (0 + level_of es) es e (omega arith) ∙ up_to_all 0 (0 + level_of es) es h (omega arith)) i ∷ []))

pub levels_implied : (es : List Entry) (l : Lit) (c : ℕ) → levels_of (es ++ implied es l c ∷ []) ≡ levels_of es
levels_implied es l c =
    let e = implied es l c in
    let n : level_of (es ++ e ∷ []) ≡ level_of es = level_push es e ∙ omega arith in
    ap (λ (k : ℕ). map (λ j. up_to j (es ++ e ∷ [])) (range_with_len 0 k)) n ∙ map_same (λ j. up_to j (es ++ e ∷ [])) (λ j. up_to j es) 0 (level_of es) (λ j lt. up_to_push j es e (omega arith))

get_levels : (f : ℕ → List Entry) (a n i : ℕ) → i < n → slice_get (map f (range_with_len a n)) i ≡ Some (f (a + i))
get_levels f a zero i lt = absurd (omega arith)
get_levels f a (suc n) zero lt = let z : a ≡ a + 0 = omega arith in ap (λ (k : ℕ). Some (f k)) z
get_levels f a (suc n) (suc i) lt = let z : a + 1 + i ≡ a + suc i = omega arith in get_levels f (a + 1) n i (omega arith) ∙ ap (λ (k : ℕ). Some (f k)) z

-- the content at an open level
pub content_at : (es : List Entry) (level : ℕ) → level < level_of es → slice_get (levels_of es) level ≡ Some (up_to level es)
content_at es level lt = let z : 0 + level ≡ level = omega arith in get_levels (λ j. up_to j es) 0 (level_of es) level lt ∙ ap (λ (k : ℕ). Some (up_to k es)) z

one_most : (b : Bool) → cond b 1 0 ≤ 1
one_most true = omega arith
one_most false = omega arith

pub level_cut : (n level : ℕ) (es : List Entry) → AreLevelled n es → n ≤ level → level ≤ n + level_of es → n + level_of (up_to level es) ≡ level
level_cut n level [] h low high = omega arith
level_cut n level (e ∷ es) h low high =
    elim (cases_Bool (nat_le e.level level)) [
      | inl few ↦
          let le = leb-true e.level level few in
          let rest = level_cut e.level level es h.1 le (omega (arith, h.0)) in
          let cut : level_of (up_to level (e ∷ es)) ≡ decisions_in e + level_of (up_to level es) = ap (λ (b : Bool). level_of (cond b (e ∷ up_to level es) (up_to level es))) few in
          omega (arith, rest, cut, h.0)
      | inr many ↦
          let lt = leb-false e.level level many in
          let cut : level_of (up_to level (e ∷ es)) ≡ 0 = ap (λ (b : Bool). level_of (cond b (e ∷ up_to level es) (up_to level es))) many ∙ ap level_of (up_to_none e.level level es h.1 lt) in
          omega (arith, cut, h.0, one_most (is_decided e.why))
    ]

up_to_twice : (j level : ℕ) (es : List Entry) → j ≤ level → up_to j (up_to level es) ≡ up_to j es
up_to_twice j level [] le = refl
up_to_twice j level (e ∷ es) le =
    elim (cases_Bool (nat_le e.level level)) [
      | inl few ↦ ap (λ (b : Bool). up_to j (cond b (e ∷ up_to level es) (up_to level es))) few ∙ ap (λ (xs : List Entry). cond (nat_le e.level j) (e ∷ xs) xs) (up_to_twice j level es le)
      | inr many ↦
          let lt = leb-false e.level level many in
          ap (λ (b : Bool). up_to j (cond b (e ∷ up_to level es) (up_to level es))) many ∙ (up_to_twice j level es le ∙ sym (ap (λ (b : Bool). cond b (e ∷ up_to j es) (up_to j es)) (lt-leb e.level j (omega arith))))
    ]

take_range : (a n k : ℕ) → k ≤ n → take k (range_with_len a n) ≡ range_with_len a k
take_range a n zero le = refl
take_range a zero (suc k) le = absurd (omega arith)
take_range a (suc n) (suc k) le = ap (λ (xs : List ℕ). a ∷ xs) (take_range (a + 1) n k (omega arith))

-- going back to a level keeps the levels below
pub levels_back : (es : List Entry) (level : ℕ) → AreLevelled 0 es → level < level_of es → levels_of (up_to level es) ≡ take level (levels_of es)
levels_back es level h lt =
    let n : level_of (up_to level es) ≡ level = (let c = level_cut 0 level es h (omega arith) (omega arith) in omega arith) in
    ap (λ (k : ℕ). map (λ j. up_to j (up_to level es)) (range_with_len 0 k)) n ∙ (map_same (λ j. up_to j (up_to level es)) (λ j. up_to j es) 0 level (λ j less. up_to_twice j level es (omega arith)) ∙ (ap (map (λ j. up_to j es)) (sym (take_range 0 (level_of es) level (omega arith))) ∙ sym (take-map (λ j. up_to j es) level (range_with_len 0 (level_of es)))))

most_step : (e : Entry) (es : List Entry) (l : Lit) (n : ℕ) (b : Bool) → e.level ≡ n + decisions_in e → level_on es l ≤ e.level + level_of es → cond b e.level (level_on es l) ≤ n + (decisions_in e + level_of es)
most_step e es l n true is le = omega arith
most_step e es l n false is le = omega arith

-- no literal is above the present level
pub level_on_most : (n : ℕ) (es : List Entry) (l : Lit) → AreLevelled n es → level_on es l ≤ n + level_of es
level_on_most n [] l h = omega arith
level_on_most n (e ∷ es) l h = most_step e es l n (e.lit.atom.0 == l.atom.0) h.0 (level_on_most e.level es l h.1)
