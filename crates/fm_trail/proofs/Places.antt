-- Where an atom's entry stands, and what the table by atom says of it.
use Rattle.std.proofs.Common.{◌≡◌, ◌≢◌, ℕ, zero, suc, ◌<◌, Bool, true, false, cond, List, [], ◌∷◌, ◌++◌, length, Some, None, inl, inr, refl, sym, subst, ap, ◌∙◌, take, arith}
use Rattle.std.specs.Prelude.{◌==◌, ◌⊎◌, Option, slice_get, slice_set}
use Rattle.std.specs.Option.{option_map}
use Rattle.std.proofs.lemmas.Bool.{eqb-true, eqb-false}
use Rattle.fm_base.specs.declared.ids.AtomId.{AtomId}
use Rattle.fm_trail.specs.declared.entry.Entry.{Entry}
use Rattle.fm_trail.specs.Trail.{ArePlaced, HasOneEntry, place_of, value_of}

-- the entry at the place has the atom
pub record StandsAt (es : List Entry) (a : AtomId) (p : ℕ) : Type 0 where
  pub entry : Entry
  pub there : slice_get es p ≡ Some entry
  pub same : entry.lit.atom.0 ≡ a.0

behind : (e : Entry) (es : List Entry) (a : AtomId) (p : ℕ) → StandsAt es a p → StandsAt (e ∷ es) a (suc p)
behind e es a p s = record { entry = s.entry; there = s.there; same = s.same }

some_step : (e : Entry) (es : List Entry) (a : AtomId) (b : Bool) (r : Option ℕ) → (e.lit.atom.0 == a.0) ≡ b → ((q : ℕ) → r ≡ Some q → StandsAt es a q) → (p : ℕ) → cond b (Some 0) (option_map suc r) ≡ Some p → StandsAt (e ∷ es) a p
some_step e es a true r same rest p is =
    let first : 0 ≡ p = cc in
    subst (StandsAt (e ∷ es) a) first (record { entry = e; there = refl; same = eqb-true e.lit.atom.0 a.0 same })
some_step e es a false None same rest p is = absurd cc
some_step e es a false (Some q) same rest p is =
    let next : suc q ≡ p = cc in
    subst (StandsAt (e ∷ es) a) next (behind e es a q (rest q refl))

pub place_some : (es : List Entry) (a : AtomId) (p : ℕ) → place_of es a ≡ Some p → StandsAt es a p
place_some [] a p is = absurd cc
place_some (e ∷ es) a p is = some_step e es a (e.lit.atom.0 == a.0) (place_of es a) refl (place_some es a) p is

none_step : (e : Entry) (es : List Entry) (a : AtomId) (b : Bool) (r : Option ℕ) → (e.lit.atom.0 == a.0) ≡ b → (r ≡ None → (p : ℕ) (f : Entry) → slice_get es p ≡ Some f → f.lit.atom.0 ≢ a.0) → cond b (Some 0) (option_map suc r) ≡ None → (p : ℕ) (f : Entry) → slice_get (e ∷ es) p ≡ Some f → f.lit.atom.0 ≢ a.0
none_step e es a true r other rest is p f at = absurd cc
none_step e es a false (Some q) other rest is p f at = absurd cc
none_step e es a false None other rest is zero f at = λ same.
    let it : e ≡ f = cc in
    eqb-false e.lit.atom.0 a.0 other (ap (λ (g : Entry). g.lit.atom.0) it ∙ same)
none_step e es a false None other rest is (suc p) f at = rest refl p f at

pub place_none : (es : List Entry) (a : AtomId) → place_of es a ≡ None → (p : ℕ) (f : Entry) → slice_get es p ≡ Some f → f.lit.atom.0 ≢ a.0
place_none [] a is p f at = absurd cc
place_none (e ∷ es) a is p f at = none_step e es a (e.lit.atom.0 == a.0) (place_of es a) refl (place_none es a) is p f at

at_place : (es : List Entry) (places : List ℕ) (a : AtomId) (p : ℕ) → ArePlaced es places → StandsAt es a p → slice_get places a.0 ≡ Some p
at_place es places a p placed s = subst (λ (n : ℕ). slice_get places n ≡ Some p) s.same (placed p s.entry s.there)

found_in : (es : List Entry) (places : List ℕ) (a : AtomId) (p : ℕ) (r : Option ℕ) → place_of es a ≡ r → ArePlaced es places → StandsAt es a p → r ≡ Some p
found_in es places a p None is placed s = absurd (place_none es a is p s.entry s.there s.same)
found_in es places a p (Some q) is placed s =
    let here = at_place es places a p placed s in
    let first = at_place es places a q placed (place_some es a q is) in
    sym first ∙ here

-- an entry with the atom is the entry of the atom
pub found : (es : List Entry) (places : List ℕ) (a : AtomId) (p : ℕ) → ArePlaced es places → StandsAt es a p → Some p ≡ place_of es a
found es places a p placed s = sym (found_in es places a p (place_of es a) refl placed s)

absent_in : (es : List Entry) (places : List ℕ) (a : AtomId) (r : Option ℕ) → place_of es a ≡ r → ArePlaced es places → ((p : ℕ) → slice_get places a.0 ≡ Some p → StandsAt es a p → ⊥) → None ≡ r
absent_in es places a None is placed none = refl
absent_in es places a (Some q) is placed none =
    let s = place_some es a q is in
    absurd (none q (at_place es places a q placed s) s)

-- where the place in the table has no such entry, there is none
pub absent : (es : List Entry) (places : List ℕ) (a : AtomId) → ArePlaced es places → ((p : ℕ) → slice_get places a.0 ≡ Some p → StandsAt es a p → ⊥) → None ≡ place_of es a
absent es places a placed none = absent_in es places a (place_of es a) refl placed none

-- the value at a place that was found or not
abbrev pub value_at : List Entry → Option ℕ → Option Bool
value_at es None = None
value_at es (Some p) = option_map (λ (e : Entry). e.lit.positive) (slice_get es p)

value_next : (e : Entry) (es : List Entry) (b : Bool) (r : Option ℕ) → cond b (Some e.lit.positive) (value_at es r) ≡ value_at (e ∷ es) (cond b (Some 0) (option_map suc r))
value_next e es true r = refl
value_next e es false None = refl
value_next e es false (Some p) = refl

pub value_by_place : (es : List Entry) (a : AtomId) → value_of es a ≡ value_at es (place_of es a)
value_by_place [] a = refl
value_by_place (e ∷ es) a = ap (λ (v : Option Bool). cond (e.lit.atom.0 == a.0) (Some e.lit.positive) v) (value_by_place es a) ∙ value_next e es (e.lit.atom.0 == a.0) (place_of es a)

pub get_more : {X : Type 0} (xs ys : List X) (i : ℕ) (x : X) → slice_get xs i ≡ Some x → slice_get (xs ++ ys) i ≡ Some x
get_more [] ys i x is = absurd cc
get_more (y ∷ xs) ys zero x is = is
get_more (y ∷ xs) ys (suc i) x is = get_more xs ys i x is

-- a longer table tells the same
pub placed_more : (es : List Entry) (places more : List ℕ) → ArePlaced es places → ArePlaced es (places ++ more)
placed_more es places more placed i e at = get_more places more e.lit.atom.0 i (placed i e at)

value_none_in : (es : List Entry) (a : AtomId) (r : Option ℕ) → place_of es a ≡ r → value_at es r ≡ None → r ≡ None
value_none_in es a None is none = refl
value_none_in es a (Some p) is none =
    let s = place_some es a p is in
    let v : option_map (λ (e : Entry). e.lit.positive) (slice_get es p) ≡ Some s.entry.lit.positive = ap (option_map (λ (e : Entry). e.lit.positive)) s.there in
    absurd (let bad : Some s.entry.lit.positive ≡ None = sym v ∙ none in cc)

-- an atom without value has no entry
pub value_none : (es : List Entry) (a : AtomId) → value_of es a ≡ None → place_of es a ≡ None
value_none es a none = value_none_in es a (place_of es a) refl (sym (value_by_place es a) ∙ none)

pub get_push : {X : Type 0} (xs : List X) (y : X) (i : ℕ) (x : X) → slice_get (xs ++ y ∷ []) i ≡ Some x → (slice_get xs i ≡ Some x) ⊎ ((i ≡ length xs) × (y ≡ x))
get_push [] y zero x is = let same : y ≡ x = cc in inr (refl, same)
get_push [] y (suc i) x is = absurd cc
get_push (z ∷ xs) y zero x is = inl is
get_push (z ∷ xs) y (suc i) x is = elim (get_push xs y i x is) [ inl h ↦ inl h | inr h ↦ inr (ap suc h.0, h.1) ]

pub set_here : (xs : List ℕ) (i v : ℕ) → i < length xs → slice_get (slice_set xs i v) i ≡ Some v
set_here [] i v lt = absurd (omega arith)
set_here (x ∷ xs) zero v lt = refl
set_here (x ∷ xs) (suc i) v lt = set_here xs i v (omega arith)

pub set_there : (xs : List ℕ) (i j v : ℕ) → j ≢ i → slice_get (slice_set xs i v) j ≡ slice_get xs j
set_there [] i j v ne = refl
set_there (x ∷ xs) zero zero v ne = absurd (ne refl)
set_there (x ∷ xs) zero (suc j) v ne = refl
set_there (x ∷ xs) (suc i) zero v ne = refl
set_there (x ∷ xs) (suc i) (suc j) v ne = set_there xs i j v (λ e. ne (ap suc e))

-- one entry more, and its place in the table
pub placed_push : (es : List Entry) (places : List ℕ) (e : Entry) → ArePlaced es places → value_of es e.lit.atom ≡ None → e.lit.atom.0 < length places → ArePlaced (es ++ e ∷ []) (slice_set places e.lit.atom.0 (length es))
placed_push es places e placed open' lt i f at =
    elim (get_push es e i f at) [
      | inl h ↦ set_there places e.lit.atom.0 f.lit.atom.0 (length es) (place_none es e.lit.atom (value_none es e.lit.atom open') i f h) ∙ placed i f h
      | inr h ↦
          let n : e.lit.atom.0 ≡ f.lit.atom.0 = ap (λ (g : Entry). g.lit.atom.0) h.1 in
          subst (λ (a : ℕ). slice_get (slice_set places e.lit.atom.0 (length es)) a ≡ Some i) n (set_here places e.lit.atom.0 (length es) lt ∙ ap Some (sym h.0))
    ]

pub get_front : {X : Type 0} (xs : List X) (n i : ℕ) (x : X) → slice_get (take n xs) i ≡ Some x → (i < n) × (slice_get xs i ≡ Some x)
get_front xs zero i x is = absurd cc
get_front [] (suc n) i x is = absurd cc
get_front (y ∷ xs) (suc n) zero x is = (omega arith, is)
get_front (y ∷ xs) (suc n) (suc i) x is = let rest = get_front xs n i x is in (omega (arith, rest.0), rest.1)

-- fewer entries
pub placed_front : (es : List Entry) (places : List ℕ) (n : ℕ) → ArePlaced es places → ArePlaced (take n es) places
placed_front es places n placed i e at = placed i e (get_front es n i e at).1

pub one_entry : (es : List Entry) (places : List ℕ) → ArePlaced es places → HasOneEntry es
one_entry es places placed i j e f at at' same =
    let p = subst (λ (n : ℕ). slice_get places n ≡ Some i) same (placed i e at) in
    let q = placed j f at' in
    let s : Some i ≡ Some j = sym p ∙ q in
    cc
