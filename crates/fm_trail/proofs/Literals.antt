-- Literals on a trail, by the places of their entries.
use Rattle.std.proofs.Common.{◌≡◌, ℕ, zero, suc, ◌<◌, ◌≤◌, Bool, true, false, not, cond, List, [], ◌∷◌, take, Some, None, refl, sym, subst, ap, ◌∙◌, arith}
use Rattle.std.specs.Prelude.{◌==◌, Option, slice_get}
use Rattle.std.specs.Option.{option_map}
use Rattle.std.proofs.lemmas.Bool.{false≢true}
use mathlib.Core.Bool.{beq}
use Rattle.fm_base.specs.declared.ids.AtomId.{AtomId}
use Rattle.fm_base.specs.declared.ids.Lit.{Lit}
use Rattle.fm_base.specs.Resolution.{opposite}
use Rattle.fm_trail.specs.declared.entry.Entry.{Entry}
use Rattle.fm_trail.specs.Trail.{AreLevelled, HasOneEntry, decisions_in, is_decided, is_false, is_value, level_on, place_of, value_of}
use Rattle.fm_trail.proofs.Places.{get_front, place_none, place_some, value_at, value_by_place}

pub same_atom : (a b : AtomId) → a.0 ≡ b.0 → a ≡ b
same_atom a b e = λ i. record { 0 = e i }

not-not : (b : Bool) → not (not b) ≡ b
not-not true = refl
not-not false = refl

pub opposite-opposite : (l : Lit) → opposite (opposite l) ≡ l
opposite-opposite l = λ i. record { atom = l.atom; positive = not-not l.positive i }

found_by : (es : List Entry) (a : AtomId) (p : ℕ) (e : Entry) (r : Option ℕ) → place_of es a ≡ r → HasOneEntry es → slice_get es p ≡ Some e → e.lit.atom.0 ≡ a.0 → r ≡ Some p
found_by es a p e None is once at same = absurd (place_none es a is p e at same)
found_by es a p e (Some q) is once at same =
    let s = place_some es a q is in
    let here : q ≡ p = once q p s.entry e s.there at (s.same ∙ sym same) in
    ap Some here

-- an entry with the atom stands at the atom's place
pub place_at : (es : List Entry) (a : AtomId) (p : ℕ) (e : Entry) → HasOneEntry es → slice_get es p ≡ Some e → e.lit.atom.0 ≡ a.0 → place_of es a ≡ Some p
place_at es a p e once at same = found_by es a p e (place_of es a) refl once at same

value_is : (es : List Entry) (a : AtomId) (p : ℕ) (e : Entry) → HasOneEntry es → slice_get es p ≡ Some e → e.lit.atom.0 ≡ a.0 → value_of es a ≡ Some e.lit.positive
value_is es a p e once at same = value_by_place es a ∙ (ap (value_at es) (place_at es a p e once at same) ∙ ap (option_map (λ (f : Entry). f.lit.positive)) at)

beq-refl : (b : Bool) → beq b b ≡ true
beq-refl true = refl
beq-refl false = refl

-- the opposite of an entry's literal is false
pub false_by : (es : List Entry) (p : ℕ) (e : Entry) → HasOneEntry es → slice_get es p ≡ Some e → is_false es (opposite e.lit) ≡ true
false_by es p e once at = ap (λ (v : Option Bool). is_value v (not (not e.lit.positive))) (value_is es e.lit.atom p e once at refl) ∙ (ap (λ (b : Bool). beq e.lit.positive b) (not-not e.lit.positive) ∙ beq-refl e.lit.positive)

-- a false literal is the opposite of an entry's literal
pub record IsFalseAt (es : List Entry) (l : Lit) (p : ℕ) : Type 0 where
  pub entry : Entry
  pub at : slice_get es p ≡ Some entry
  pub place : place_of es l.atom ≡ Some p
  pub is : opposite entry.lit ≡ l

same_sign : (a b : Bool) → beq a (not b) ≡ true → not a ≡ b
same_sign true true h = absurd (false≢true h)
same_sign true false h = refl
same_sign false true h = refl
same_sign false false h = absurd (false≢true h)

false_in : (es : List Entry) (l : Lit) (r : Option ℕ) → place_of es l.atom ≡ r → is_value (value_at es r) (not l.positive) ≡ true → (p : ℕ) × IsFalseAt es l p
false_in es l None is h = absurd (false≢true h)
false_in es l (Some p) is h =
    let s = place_some es l.atom p is in
    let v : is_value (Some s.entry.lit.positive) (not l.positive) ≡ true = subst (λ (v : Option Entry). is_value (option_map (λ (f : Entry). f.lit.positive) v) (not l.positive) ≡ true) s.there h in
    let sign = same_sign s.entry.lit.positive l.positive v in
    (p, record { entry = s.entry; at = s.there; place = is; is = λ i. record { atom = same_atom s.entry.lit.atom l.atom s.same i; positive = sign i } })

pub false_at : (es : List Entry) (l : Lit) → is_false es l ≡ true → (p : ℕ) × IsFalseAt es l p
false_at es l h = false_in es l (place_of es l.atom) refl (subst (λ (v : Option Bool). is_value v (not l.positive) ≡ true) (value_by_place es l.atom) h)

-- false by an earlier entry
pub false_before : (es : List Entry) (n : ℕ) (l : Lit) → HasOneEntry es → is_false (take n es) l ≡ true → (p : ℕ) × (p < n) × IsFalseAt es l p
false_before es n l once h =
    let f = false_at (take n es) l h in
    let there = get_front es n f.0 f.1.entry f.1.at in
    let same : f.1.entry.lit.atom.0 ≡ l.atom.0 = ap (λ (k : Lit). k.atom.0) f.1.is in
    (f.0, there.0, record { entry = f.1.entry; at = there.1; place = place_at es l.atom f.0 f.1.entry once there.1 same; is = f.1.is })

level_step : (e : Entry) (es : List Entry) (l : Lit) (b : Bool) (r : Option ℕ) (p : ℕ) (f : Entry) → ((q : ℕ) → r ≡ Some q → slice_get es q ≡ Some f → level_on es l ≡ f.level) → cond b (Some 0) (option_map suc r) ≡ Some p → slice_get (e ∷ es) p ≡ Some f → cond b e.level (level_on es l) ≡ f.level
level_step e es l true r p f rest is at =
    let zero' : 0 ≡ p = cc in
    let here : slice_get (e ∷ es) 0 ≡ Some f = subst (λ (n : ℕ). slice_get (e ∷ es) n ≡ Some f) (sym zero') at in
    let it : e ≡ f = cc in
    ap (λ (g : Entry). g.level) it
level_step e es l false None p f rest is at = absurd cc
level_step e es l false (Some q) p f rest is at =
    let next : suc q ≡ p = cc in
    rest q refl (subst (λ (n : ℕ). slice_get (e ∷ es) n ≡ Some f) (sym next) at)

pub level_by_place : (es : List Entry) (l : Lit) (p : ℕ) (f : Entry) → place_of es l.atom ≡ Some p → slice_get es p ≡ Some f → level_on es l ≡ f.level
level_by_place [] l p f is at = absurd cc
level_by_place (e ∷ es) l p f is at = level_step e es l (e.lit.atom.0 == l.atom.0) (place_of es l.atom) p f (λ q. level_by_place es l q f) is at

-- the level of a literal is that of the entry with its atom
pub level_at : (es : List Entry) (l : Lit) (p : ℕ) (f : Entry) → HasOneEntry es → slice_get es p ≡ Some f → f.lit.atom.0 ≡ l.atom.0 → level_on es l ≡ f.level
level_at es l p f once at same = level_by_place es l p f (place_at es l.atom p f once at same) at

pub level_from : (n : ℕ) (es : List Entry) (p : ℕ) (f : Entry) → AreLevelled n es → slice_get es p ≡ Some f → n ≤ f.level
level_from n [] p f h at = absurd cc
level_from n (e ∷ es) zero f h at = let it : e ≡ f = cc in omega (arith, h.0, ap (λ (g : Entry). g.level) it)
level_from n (e ∷ es) (suc p) f h at = omega (arith, h.0, level_from e.level es p f h.1 at)

-- levels ascend
pub levels_ascend : (n : ℕ) (es : List Entry) (p q : ℕ) (e f : Entry) → AreLevelled n es → p ≤ q → slice_get es p ≡ Some e → slice_get es q ≡ Some f → e.level ≤ f.level
levels_ascend n [] p q e f h le at at' = absurd cc
levels_ascend n (d ∷ es) zero zero e f h le at at' = let it : e ≡ f = cc in omega (arith, ap (λ (g : Entry). g.level) it)
levels_ascend n (d ∷ es) zero (suc q) e f h le at at' = let it : d ≡ e = cc in omega (arith, ap (λ (g : Entry). g.level) it, level_from d.level es q f h.1 at')
levels_ascend n (d ∷ es) (suc p) zero e f h le at at' = absurd (omega arith)
levels_ascend n (d ∷ es) (suc p) (suc q) e f h le at at' = levels_ascend d.level es p q e f h.1 (omega arith) at at'

level_above : (n : ℕ) (es : List Entry) (q : ℕ) (f : Entry) → AreLevelled n es → slice_get es q ≡ Some f → is_decided f.why ≡ true → n < f.level
level_above n [] q f h at dec = absurd cc
level_above n (e ∷ es) zero f h at dec =
    let it : e ≡ f = cc in
    let one : decisions_in e ≡ 1 = ap decisions_in it ∙ ap (λ (b : Bool). cond b 1 0) dec in
    omega (arith, h.0, one, ap (λ (g : Entry). g.level) it)
level_above n (e ∷ es) (suc q) f h at dec = omega (arith, h.0, level_above e.level es q f h.1 at dec)

-- a decision is the first entry of its level
pub decision_first : (n : ℕ) (es : List Entry) (p q : ℕ) (e f : Entry) → AreLevelled n es → p < q → slice_get es p ≡ Some e → slice_get es q ≡ Some f → is_decided f.why ≡ true → e.level < f.level
decision_first n [] p q e f h lt at at' dec = absurd cc
decision_first n (d ∷ es) zero zero e f h lt at at' dec = absurd (omega arith)
decision_first n (d ∷ es) zero (suc q) e f h lt at at' dec = let it : d ≡ e = cc in omega (arith, ap (λ (g : Entry). g.level) it, level_above d.level es q f h.1 at' dec)
decision_first n (d ∷ es) (suc p) zero e f h lt at at' dec = absurd (omega arith)
decision_first n (d ∷ es) (suc p) (suc q) e f h lt at at' dec = decision_first d.level es p q e f h.1 (omega arith) at at' dec

-- no decision is of level 0
pub none_decided : (es : List Entry) (q : ℕ) (f : Entry) → AreLevelled 0 es → slice_get es q ≡ Some f → f.level ≡ 0 → is_decided f.why ≡ true → ⊥
none_decided es q f h at zero' dec = let more = level_above 0 es q f h at dec in absurd (omega arith)

none_level : (e : Entry) (es : List Entry) (l : Lit) (b : Bool) (r : Option ℕ) → (r ≡ None → level_on es l ≡ 0) → cond b (Some 0) (option_map suc r) ≡ None → cond b e.level (level_on es l) ≡ 0
none_level e es l true r rest is = absurd cc
none_level e es l false None rest is = rest refl
none_level e es l false (Some q) rest is = absurd cc

pub level_none : (es : List Entry) (l : Lit) → place_of es l.atom ≡ None → level_on es l ≡ 0
level_none [] l is = refl
level_none (e ∷ es) l is = none_level e es l (e.lit.atom.0 == l.atom.0) (place_of es l.atom) (level_none es l) is
