-- A watch that expects events agrees exactly with those that begin with them.
use Rattle.std.proofs.Common.{◌≡◌, ℕ, zero, suc, ◌≤◌, Bool, true, false, cond, List, [], ◌∷◌, ◌++◌, length, drop, Some, None, inl, inr, refl, sym, subst, ap, ◌∙◌, arith}
use Rattle.std.specs.Prelude.{Option, ◌↔◌, nat_le}
use Rattle.std.proofs.lemmas.Bool.{le-leb, leb-true}
use Rattle.fm_guide.specs.declared.event.Event.{Event}
use Rattle.fm_guide.specs.Watches.{AreAfter, IsFront}

-- once an event was another, nothing changes that
stays_none : (es : List Event) (left : Option (List Event)) → AreAfter es None left → left ≡ None
stays_none [] left h = h
stays_none (e ∷ es) left h = stays_none es left (subst (λ (m : Option (List Event)). AreAfter es m left) h.1 h.2)

-- and where nothing is waited for, nothing will be
stays_met : (es : List Event) (left : Option (List Event)) → AreAfter es (Some []) left → left ≡ Some []
stays_met [] left h = h
stays_met (e ∷ es) left h = stays_met es left (subst (λ (m : Option (List Event)). AreAfter es m left) h.1 h.2)

pub front_of : (first es : List Event) (left : Option (List Event)) → AreAfter es (Some first) left → left ≡ Some [] → IsFront first es
front_of [] es left h met = (es, refl)
front_of (f ∷ fs) [] left h met = let bad : Some (f ∷ fs) ≡ Some [] = sym h ∙ met in absurd cc
front_of (f ∷ fs) (e ∷ es) left h met =
    elim h.1 [
      | inl here ↦
          let rest = front_of fs es left (subst (λ (m : Option (List Event)). AreAfter es m left) here.1 h.2) met in
          (rest.0, λ i. sym here.0 i ∷ rest.1 i)
      | inr other ↦
          let none = stays_none es left (subst (λ (m : Option (List Event)). AreAfter es m left) other.1 h.2) in
          let bad : Some [] ≡ None = sym met ∙ none in
          absurd cc
    ]

pub met_by : (first es : List Event) (left : Option (List Event)) → AreAfter es (Some first) left → IsFront first es → left ≡ Some []
met_by [] es left h front = stays_met es left h
met_by (f ∷ fs) [] left h front = let bad = front.1 in absurd cc
met_by (f ∷ fs) (e ∷ es) left h front =
    let is : e ∷ es ≡ f ∷ (fs ++ front.0) = front.1 in
    let same : e ≡ f = cc is in
    let more : es ≡ fs ++ front.0 = cc is in
    elim h.1 [
      | inl here ↦ met_by fs es left (subst (λ (m : Option (List Event)). AreAfter es m left) here.1 h.2) (front.0, more)
      | inr other ↦ absurd (other.0 (sym same))
    ]

pub expected : (first es : List Event) (left : Option (List Event)) → AreAfter es (Some first) left → (left ≡ Some []) ↔ IsFront first es
expected first es left h = (front_of first es left h, met_by first es left h)

-- what is left after n of them is nothing exactly where there are no more than n
none_left : {X : Type 0} (n : ℕ) (xs : List X) → length xs ≤ n → drop n xs ≡ []
none_left zero [] le = refl
none_left zero (x ∷ xs) le = absurd (omega arith)
none_left (suc n) [] le = refl
none_left (suc n) (x ∷ xs) le = none_left n xs (omega arith)

few_left : {X : Type 0} (n : ℕ) (xs : List X) → drop n xs ≡ [] → length xs ≤ n
few_left zero [] is = omega arith
few_left zero (x ∷ xs) is = absurd cc
few_left (suc n) [] is = omega arith
few_left (suc n) (x ∷ xs) is = omega (arith, few_left n xs is)

pub all_met : (n : ℕ) (b : Bool) (es : List Event) (left : Option (List Event)) → b ≡ false → left ≡ cond b None (Some (drop n es)) → (nat_le (length es) n ≡ true) ↔ (left ≡ Some [])
all_met n true es left same is = absurd cc
all_met n false es left same is = (λ le. is ∙ ap (λ (xs : List Event). Some xs) (none_left n es (leb-true (length es) n le)), λ met. le-leb (length es) n (few_left n es (let s : Some (drop n es) ≡ Some [] = sym is ∙ met in cc s)))
