-- Marks, and the sets that they stand for.
use Rattle.std.proofs.Common.{◌≡◌, ◌≢◌, ℕ, ◌+◌, ◌<◌, ◌⊎◌, inl, inr, Bool, true, false, not, ◌&&◌, ◌||◌, cond, List, [], ◌∷◌, ◌++◌, length, take, get_or, refl, sym, ap, subst, ◌∙◌, arith}
use Rattle.std.specs.Prelude.{◌==◌}
use Rattle.std.specs.List.{AllByRecursion, filter, list_any}
use Rattle.std.proofs.lemmas.Bool.{and_from, and_parts, cases_Bool, eq-eqb, eqb-true, both_ways, not-true, not_from_false, or_cases, or_left, or_right, false≢true, false_from_ne_true}
use Rattle.std.proofs.lemmas.List.{take_more}
use Rattle.std.proofs.lemmas.List.Folds.{list_any-append}
use mathlib.Core.Bool.{beq}
use Rattle.fm_base.specs.declared.ids.Lit.{Lit}
use Rattle.fm_resolve.specs.declared.marks.Mark.{Mark}
use Rattle.fm_resolve.specs.declared.marks.Marks.{Marks}
use Rattle.fm_resolve.specs.Chains.{Has, Resolves, opposite}
use Rattle.fm_resolve.specs.Marks.{Covers, HasMark, IsClean, SameMarks, is_in, is_member, is_member_but, is_never, is_on, is_same, mark_of, members}

beq-true : (a b : Bool) → beq a b ≡ true → a ≡ b
beq-true true true e = refl
beq-true true false e = sym e
beq-true false true e = e
beq-true false false e = refl

beq-refl : (a : Bool) → beq a a ≡ true
beq-refl true = refl
beq-refl false = refl

pub same_lit : (k l : Lit) → is_same k l ≡ true → k ≡ l
same_lit k l e =
    let p = and_parts (k.atom.0 == l.atom.0) (beq k.positive l.positive) e in
    let atom : k.atom.0 ≡ l.atom.0 = eqb-true k.atom.0 l.atom.0 p.0 in
    let positive : k.positive ≡ l.positive = beq-true k.positive l.positive p.1 in
    λ i. record { atom = record { 0 = atom i }; positive = positive i }

pub same_itself : (k : Lit) → is_same k k ≡ true
same_itself k = and_from (k.atom.0 == k.atom.0) (beq k.positive k.positive) (eq-eqb k.atom.0 k.atom.0 refl) (beq-refl k.positive)

pub same_from : (k l : Lit) → k ≡ l → is_same k l ≡ true
same_from k l e = ap (is_same k) (sym e) ∙ same_itself k

-- membership as a test
pub member_has : (lits : List Lit) (k : Lit) → is_member lits k ≡ true → Has lits k
member_has [] k e = absurd (false≢true e)
member_has (l ∷ lits) k e =
    elim (or_cases (is_same l k) (is_member lits k) e) [
      | inl here ↦ inl (same_lit l k here)
      | inr rest ↦ inr (member_has lits k rest)
    ]

pub has_member : (lits : List Lit) (k : Lit) → Has lits k → is_member lits k ≡ true
has_member [] k h = absurd h
has_member (l ∷ lits) k h =
    elim h [
      | inl e ↦ or_left (is_same l k) (is_member lits k) (same_from l k e)
      | inr rest ↦ or_right (is_same l k) (is_member lits k) (has_member lits k rest)
    ]

pub but_has : (lits : List Lit) (but k : Lit) → is_member_but lits but k ≡ true → Has lits k × (k ≢ but)
but_has [] but k e = absurd (false≢true e)
but_has (l ∷ lits) but k e =
    elim (or_cases (is_same l k && not (is_same l but)) (is_member_but lits but k) e) [
      | inl here ↦
          let p = and_parts (is_same l k) (not (is_same l but)) here in
          let same = same_lit l k p.0 in
          (inl same, λ (q : k ≡ but). both_ways (is_same l but) (not-true (is_same l but) p.1) (same_from l but (same ∙ q)))
      | inr rest ↦ let h = but_has lits but k rest in (inr h.0, h.1)
    ]

pub has_but : (lits : List Lit) (but k : Lit) → Has lits k → k ≢ but → is_member_but lits but k ≡ true
has_but [] but k h n = absurd h
has_but (l ∷ lits) but k h n =
    elim h [
      | inl e ↦ or_left (is_same l k && not (is_same l but)) (is_member_but lits but k) (and_from (is_same l k) (not (is_same l but)) (same_from l k e) (not_from_false (is_same l but) (false_from_ne_true (is_same l but) (λ (t : is_same l but ≡ true). n (sym e ∙ same_lit l but t)))))
      | inr rest ↦ or_right (is_same l k && not (is_same l but)) (is_member_but lits but k) (has_but lits but k rest n)
    ]

any_one : {X : Type 0} (p : X → Bool) (x : X) → (p x || false) ≡ p x
any_one p x = or_false (p x)
  where
    or_false : (b : Bool) → (b || false) ≡ b
    or_false true = refl
    or_false false = refl

pub any_more : {X : Type 0} (p : X → Bool) (xs : List X) (i : ℕ) (d : X) → i < length xs → list_any p (take (i + 1) xs) ≡ (list_any p (take i xs) || p (get_or xs i d))
any_more p xs i d lt = ap (list_any p) (take_more xs i d lt) ∙ (list_any-append p (take i xs) (get_or xs i d ∷ []) ∙ ap (λ (b : Bool). list_any p (take i xs) || b) (any_one p (get_or xs i d)))

or_again : (x y z w v : Bool) → v ≡ (x || y) → w ≡ (v || z) → w ≡ (x || (y || z))
or_again true y z w v e f = f ∙ ap (λ (b : Bool). b || z) e
or_again false y z w v e f = f ∙ ap (λ (b : Bool). b || z) e

-- one more literal is put in
pub more_in : (p : Lit → Bool) (lits : List Lit) (i : ℕ) (d : Lit) (start before now : Bool) → i < length lits → before ≡ (start || list_any p (take i lits)) → now ≡ (before || p (get_or lits i d)) → now ≡ (start || list_any p (take (i + 1) lits))
more_in p lits i d start before now lt e f = or_again start (list_any p (take i lits)) (p (get_or lits i d)) now before e f ∙ ap (λ (b : Bool). start || b) (sym (any_more p lits i d lt))

-- the members are what is in the set
kept_has : (p : Lit → Bool) (l : Lit) (ls : List Lit) (k : Lit) (b : Bool) → p l ≡ b → ((h : Has (filter p ls) k) → Has ls k × (p k ≡ true)) → Has (cond b (l ∷ filter p ls) (filter p ls)) k → ((l ≡ k) ⊎ Has ls k) × (p k ≡ true)
kept_has p l ls k true e rest h =
    elim h [
      | inl same ↦ (inl same, ap p (sym same) ∙ e)
      | inr more ↦ let r = rest more in (inr r.0, r.1)
    ]
kept_has p l ls k false e rest h = let r = rest h in (inr r.0, r.1)

filter_has : (p : Lit → Bool) (lits : List Lit) (k : Lit) → Has (filter p lits) k → Has lits k × (p k ≡ true)
filter_has p [] k h = absurd h
filter_has p (l ∷ lits) k h = kept_has p l lits k (p l) refl (filter_has p lits k) h

has_filter : (p : Lit → Bool) (lits : List Lit) (k : Lit) → Has lits k → p k ≡ true → Has (filter p lits) k
has_filter p [] k h e = absurd h
has_filter p (l ∷ lits) k h e =
    elim h [
      | inl same ↦ subst (λ (b : Bool). Has (cond b (l ∷ filter p lits) (filter p lits)) k) (sym (ap p same ∙ e)) (inl same)
      | inr rest ↦ put (p l) l (filter p lits) k (has_filter p lits k rest e)
    ]
  where
    put : (b : Bool) (l : Lit) (ls : List Lit) (k : Lit) → Has ls k → Has (cond b (l ∷ ls) ls) k
    put true l ls k h = inr h
    put false l ls k h = h

on_not_never : (m : Mark) → is_on m ≡ true → is_never m ≡ false
on_not_never Mark.Never e = sym e
on_not_never Mark.On e = refl
on_not_never Mark.Off e = refl

pub members_in : (m : Marks) (k : Lit) → Has (members m) k → is_in m k ≡ true
members_in m k h = (filter_has (is_in m) m.touched.items k h).1

pub in_members : (m : Marks) (k : Lit) → Covers m → is_in m k ≡ true → Has (members m) k
in_members m k c e = has_filter (is_in m) m.touched.items k (c k (on_not_never (mark_of m k) e)) e

-- a resolution by marks is one by sets
pub resolved : (old mid new : Marks) (lit : Lit) (other : List Lit) → Covers old → Covers new → is_in old lit ≡ true → ((k : Lit) → is_in mid k ≡ (is_in old k && not (is_same lit k))) → ((k : Lit) → is_in new k ≡ (is_in mid k || is_member_but other (opposite lit) k)) → is_member other (opposite lit) ≡ true → Resolves (members old) lit other (members new)
resolved old mid new lit other co cn on out in' found =
    record {
      stands = in_members old lit co on;
      against = member_has other (opposite lit) found;
      exactly = λ k. (
        (λ (h : Has (members new) k).
            elim (or_cases (is_in mid k) (is_member_but other (opposite lit) k) (sym (in' k) ∙ members_in new k h)) [
              | inl left ↦
                  let p = and_parts (is_in old k) (not (is_same lit k)) (sym (out k) ∙ left) in
                  inl (in_members old k co p.0, λ (q : k ≡ lit). both_ways (is_same lit k) (not-true (is_same lit k) p.1) (same_from lit k (sym q)))
              | inr right ↦ inr (but_has other (opposite lit) k right)
            ]),
        (λ (h : (Has (members old) k × (k ≢ lit)) ⊎ (Has other k × (k ≢ opposite lit))).
            in_members new k cn (in' k ∙ (elim h [
              | inl left ↦ or_left (is_in mid k) (is_member_but other (opposite lit) k) (out k ∙ and_from (is_in old k) (not (is_same lit k)) (members_in old k left.0) (not_from_false (is_same lit k) (false_from_ne_true (is_same lit k) (λ (t : is_same lit k ≡ true). left.1 (sym (same_lit lit k t))))))
              | inr right ↦ or_right (is_in mid k) (is_member_but other (opposite lit) k) (has_but other (opposite lit) k right.0 right.1)
            ]))),
      );
    }

-- everything is taken out
pub cleared : (old new : Marks) → Covers old → ((k : Lit) → is_never (mark_of new k) ≡ (is_never (mark_of old k) || is_member old.touched.items k)) → IsClean new
cleared old new c h k =
    elim (cases_Bool (is_never (mark_of old k))) [
      | inl t ↦ h k ∙ or_left (is_never (mark_of old k)) (is_member old.touched.items k) t
      | inr f ↦ h k ∙ or_right (is_never (mark_of old k)) (is_member old.touched.items k) (has_member old.touched.items k (c k f))
    ]

pub push_there : (old new : List Lit) (l : Lit) → new ≡ old ++ l ∷ [] → Has new l
push_there old new l e = subst (λ (ls : List Lit). Has ls l) (sym e) (last old l)
  where
    last : (old : List Lit) (l : Lit) → Has (old ++ l ∷ []) l
    last old l = member_has (old ++ l ∷ []) l (list_any-append (λ (x : Lit). is_same x l) old (l ∷ []) ∙ or_right (is_member old l) (is_same l l || false) (or_left (is_same l l) false (same_itself l)))

pub push_kept : (old new : List Lit) (l k : Lit) → new ≡ old ++ l ∷ [] → Has old k → Has new k
push_kept old new l k e h = member_has new k (ap (λ (ls : List Lit). is_member ls k) e ∙ (list_any-append (λ (x : Lit). is_same x k) old (l ∷ []) ∙ or_left (is_member old k) (is_same l k || false) (has_member old k h)))

pub marks_kept : (old new : Marks) (lits : List Lit) → SameMarks old new → AllByRecursion (HasMark old) lits → AllByRecursion (HasMark new) lits
marks_kept old new [] same h = tt
marks_kept old new (l ∷ lits) same h = ((omega (arith, same.positive, h.0.0), omega (arith, same.negative, h.0.1)), marks_kept old new lits same h.1)
