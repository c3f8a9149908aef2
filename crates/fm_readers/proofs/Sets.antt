-- Literals put behind others, each once.
use Rattle.std.proofs.Common.{◌≡◌, ◌⊎◌, Bool, true, false, not, cond, List, [], ◌∷◌, ◌++◌, inl, inr, refl, sym, ap, subst, ◌∙◌}
use Rattle.std.specs.List.{list_any}
use Rattle.std.proofs.lemmas.Bool.{and_from, and_parts, false≢true}
use mathlib.Core.Bool.{beq}
use Rattle.fm_base.specs.Resolution.{AreDistinct, Has}
use Rattle.fm_base.proofs.Resolution.{has_mapped, mapped_has}
use Rattle.fm_bank.specs.Interning.{first_places, is_same_atom, is_same_literal, with_literal}
use Rattle.fm_bank.specs.declared.literal.Literal.{Literal}
use Rattle.fm_bank.proofs.Atoms.{is_same_atom-refl, same_atom}
use Rattle.fm_rounds.proofs.Members.{any_in, in_any, in_either, in_left}
use Rattle.fm_steps.specs.Content.{opposites}
use Rattle.fm_steps.proofs.Lists.{Has-end, distinct_push, only_one}

same_sign : (a b : Bool) → beq a b ≡ true → a ≡ b
same_sign true true e = refl
same_sign true false e = absurd (cc e)
same_sign false true e = absurd (cc e)
same_sign false false e = refl

beq-refl : (a : Bool) → beq a a ≡ true
beq-refl true = refl
beq-refl false = refl

same_literal : (k l : Literal) → is_same_literal k l ≡ true → k ≡ l
same_literal k l e =
    let p = and_parts (beq k.positive l.positive) (is_same_atom k.atom l.atom) e in
    let sign = same_sign k.positive l.positive p.0 in
    let atom = same_atom k.atom l.atom p.1 in
    λ i. record { positive = sign i; atom = atom i }

itself : (l : Literal) → is_same_literal l l ≡ true
itself l = and_from (beq l.positive l.positive) (is_same_atom l.atom l.atom) (beq-refl l.positive) (is_same_atom-refl l.atom)

kept_by : (b : Bool) (kept : List Literal) (l k : Literal) → Has kept k → Has (cond b kept (kept ++ l ∷ [])) k
kept_by true kept l k h = h
kept_by false kept l k h = in_left k kept (l ∷ []) h

pub kept_there : (kept : List Literal) (l k : Literal) → Has kept k → Has (with_literal kept l) k
kept_there kept l k h = kept_by (list_any (is_same_literal l) kept) kept l k h

put_by : (b : Bool) (kept : List Literal) (l : Literal) → list_any (is_same_literal l) kept ≡ b → Has (cond b kept (kept ++ l ∷ [])) l
put_by true kept l e = (let w = any_in (is_same_literal l) kept e in subst (Has kept) (sym (same_literal l w.0 w.2)) w.1)
put_by false kept l e = Has-end kept l

pub put_there : (kept : List Literal) (l : Literal) → Has (with_literal kept l) l
put_there kept l = put_by (list_any (is_same_literal l) kept) kept l refl

from_by : (b : Bool) (kept : List Literal) (l k : Literal) → Has (cond b kept (kept ++ l ∷ [])) k → Has kept k ⊎ (l ≡ k)
from_by true kept l k h = inl h
from_by false kept l k h = elim (in_either k kept (l ∷ []) h) [ inl q ↦ inl q | inr r ↦ inr (only_one l k r) ]

pub with_from : (kept : List Literal) (l k : Literal) → Has (with_literal kept l) k → Has kept k ⊎ (l ≡ k)
with_from kept l k h = from_by (list_any (is_same_literal l) kept) kept l k h

distinct_by : (b : Bool) (kept : List Literal) (l : Literal) → list_any (is_same_literal l) kept ≡ b → AreDistinct kept → AreDistinct (cond b kept (kept ++ l ∷ []))
distinct_by true kept l e d = d
distinct_by false kept l e d = distinct_push kept l d (λ h. false≢true (sym e ∙ in_any (is_same_literal l) kept l h (itself l)))

pub distinct_with : (kept : List Literal) (l : Literal) → AreDistinct kept → AreDistinct (with_literal kept l)
distinct_with kept l d = distinct_by (list_any (is_same_literal l) kept) kept l refl d

pub stays : (ls kept : List Literal) (k : Literal) → Has kept k → Has (first_places kept ls) k
stays [] kept k h = h
stays (l ∷ ls) kept k h = stays ls (with_literal kept l) k (kept_there kept l k h)

pub all_placed : (ls kept : List Literal) (k : Literal) → Has ls k → Has (first_places kept ls) k
all_placed [] kept k h = absurd h
all_placed (l ∷ ls) kept k (inl e) = stays ls (with_literal kept l) k (subst (Has (with_literal kept l)) e (put_there kept l))
all_placed (l ∷ ls) kept k (inr h) = all_placed ls (with_literal kept l) k h

pub distinct_places : (ls kept : List Literal) → AreDistinct kept → AreDistinct (first_places kept ls)
distinct_places [] kept d = d
distinct_places (l ∷ ls) kept d = distinct_places ls (with_literal kept l) (distinct_with kept l d)

abbrev pub opposite : Literal → Literal
opposite l = record { positive = not l.positive; atom = l.atom }

pub not-not : (b : Bool) → not (not b) ≡ b
not-not true = refl
not-not false = refl

pub twice : (l : Literal) → opposite (opposite l) ≡ l
twice l = λ i. record { positive = not-not l.positive i; atom = l.atom }

pub opposite_has : (ls : List Literal) (l : Literal) → Has ls l → Has (opposites ls) (opposite l)
opposite_has ls l h = has_mapped opposite ls l h

pub has_opposite : (ls : List Literal) (k : Literal) → Has (opposites ls) k → Has ls (opposite k)
has_opposite ls k h = (let w = mapped_has opposite ls k h in subst (Has ls) (sym (twice w.lit) ∙ ap opposite w.is) w.has)

pub opposites_part : (xs ys : List Literal) → ((l : Literal) → Has xs l → Has ys l) → (k : Literal) → Has (opposites xs) k → Has (opposites ys) k
opposites_part xs ys part k h = (let back = opposite_has ys (opposite k) (part (opposite k) (has_opposite xs k h)) in subst (Has (opposites ys)) (twice k) back)
