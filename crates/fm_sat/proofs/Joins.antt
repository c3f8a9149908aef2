-- Marks with those of a clause, literal by literal.
use Rattle.std.proofs.Common.{◌≡◌, ℕ, zero, suc, ◌+◌, ◌<◌, Bool, List, [], ◌∷◌, ◌++◌, length, get_or, take, Some, inl, inr, refl, sym, subst, ap, ◌∙◌, arith}
use Rattle.std.proofs.lemmas.List.{take_more}
use Rattle.fm_base.specs.declared.ids.Lit.{Lit}
use Rattle.fm_base.specs.Resolution.{Has}
use Rattle.fm_trail.specs.declared.entry.Entry.{Entry}
use Rattle.fm_trail.specs.Trail.{place_of}
use Rattle.fm_sat.specs.Marks.{AreJoined, AreLow, IsMarkedFrom, IsSeenIn}
use Rattle.fm_sat.proofs.Counted.{has_left, has_push, has_right}

pub has_at : {L : Type 0} (xs : List L) (i : ℕ) (d : L) → i < length xs → Has xs (get_or xs i d)
has_at [] i d lt = absurd (omega arith)
has_at (x ∷ xs) zero d lt = inl refl
has_at (x ∷ xs) (suc i) d lt = inr (has_at xs i d (omega arith))

seen_through : (es : List Entry) (xs ys : List Lit) (bound p : ℕ) → ((k : Lit) → Has xs k → Has ys k) → IsSeenIn es xs bound p → IsSeenIn es ys bound p
seen_through es xs ys bound p f s = record { lit = s.lit; has = f s.lit s.has; place = s.place; below = s.below }

one_of : {L : Type 0} (l k : L) → Has (l ∷ []) k → l ≡ k
one_of l k h = elim h [ inl here ↦ here | inr none ↦ absurd none ]

pub low_at : (es : List Entry) (lits : List Lit) (bound top i : ℕ) (d : Lit) → AreLow es lits bound top → i < length lits → AreLow es (get_or lits i d ∷ []) bound top
low_at es lits bound top i d low lt p s = low p (seen_through es (get_or lits i d ∷ []) lits bound p (λ k h. subst (Has lits) (one_of (get_or lits i d) k h) (has_at lits i d lt)) s)

pub joined_one : (es : List Entry) (l : Lit) (bound p : ℕ) (old new : List Bool) → place_of es l.atom ≡ Some p → p < bound → IsMarkedFrom old p new → AreJoined es (l ∷ []) bound old new
joined_one es l bound p old new is lt m q = (
  λ h. elim ((m q).0 h) [ inl was ↦ inl was | inr here ↦ inr (record { lit = l; has = inl refl; place = is ∙ ap Some (sym here); below = subst (λ (n : ℕ). n < bound) (sym here) lt }) ],
  λ h. elim h [
    | inl was ↦ (m q).1 (inl was)
    | inr s ↦
        let same = one_of l s.lit s.has in
        let here : Some p ≡ Some q = sym is ∙ (ap (λ (k : Lit). place_of es k.atom) same ∙ s.place) in
        let back : q ≡ p = cc in
        (m q).1 (inr back)
  ],
)

pub joined_not : (es : List Entry) (l : Lit) (bound : ℕ) (old : List Bool) → ((p : ℕ) → place_of es l.atom ≡ Some p → p < bound → ⊥) → AreJoined es (l ∷ []) bound old old
joined_not es l bound old none q = (λ h. inl h, λ h. elim h [ inl was ↦ was | inr s ↦ absurd (none q (ap (λ (k : Lit). place_of es k.atom) (one_of l s.lit s.has) ∙ s.place) s.below) ])

pub joined_nil : (es : List Entry) (bound : ℕ) (old : List Bool) → AreJoined es [] bound old old
joined_nil es bound old q = (λ h. inl h, λ h. elim h [ inl was ↦ was | inr s ↦ absurd s.has ])

joined_then : (es : List Entry) (xs : List Lit) (l : Lit) (bound : ℕ) (old mid new : List Bool) → AreJoined es xs bound old mid → AreJoined es (l ∷ []) bound mid new → AreJoined es (xs ++ l ∷ []) bound old new
joined_then es xs l bound old mid new a b q = (
  λ h. elim ((b q).0 h) [
    | inl was ↦ elim ((a q).0 was) [ inl first ↦ inl first | inr s ↦ inr (seen_through es xs (xs ++ l ∷ []) bound q (λ k. has_left xs (l ∷ []) k) s) ]
    | inr s ↦ inr (seen_through es (l ∷ []) (xs ++ l ∷ []) bound q (λ k. has_right xs (l ∷ []) k) s)
  ],
  λ h. elim h [
    | inl first ↦ (b q).1 (inl ((a q).1 (inl first)))
    | inr s ↦ elim (has_push xs l s.lit s.has) [
      | inl was ↦ (b q).1 (inl ((a q).1 (inr (record { lit = s.lit; has = was; place = s.place; below = s.below }))))
      | inr here ↦ (b q).1 (inr (record { lit = s.lit; has = inl here; place = s.place; below = s.below }))
    ]
  ],
)

pub joined_more : (es : List Entry) (lits : List Lit) (i : ℕ) (d : Lit) (bound : ℕ) (old mid new : List Bool) → i < length lits → AreJoined es (take i lits) bound old mid → AreJoined es (get_or lits i d ∷ []) bound mid new → AreJoined es (take (i + 1) lits) bound old new
joined_more es lits i d bound old mid new lt a b = subst (λ (xs : List Lit). AreJoined es xs bound old new) (sym (take_more lits i d lt)) (joined_then es (take i lits) (get_or lits i d) bound old mid new a b)
