-- Marks with their count and the literals of lower levels, as one more mark comes or one goes.
use Rattle.std.proofs.Common.{◌≡◌, ◌≢◌, ℕ, ◌+◌, ◌-◌, ◌<◌, ◌≤◌, Bool, true, false, List, [], ◌∷◌, ◌++◌, length, replicate, Some, inl, inr, refl, sym, subst, ap, ◌∙◌, arith}
use Rattle.std.specs.Prelude.{slice_get, slice_set, ◌⊎◌}
use Rattle.std.proofs.lemmas.List.{length-set, length-replicate}
use Rattle.std.proofs.lemmas.Option.{slice_get_within}
use Rattle.fm_base.specs.declared.ids.Lit.{Lit}
use Rattle.fm_base.specs.Resolution.{AreDistinct, Has, opposite}
use Rattle.fm_trail.specs.declared.entry.Entry.{Entry}
use Rattle.fm_trail.specs.Trail.{HasOneEntry}
use Rattle.fm_sat.specs.Marks.{AreCounted, IsMarked, Marked}
use Rattle.fm_sat.proofs.Counts.{count_set, count_unset, counted_some, mark_none, mark_one, none_counted, none_marked, one_here, one_not}

pub has_left : {L : Type 0} (xs ys : List L) (k : L) → Has xs k → Has (xs ++ ys) k
has_left [] ys k h = absurd h
has_left (x ∷ xs) ys k h = elim h [ inl here ↦ inl here | inr more ↦ inr (has_left xs ys k more) ]

pub has_right : {L : Type 0} (xs ys : List L) (k : L) → Has ys k → Has (xs ++ ys) k
has_right [] ys k h = h
has_right (x ∷ xs) ys k h = inr (has_right xs ys k h)

pub has_cases : {L : Type 0} (xs ys : List L) (k : L) → Has (xs ++ ys) k → Has xs k ⊎ Has ys k
has_cases [] ys k h = inr h
has_cases (x ∷ xs) ys k h = elim h [ inl here ↦ inl (inl here) | inr more ↦ elim (has_cases xs ys k more) [ inl l ↦ inl (inr l) | inr r ↦ inr r ] ]

pub has_push : {L : Type 0} (xs : List L) (y k : L) → Has (xs ++ y ∷ []) k → Has xs k ⊎ (y ≡ k)
has_push xs y k h = elim (has_cases xs (y ∷ []) k h) [ inl l ↦ inl l | inr r ↦ elim r [ inl here ↦ inr here | inr none ↦ absurd none ] ]

pub distinct_push : {L : Type 0} (xs : List L) (y : L) → AreDistinct xs → (Has xs y → ⊥) → AreDistinct (xs ++ y ∷ [])
distinct_push [] y d none = (λ h. h, tt)
distinct_push (x ∷ xs) y d none = (λ h. elim (has_push xs y x h) [ inl l ↦ d.0 l | inr same ↦ none (inl (sym same)) ], distinct_push xs y d.1 (λ h. none (inr h)))

pub same_entry : (es : List Entry) (p : ℕ) (e f : Entry) → slice_get es p ≡ Some e → slice_get es p ≡ Some f → e ≡ f
same_entry es p e f at at' = let s : Some e ≡ Some f = sym at ∙ at' in cc

-- the mark was there, or is the new one
abbrev was_or_new : (ms : List Bool) (es : List Entry) (p q : ℕ) → p < length ms → (m : Marked (slice_set ms p true) es q) → ((w : Marked ms es q) × (w.entry ≡ m.entry)) ⊎ (q ≡ p)
was_or_new ms es p q lt m = elim ((mark_one ms p lt q).0 m.mark) [ inl was ↦ inl (record { entry = m.entry; mark = was; at = m.at }, refl) | inr here ↦ inr here ]

abbrev still : (ms : List Bool) (es : List Entry) (p q : ℕ) → p < length ms → (w : Marked ms es q) → (m : Marked (slice_set ms p true) es q) × (m.entry ≡ w.entry)
still ms es p q lt w = (record { entry = w.entry; mark = (mark_one ms p lt q).1 (inl w.mark); at = w.at }, refl)

low_more : (es : List Entry) (top : ℕ) (ms : List Bool) (n : ℕ) (lower : List Lit) (p : ℕ) (e : Entry) → AreCounted es top ms n lower → p < length ms → slice_get es p ≡ Some e → e.level ≤ top → (q : ℕ) (m : Marked (slice_set ms p true) es q) → m.entry.level ≤ top
low_more es top ms n lower p e c lt at le q m =
    elim (was_or_new ms es p q lt m) [
      | inl was ↦ subst (λ (f : Entry). f.level ≤ top) was.1 (c.low q was.0)
      | inr here ↦ subst (λ (f : Entry). f.level ≤ top) (same_entry es p e m.entry at (subst (λ (i : ℕ). slice_get es i ≡ Some m.entry) here m.at)) le
    ]

pub counted_top : (es : List Entry) (top : ℕ) (ms : List Bool) (n : ℕ) (lower : List Lit) (p : ℕ) (e : Entry) → AreCounted es top ms n lower → slice_get ms p ≡ Some false → slice_get es p ≡ Some e → e.level ≡ top → AreCounted es top (slice_set ms p true) (n + 1) lower
counted_top es top ms n lower p e c not' at level =
    let lt = slice_get_within ms p false not' in
    let le : e.level ≤ top = omega arith in
    record {
      whole = length-set ms p true ∙ c.whole;
      count_is = omega (arith, c.count_is, count_set top ms es p e not' at, one_here top e level);
      low = low_more es top ms n lower p e c lt at le;
      lower_are = λ k. (
        λ h. let w = (c.lower_are k).0 h in let s = still ms es p w.0 lt w.1 in (w.0, s.0, w.2, w.3),
        λ (q, m, less, is). elim (was_or_new ms es p q lt m) [
          | inl was ↦ (c.lower_are k).1 (q, was.0, subst (λ (f : Entry). f.level < top) (sym was.1) less, subst (λ (f : Entry). opposite f.lit ≡ k) (sym was.1) is)
          | inr here ↦ let same = same_entry es p e m.entry at (subst (λ (i : ℕ). slice_get es i ≡ Some m.entry) here m.at) in let eq : e.level ≡ m.entry.level = ap (λ (f : Entry). f.level) same in absurd (omega arith)
        ],
      );
      lower_once = c.lower_once;
    }

pub counted_lower : (es : List Entry) (top : ℕ) (ms : List Bool) (n : ℕ) (lower : List Lit) (p : ℕ) (e : Entry) → HasOneEntry es → AreCounted es top ms n lower → slice_get ms p ≡ Some false → slice_get es p ≡ Some e → e.level < top → AreCounted es top (slice_set ms p true) n (lower ++ opposite e.lit ∷ [])
counted_lower es top ms n lower p e once c not' at less =
    let lt = slice_get_within ms p false not' in
    let le : e.level ≤ top = omega arith in
    let ne : e.level ≢ top = λ q. absurd (omega arith) in
    record {
      whole = length-set ms p true ∙ c.whole;
      count_is = omega (arith, c.count_is, count_set top ms es p e not' at, one_not top e ne);
      low = low_more es top ms n lower p e c lt at le;
      lower_are = λ k. (
        λ h. elim (has_push lower (opposite e.lit) k h) [
          | inl was ↦ let w = (c.lower_are k).0 was in let s = still ms es p w.0 lt w.1 in (w.0, s.0, w.2, w.3)
          | inr here ↦ (p, record { entry = e; mark = (mark_one ms p lt p).1 (inr refl); at = at }, less, here)
        ],
        λ (q, m, less', is). elim (was_or_new ms es p q lt m) [
          | inl was ↦ has_left lower (opposite e.lit ∷ []) k ((c.lower_are k).1 (q, was.0, subst (λ (f : Entry). f.level < top) (sym was.1) less', subst (λ (f : Entry). opposite f.lit ≡ k) (sym was.1) is))
          | inr here ↦ let same = same_entry es p e m.entry at (subst (λ (i : ℕ). slice_get es i ≡ Some m.entry) here m.at) in has_right lower (opposite e.lit ∷ []) k (inl (subst (λ (f : Entry). opposite f.lit ≡ k) (sym same) is))
        ],
      );
      lower_once = distinct_push lower (opposite e.lit) c.lower_once (λ h.
          let w = (c.lower_are (opposite e.lit)).0 h in
          let here : w.0 ≡ p = once w.0 p w.1.entry e w.1.at at (ap (λ (l : Lit). l.atom.0) w.3) in
          let bad : Some true ≡ Some false = sym w.1.mark ∙ (ap (slice_get ms) here ∙ not') in
          cc);
    }

pub counted_less : (es : List Entry) (top : ℕ) (ms : List Bool) (n : ℕ) (lower : List Lit) (p : ℕ) (e : Entry) → AreCounted es top ms n lower → IsMarked ms p → slice_get es p ≡ Some e → e.level ≡ top → AreCounted es top (slice_set ms p false) (n - 1) lower
counted_less es top ms n lower p e c is at level =
    let lt = slice_get_within ms p true is in
    record {
      whole = length-set ms p false ∙ c.whole;
      count_is = omega (arith, c.count_is, count_unset top ms es p e is at, one_here top e level);
      low = λ q m. c.low q (record { entry = m.entry; mark = ((mark_none ms p lt q).0 m.mark).0; at = m.at });
      lower_are = λ k. (
        λ h.
            let w = (c.lower_are k).0 h in
            let other : w.0 ≢ p = λ here. let same = same_entry es p e w.1.entry at (subst (λ (i : ℕ). slice_get es i ≡ Some w.1.entry) here w.1.at) in let eq : e.level ≡ w.1.entry.level = ap (λ (f : Entry). f.level) same in let less = w.2 in absurd (omega arith) in
            (w.0, record { entry = w.1.entry; mark = (mark_none ms p lt w.0).1 (w.1.mark, other); at = w.1.at }, w.2, w.3),
        λ (q, m, less, same). (c.lower_are k).1 (q, record { entry = m.entry; mark = ((mark_none ms p lt q).0 m.mark).0; at = m.at }, less, same),
      );
      lower_once = c.lower_once;
    }

pub counted_some' : (es : List Entry) (top : ℕ) (ms : List Bool) (n : ℕ) (lower : List Lit) (p : ℕ) (e : Entry) → AreCounted es top ms n lower → IsMarked ms p → slice_get es p ≡ Some e → e.level ≡ top → 1 ≤ n
counted_some' es top ms n lower p e c is at level = omega (arith, c.count_is, counted_some top ms es p (record { entry = e; mark = is; at = at; level = level }))

-- nothing is marked
pub counted_none : (es : List Entry) (top : ℕ) → AreCounted es top (replicate (length es) false) 0 []
counted_none es top = record {
  whole = length-replicate (length es) false;
  count_is = sym (none_counted (length es) top es);
  low = λ p m. absurd (none_marked (length es) p m.mark);
  lower_are = λ k. (λ h. absurd h, λ (p, m, less, is). absurd (none_marked (length es) p m.mark));
  lower_once = tt;
}
