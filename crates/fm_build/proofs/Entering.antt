-- An entry put in its place.
use Rattle.std.proofs.Common.{◌≡◌, ℕ, zero, suc, ◌+◌, true, false, not, cond, List, [], ◌∷◌, ◌⊎◌, take, drop, refl, sym, subst, ap, ◌∙◌, arith, inl, inr}
use Rattle.std.specs.Prelude.{slice_get}
use Rattle.std.specs.List.{insert}
use Rattle.std.specs.Cmp.Lexicographic.{bytes_decides}
use Rattle.std.specs.Ordering.{is_lt, ordering_reverse}
use Rattle.std.specs.declared.cmp.Ordering.{Ordering}
use Rattle.std.proofs.lemmas.Bool.{and_from, and_parts, false≢true}
use Rattle.std.proofs.lemmas.Cmp.{nat_list_cmp_total}
use Rattle.std.proofs.lemmas.List.{take-append-drop}
use Rattle.fm_base.specs.Interpretations.{ascends, ascends_after}
use Rattle.fm_base.specs.Resolution.{Has}
use Rattle.fm_rounds.proofs.Members.{in_either, in_left, in_right}
use Rattle.fm_rounds.proofs.Searches.{Exception, order, same_as}
use Rattle.fm_build.specs.Entries.{HasKey, IsPut, entry_place, is_entry_of}

place_less : (e : Exception) (es : List Exception) (xs : List ℕ) → order e.0 xs ≡ Ordering.Less → entry_place (e ∷ es) xs ≡ suc (entry_place es xs)
place_less e es xs h = let s : 1 + entry_place es xs ≡ suc (entry_place es xs) = omega arith in ap (λ o. cond (not (not (is_lt o))) (1 + entry_place es xs) 0) h ∙ s

place_here : (e : Exception) (es : List Exception) (xs : List ℕ) (o : Ordering) → is_lt o ≡ false → order e.0 xs ≡ o → entry_place (e ∷ es) xs ≡ 0
place_here e es xs o f h = ap (λ o. cond (not (not (is_lt o))) (1 + entry_place es xs) 0) h ∙ ap (λ b. cond (not (not b)) (1 + entry_place es xs) 0) f

module _ (xs : List ℕ) (v : ℕ) where
  abbrev IsNew : List Exception → Type 0
  IsNew es = is_entry_of xs (slice_get es (entry_place es xs)) ≡ false

  abbrev placed : List Exception → List Exception
  placed es = insert es (entry_place es xs) (xs, v)

  new_behind : (e : Exception) (es : List Exception) → order e.0 xs ≡ Ordering.Less → IsNew (e ∷ es) → IsNew es
  new_behind e es h n = ap (λ k. is_entry_of xs (slice_get (e ∷ es) k)) (sym (place_less e es xs h)) ∙ n

  not_same : (e : Exception) (es : List Exception) → order e.0 xs ≡ Ordering.Equal → IsNew (e ∷ es) → ⊥
  not_same e es h n = false≢true (sym n ∙ ap (λ k. is_entry_of xs (slice_get (e ∷ es) k)) (place_here e es xs Ordering.Equal refl h) ∙ same_as e.0 xs h)

  before_it : (e : Exception) (es : List Exception) → order e.0 xs ≡ Ordering.Greater → ascends_after e.0 es ≡ true → ascends_after xs (e ∷ es) ≡ true
  before_it e es h up = and_from (is_lt (order xs e.0)) (ascends_after e.0 es) (ap is_lt (nat_list_cmp_total.antisymm xs e.0 ∙ ap ordering_reverse h)) up

  -- behind a tuple
  after_by : (ys : List ℕ) (e : Exception) (es : List Exception) (o : Ordering) → order e.0 xs ≡ o → (order e.0 xs ≡ Ordering.Less → IsNew es → ascends_after e.0 (placed es) ≡ true)
      → is_lt (order ys e.0) ≡ true → ascends_after e.0 es ≡ true → order ys xs ≡ Ordering.Less → IsNew (e ∷ es) → ascends_after ys (placed (e ∷ es)) ≡ true
  after_by ys e es Ordering.Less h ih lt up l n = subst (λ k. ascends_after ys (insert (e ∷ es) k (xs, v)) ≡ true) (sym (place_less e es xs h)) (and_from (is_lt (order ys e.0)) (ascends_after e.0 (placed es)) lt (ih h (new_behind e es h n)))
  after_by ys e es Ordering.Equal h ih lt up l n = absurd (not_same e es h n)
  after_by ys e es Ordering.Greater h ih lt up l n = subst (λ k. ascends_after ys (insert (e ∷ es) k (xs, v)) ≡ true) (sym (place_here e es xs Ordering.Greater refl h)) (and_from (is_lt (order ys xs)) (ascends_after xs (e ∷ es)) (ap is_lt l) (before_it e es h up))

  put_after : (ys : List ℕ) (es : List Exception) → ascends_after ys es ≡ true → order ys xs ≡ Ordering.Less → IsNew es → ascends_after ys (placed es) ≡ true
  put_after ys [] up l n = and_from (is_lt (order ys xs)) true (ap is_lt l) refl
  put_after ys (e ∷ es) up l n =
      let p = and_parts (is_lt (order ys e.0)) (ascends_after e.0 es) up in
      after_by ys e es (order e.0 xs) refl (λ h m. put_after e.0 es p.1 h m) p.0 p.1 l n

  first_by : (e : Exception) (es : List Exception) (o : Ordering) → order e.0 xs ≡ o → ascends_after e.0 es ≡ true → IsNew (e ∷ es) → ascends (placed (e ∷ es)) ≡ true
  first_by e es Ordering.Less h up n = subst (λ k. ascends (insert (e ∷ es) k (xs, v)) ≡ true) (sym (place_less e es xs h)) (put_after e.0 es up h (new_behind e es h n))
  first_by e es Ordering.Equal h up n = absurd (not_same e es h n)
  first_by e es Ordering.Greater h up n = subst (λ k. ascends (insert (e ∷ es) k (xs, v)) ≡ true) (sym (place_here e es xs Ordering.Greater refl h)) (before_it e es h up)

  put_ascends : (es : List Exception) → ascends es ≡ true → IsNew es → ascends (placed es) ≡ true
  put_ascends [] up n = refl
  put_ascends (e ∷ es) up n = first_by e es (order e.0 xs) refl up n

  parts_of : (es : List Exception) (k : ℕ) (e : Exception) → Has (take k es) e ⊎ Has (drop k es) e → Has es e
  parts_of es k e (inl a) = subst (λ (l : List Exception). Has l e) (take-append-drop k es) (in_left e (take k es) (drop k es) a)
  parts_of es k e (inr b) = subst (λ (l : List Exception). Has l e) (take-append-drop k es) (in_right e (take k es) (drop k es) b)

  behind : (es : List Exception) (k : ℕ) (e : Exception) → Has ((xs, v) ∷ drop k es) e → Has es e ⊎ (e ≡ (xs, v))
  behind es k e (inl s) = inr (sym s)
  behind es k e (inr i) = inl (parts_of es k e (inr i))

  put_members : (es : List Exception) (k : ℕ) (e : Exception) → Has (insert es k (xs, v)) e → Has es e ⊎ (e ≡ (xs, v))
  put_members es k e h = elim (in_either e (take k es) ((xs, v) ∷ drop k es) h) [
    | inl a ↦ inl (parts_of es k e (inl a))
    | inr b ↦ behind es k e b
  ]

  put_keeps : (es : List Exception) (k : ℕ) (e : Exception) → Has es e → Has (insert es k (xs, v)) e
  put_keeps es k e h = elim (in_either e (take k es) (drop k es) (subst (λ (l : List Exception). Has l e) (sym (take-append-drop k es)) h)) [
    | inl a ↦ in_left e (take k es) ((xs, v) ∷ drop k es) a
    | inr b ↦ in_right e (take k es) ((xs, v) ∷ drop k es) (inr b)
  ]

  pub put_new : (es new : List Exception) (k : ℕ) → k ≡ entry_place es xs → ascends es ≡ true → is_entry_of xs (slice_get es k) ≡ false → new ≡ insert es k (xs, v) → IsPut es xs v new
  put_new es new k at up n is =
      subst (λ l. IsPut es xs v l) (sym is) (record {
        order = ap (λ j. ascends (insert es j (xs, v))) at ∙ put_ascends es up (ap (λ j. is_entry_of xs (slice_get es j)) (sym at) ∙ n);
        members = put_members es k;
        kept = put_keeps es k;
        there = (v, in_right (xs, v) (take k es) ((xs, v) ∷ drop k es) (inl refl));
      })

  key_of : (es : List Exception) (k : ℕ) → is_entry_of xs (slice_get es k) ≡ true → HasKey es xs
  key_of [] k h = absurd (false≢true h)
  key_of (e ∷ es) zero h = let same = (bytes_decides e.0 xs).0 h in (e.1, inl (λ i. (same i, e.1)))
  key_of (e ∷ es) (suc k) h = let r = key_of es k h in (r.0, inr r.1)

  pub put_old : (es : List Exception) (k : ℕ) → ascends es ≡ true → is_entry_of xs (slice_get es k) ≡ true → IsPut es xs v es
  put_old es k up h = record { order = up; members = λ e i. inl i; kept = λ e i. i; there = key_of es k h }
