-- A round without a new representative is the last that reaches anything.
use Rattle.std.proofs.Common.{◌≡◌, ℕ, zero, suc, ◌+◌, Bool, true, false, ◌&&◌, ◌||◌, not, List, ◌++◌, length, refl, sym, subst, ap, ◌∙◌, arith}
use Rattle.std.specs.List.{filter, flat_map, range_with_len}
use Rattle.std.specs.Prelude.{◌==◌}
use Rattle.std.proofs.lemmas.Bool.{or_right}
use Rattle.std.proofs.lemmas.List.Folds.{list_any-append}
use Rattle.fm_bank.specs.Subterms.{is_found as has}
use Rattle.fm_rounds.specs.Rounds.{Content, Round, grown, is_new, joins, reached_by, round}

absorb : (a b : Bool) → (b ≡ true → a ≡ true) → (a || b) ≡ a
absorb true b h = refl
absorb false true h = sym (h refl)
absorb false false h = refl

module _ (c : Content) where
  new_alike : (reps xs ys : List ℕ) → ((n : ℕ) → has xs n ≡ has ys n) → (ns : List ℕ) → filter (is_new c reps xs) ns ≡ filter (is_new c reps ys) ns
  new_alike reps xs ys e ns = λ i. filter (λ n. e n i && (not (joins c reps n) && not (joins c (filter (λ m. e m i) (range_with_len 0 n)) n))) ns

  abbrev more : List ℕ → List ℕ
  more reps = flat_map (reached_by reps) c.added

  abbrev all : List ℕ
  all = range_with_len 0 (length c.terms)

  -- from one round to the next two
  stays : (reps terms : List ℕ) → reps ++ filter (is_new c reps (terms ++ more reps)) all ≡ reps
      → ((n : ℕ) → has ((terms ++ more reps) ++ more reps) n ≡ has (terms ++ more reps) n) × (reps ++ filter (is_new c reps ((terms ++ more reps) ++ more reps)) all ≡ reps)
  stays reps terms e =
      let same : (n : ℕ) → has ((terms ++ more reps) ++ more reps) n ≡ has (terms ++ more reps) n = λ n. list_any-append (λ m. n == m) (terms ++ more reps) (more reps) ∙ absorb (has (terms ++ more reps) n) (has (more reps) n) (λ h. list_any-append (λ m. n == m) terms (more reps) ∙ or_right (has terms n) (has (more reps) n) h) in
      (same, ap (λ l. reps ++ l) (new_alike reps ((terms ++ more reps) ++ more reps) (terms ++ more reps) same all) ∙ e)

  -- the next round of a round
  abbrev next : Round → Round
  next r = grown c r.reps (r.terms ++ more r.reps)

  next_stays : (r : Round) → (next r).reps ≡ r.reps → ((next (next r)).reps ≡ (next r).reps) × ((n : ℕ) → has (next (next r)).terms n ≡ has (next r).terms n)
  next_stays r e =
      let s = stays r.reps r.terms e in (
        subst (λ reps. reps ++ filter (is_new c reps ((r.terms ++ more r.reps) ++ more reps)) all ≡ reps) (sym e) s.1,
        subst (λ reps. (n : ℕ) → has ((r.terms ++ more r.reps) ++ more reps) n ≡ has (r.terms ++ more r.reps) n) (sym e) s.0,
      )

  abbrev Same : ℕ → ℕ → Type 0
  Same i k = ((round c (suc k)).reps ≡ (round c k).reps) × ((round c k).reps ≡ (round c i).reps) × ((n : ℕ) → has (round c (suc k)).terms n ≡ has (round c (suc i)).terms n)

  same_more : (i k : ℕ) → Same i k → Same i (suc k)
  unfolding round
  same_more i k (e, r, h) = let s = next_stays (round c k) e in (s.0, e ∙ r, λ n. s.1 n ∙ h n)

  pub stopped : (i j k : ℕ) → (round c (suc i)).reps ≡ (round c i).reps → k ≡ j + i → Same i k
  stopped i zero k e is = let there : i ≡ k = omega (arith, is) in subst (Same i) there (e, refl, λ n. refl)
  stopped i (suc j) k e is = let there : suc (j + i) ≡ k = omega (arith, is) in subst (Same i) there (same_more i (j + i) (stopped i j (j + i) e refl))
