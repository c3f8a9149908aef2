-- Rounds come to an end: the terms of an added instance over representatives are reached.
use Rattle.std.proofs.Common.{◌≡◌, ℕ, zero, suc, ◌<◌, ◌≤◌, ◌⊎◌, Bool, true, false, ◌&&◌, not, cond, List, [], ◌∷◌, ◌++◌, length, refl, sym, ap, subst, ◌∙◌, arith, inl, inr, append-nil}
use Rattle.std.specs.List.{filter, flat_map, list_all, list_any, range_with_len}
use Rattle.std.proofs.lemmas.Bool.{and_from, and_parts, cases_Bool, false≢true, not-true, true≢false}
use Rattle.fm_base.specs.Resolution.{Has}
use Rattle.fm_bank.specs.Subterms.{is_found as has}
use Rattle.fm_rounds.specs.Grounds.{IsGrounded}
use Rattle.fm_rounds.specs.Rounds.{Content, is_new, joins, reached, reached_by, round}
use Rattle.fm_rounds.specs.Soundness.{InstancesAreReached}
use Rattle.fm_rounds.proofs.Members.{any_in, flat_in, has_in, in_any, in_either, in_flat, in_has, in_left, in_right}
use Rattle.fm_rounds.proofs.Reaching.{round_is}

-- how many pass a test
count_step : {X : Type 0} (b : Bool) (x : X) (ys : List X) → length (cond b (x ∷ ys) ys) ≡ cond b (suc (length ys)) (length ys)
count_step true x ys = refl
count_step false x ys = refl

at_most : (b : Bool) (m n : ℕ) → m ≤ n → cond b (suc m) m ≤ suc n
at_most true m n le = omega (arith, le)
at_most false m n le = omega (arith, le)

passing : {X : Type 0} (p : X → Bool) (xs : List X) → length (filter p xs) ≤ length xs
passing p [] = omega arith
passing p (x ∷ xs) =
    let e = count_step (p x) x (filter p xs) in
    let le = at_most (p x) (length (filter p xs)) (length xs) (passing p xs) in
    omega (arith, e, le)

all_step : (b : Bool) (m n : ℕ) → m ≤ n → suc n ≤ cond b (suc m) m → (b ≡ true) × (n ≤ m)
all_step true m n le h = (refl, omega (arith, h))
all_step false m n le h = absurd (omega (arith, le, h))

all_pass : {X : Type 0} (p : X → Bool) (xs : List X) → length xs ≤ length (filter p xs) → (x : X) → Has xs x → p x ≡ true
all_pass p [] le x h = absurd h
all_pass p (y ∷ ys) le x h =
    let e = count_step (p y) y (filter p ys) in
    let q = all_step (p y) (length (filter p ys)) (length ys) (passing p ys) (omega (arith, e, le)) in
    elim h [ inl s ↦ ap p (sym s) ∙ q.0 | inr r ↦ all_pass p ys q.1 x r ]

fewer_step : (a b : Bool) (m n : ℕ) → (b ≡ true → a ≡ true) → m ≤ n → cond b (suc m) m ≤ cond a (suc n) n
fewer_step true true m n i h = omega (arith, h)
fewer_step true false m n i h = omega (arith, h)
fewer_step false true m n i h = absurd (false≢true (i refl))
fewer_step false false m n i h = h

fewer : {X : Type 0} (p q : X → Bool) → ((x : X) → q x ≡ true → p x ≡ true) → (xs : List X) → length (filter q xs) ≤ length (filter p xs)
fewer p q i [] = omega arith
fewer p q i (x ∷ xs) =
    let h = fewer_step (p x) (q x) (length (filter q xs)) (length (filter p xs)) (i x) (fewer p q i xs) in
    let a = count_step (q x) x (filter q xs) in
    let c = count_step (p x) x (filter p xs) in
    omega (arith, h, a, c)

less_step : (a b : Bool) (m n : ℕ) → (b ≡ true → a ≡ true) → m < n → cond b (suc m) m < cond a (suc n) n
less_step true true m n i h = omega (arith, h)
less_step true false m n i h = omega (arith, h)
less_step false true m n i h = absurd (false≢true (i refl))
less_step false false m n i h = h

here_less : (a b : Bool) (m n : ℕ) → a ≡ true → b ≡ false → m ≤ n → cond b (suc m) m < cond a (suc n) n
here_less true false m n t f h = omega (arith, h)
here_less true true m n t f h = absurd (true≢false f)
here_less false b m n t f h = absurd (false≢true t)

less : {X : Type 0} (p q : X → Bool) → ((x : X) → q x ≡ true → p x ≡ true) → (xs : List X) (y : X) → Has xs y → p y ≡ true → q y ≡ false → length (filter q xs) < length (filter p xs)
less p q i [] y h t f = absurd h
less p q i (x ∷ xs) y (inl e) t f =
    let h = here_less (p x) (q x) (length (filter q xs)) (length (filter p xs)) (ap p e ∙ t) (ap q e ∙ f) (fewer p q i xs) in
    let a = count_step (q x) x (filter q xs) in
    let c = count_step (p x) x (filter p xs) in
    omega (arith, h, a, c)
less p q i (x ∷ xs) y (inr r) t f =
    let h = less_step (p x) (q x) (length (filter q xs)) (length (filter p xs)) (i x) (less p q i xs y r t f) in
    let a = count_step (q x) x (filter q xs) in
    let c = count_step (p x) x (filter p xs) in
    omega (arith, h, a, c)

filter_drop : {X : Type 0} (p : X → Bool) (x : X) (ys : List X) (b : Bool) → b ≡ false → ys ≡ [] → cond b (x ∷ ys) ys ≡ []
filter_drop p x ys true f e = absurd (true≢false f)
filter_drop p x ys false f e = e

filter_none : {X : Type 0} (p : X → Bool) → ((x : X) → p x ≡ false) → (xs : List X) → filter p xs ≡ []
filter_none p h [] = refl
filter_none p h (x ∷ xs) = filter_drop p x (filter p xs) (p x) (h x) (filter_none p h xs)

all_implied : {X : Type 0} (p q : X → Bool) → ((x : X) → p x ≡ true → q x ≡ true) → (xs : List X) → list_all p xs ≡ true → list_all q xs ≡ true
all_implied p q i [] e = refl
all_implied p q i (x ∷ xs) e = let s = and_parts (p x) (list_all p xs) e in and_from (q x) (list_all q xs) (i x s.0) (all_implied p q i xs s.1)

never_new : (a b c : Bool) → (a ≡ true → b ≡ true) → (a && (not b && c)) ≡ false
never_new false b c h = refl
never_new true true c h = refl
never_new true false c h = absurd (false≢true (h refl))

kept : (j : List ℕ × List ℕ) (n : ℕ) (b : Bool) → b ≡ true → Has j.1 n → Has (cond b j.1 []) n
kept j n true e h = h
kept j n false e h = absurd (false≢true e)

taken : (j : List ℕ × List ℕ) (n : ℕ) (b : Bool) → Has (cond b j.1 []) n → (b ≡ true) × Has j.1 n
taken j n true h = (refl, h)
taken j n false h = absurd h

any_none : {X : Type 0} (p q : X → Bool) (xs : List X) (x : X) → list_any (λ y. p y && not (q y)) xs ≡ false → Has xs x → p x ≡ true → q x ≡ true
any_none {X} p q xs x e h t =
    elim (cases_Bool (q x)) [
      | inl s ↦ s
      | inr f ↦ absurd (true≢false (sym (in_any (λ y. p y && not (q y)) xs x h (and_from (p x) (not (q x)) t (ap not f))) ∙ e))
    ]

module _ (c : Content) (g : IsGrounded c) where
  -- the instance is over representatives of the round
  abbrev over : ℕ → (List ℕ × List ℕ) → Bool
  over i j = list_all (has (round c i).reps) j.0

  -- it was so in the round before, and so its terms are reached
  abbrev done : ℕ → (List ℕ × List ℕ) → Bool
  done zero j = false
  done (suc i) j = over i j

  abbrev after : ℕ → List ℕ
  after i = (round c i).terms ++ flat_map (reached_by (round c i).reps) c.added

  more_reps : (i n : ℕ) → Has (round c i).reps n → Has (round c (suc i)).reps n
  unfolding round
  more_reps i n h = in_left n (round c i).reps (filter (is_new c (round c i).reps (after i)) (range_with_len 0 (length c.terms))) h

  more_terms : (i n : ℕ) → Has (round c i).terms n → Has (round c (suc i)).terms n
  unfolding round
  more_terms i n h = in_left n (round c i).terms (flat_map (reached_by (round c i).reps) c.added) h

  reached_next : (i n : ℕ) (j : List ℕ × List ℕ) → Has c.added j → over i j ≡ true → Has j.1 n → Has (round c (suc i)).terms n
  unfolding round
  reached_next i n j h e q = in_right n (round c i).terms (flat_map (reached_by (round c i).reps) c.added) (flat_in (reached_by (round c i).reps) n c.added j h (kept j n (over i j) e q))

  over_more : (i : ℕ) (j : List ℕ × List ℕ) → over i j ≡ true → over (suc i) j ≡ true
  over_more i j e = all_implied (has (round c i).reps) (has (round c (suc i)).reps) (λ n h. in_has (round c (suc i)).reps n (more_reps i n (has_in (round c i).reps n h))) j.0 e

  done_over : (i : ℕ) (j : List ℕ × List ℕ) → done i j ≡ true → over i j ≡ true
  done_over zero j e = absurd (false≢true e)
  done_over (suc i) j e = over_more i j e

  done_reached : (i n : ℕ) (j : List ℕ × List ℕ) → Has c.added j → done i j ≡ true → Has j.1 n → Has (round c i).terms n
  done_reached zero n j h e q = absurd (false≢true e)
  done_reached (suc i) n j h e q = reached_next i n j h e q

  -- all instances over representatives of the round are reached in it
  abbrev IsSettled : ℕ → Type 0
  IsSettled i = (j : List ℕ × List ℕ) → Has c.added j → over i j ≡ true → (n : ℕ) → Has j.1 n → Has (round c i).terms n

  nothing_new : (i n : ℕ) → IsSettled i → is_new c (round c i).reps (after i) n ≡ false
  nothing_new i n s =
      never_new (has (after i) n) (joins c (round c i).reps n) _
      (λ t. (round_is c g i).covered n (elim (in_either n (round c i).terms (flat_map (reached_by (round c i).reps) c.added) (has_in (after i) n t)) [
        | inl old ↦ old
        | inr new ↦ (let p = in_flat (reached_by (round c i).reps) n c.added new in
            let b = taken p.0 n (over i p.0) p.2 in
            s p.0 p.1 b.0 n b.1)
      ]))

  same_reps : (i : ℕ) → IsSettled i → (round c (suc i)).reps ≡ (round c i).reps
  unfolding round
  same_reps i s = ap (λ (xs : List ℕ). (round c i).reps ++ xs) (filter_none (is_new c (round c i).reps (after i)) (λ n. nothing_new i n s) (range_with_len 0 (length c.terms))) ∙ append-nil (round c i).reps

  settled_next : (i : ℕ) → IsSettled i → IsSettled (suc i)
  settled_next i s j h e n q = more_terms i n (s j h (subst (λ (rs : List ℕ). list_all (has rs) j.0 ≡ true) (same_reps i s) e) n q)

  -- a round is settled, or each round before it reached an instance more
  progress : (i : ℕ) → IsSettled i ⊎ (i ≤ length (filter (done i) c.added))
  progress zero = inr (omega arith)
  progress (suc i) =
      elim (progress i) [
        | inl s ↦ inl (settled_next i s)
        | inr le ↦ elim (cases_Bool (list_any (λ (j : List ℕ × List ℕ). over i j && not (done i j)) c.added)) [
          | inl t ↦ inr (
              let w = any_in (λ (j : List ℕ × List ℕ). over i j && not (done i j)) c.added t in
              let p = and_parts (over i w.0) (not (done i w.0)) w.2 in
              let lt = less (over i) (done i) (done_over i) c.added w.0 w.1 p.0 (not-true (done i w.0) p.1) in
              omega (arith, le, lt))
          | inr f ↦ inl (settled_next i (λ j h e n q. done_reached i n j h (any_none (over i) (done i) c.added j f h e) q))
        ]
      ]

  settled : IsSettled (length c.added)
  settled =
      elim (progress (length c.added)) [
        | inl s ↦ s
        | inr le ↦ (λ j h e n q. done_reached (length c.added) n j h (all_pass (done (length c.added)) c.added le j h) q)
      ]

  all_has_in : (ns xs : List ℕ) → ((k : ℕ) → Has xs k → Has ns k) → list_all (has ns) xs ≡ true
  all_has_in ns [] h = refl
  all_has_in ns (x ∷ xs) h = and_from (has ns x) (list_all (has ns) xs) (in_has ns x (h x (inl refl))) (all_has_in ns xs (λ k q. h k (inr q)))

  pub instance_reached : (i : List ℕ × List ℕ) (n : ℕ) → Has c.added i → ((k : ℕ) → Has i.0 k → Has (reached c).reps k) → Has i.1 n → Has (reached c).terms n
  instance_reached i n h reps q = settled i h (all_has_in (reached c).reps i.0 reps) n q

pub instances_are_reached : InstancesAreReached
instances_are_reached c g i n h reps q = instance_reached c g i n h reps q
