-- The tests can be chosen in each state, so each offer of a run is a step.
use Rattle.std.proofs.Common.{◌≡◌, ℕ, zero, suc, ◌+◌, ◌<◌, ◌==◌, ◌&&◌, ◌||◌, Bool, true, false, cond, nat_lt, List, [], ◌∷◌, length, take, Some, None, inl, inr, refl, sym, ap, subst, ◌∙◌, arith}
use Rattle.std.specs.Prelude.{Option}
use Rattle.std.specs.List.{filter, flat_map, list_all, list_any}
use Rattle.std.proofs.lemmas.Bool.{cases_Bool, eq-eqb, eqb-true, false≢true, ltb-true, or_cases, true≢false}
use Rattle.std.proofs.lemmas.List.{length-take-le}
use Rattle.std.proofs.lemmas.Slice.Eq.{bytes_eq-Decides}
use Rattle.fm_base.specs.Resolution.{Has}
use Rattle.fm_bank.specs.Regions.{first_large, grown_regions}
use Rattle.fm_bank.specs.Tests.{Tests}
use Rattle.fm_rounds.proofs.Members.{in_filter}
use Rattle.fm_steps.specs.Content.{classes_of}
use Rattle.fm_steps.specs.Going.{RunsBegin, StatesSettle, StepsExist}
use Rattle.fm_steps.specs.Menu.{menu_of}
use Rattle.fm_steps.specs.Picks.{ArePicks, IsPair, IsPickAt, is_clique, pick_literals}
use Rattle.fm_steps.specs.Sizes.{least_true, sort}
use Rattle.fm_steps.specs.Start.{first_state}
use Rattle.fm_steps.specs.State.{Pick, State, know_all}
use Rattle.fm_steps.proofs.Classes.{not_all}
use Rattle.fm_steps.proofs.Closing.{each_known}
use Rattle.fm_steps.proofs.Going.{steps_go_on}
use Rattle.fm_steps.proofs.Large.{large_region}
use Rattle.fm_steps.proofs.Rising.{Ascends, classes_rise, filter_rises, region_rises}
use Rattle.fm_steps.proofs.Written.{has_place}

abbrev is_of : List ℕ → ℕ → Bool
is_of xs y = list_any (λ x. x == y) xs

filter_same : (p q : ℕ → Bool) (xs : List ℕ) → ((x : ℕ) → Has xs x → p x ≡ q x) → filter p xs ≡ filter q xs
filter_same p q [] h = refl
filter_same p q (x ∷ xs) h = let one = h x (inl refl) in let more = filter_same p q xs (λ y r. h y (inr r)) in λ i. cond (one i) (x ∷ more i) (more i)

filter_nothing : (xs : List ℕ) → filter (λ x. false) xs ≡ []
filter_nothing [] = refl
filter_nothing (x ∷ xs) = filter_nothing xs

kept_first : (p : ℕ → Bool) (x : ℕ) (xs : List ℕ) (b : Bool) → b ≡ true → cond b (x ∷ filter p xs) (filter p xs) ≡ x ∷ filter p xs
kept_first p x xs true e = refl
kept_first p x xs false e = absurd (false≢true e)

left_first : (p : ℕ → Bool) (x : ℕ) (xs : List ℕ) (b : Bool) → b ≡ false → cond b (x ∷ filter p xs) (filter p xs) ≡ filter p xs
left_first p x xs true e = absurd (true≢false e)
left_first p x xs false e = refl

other_first : (x y : ℕ) (b : Bool) → x < y → ((x == y) || b) ≡ b
other_first x y b lt =
    elim (cases_Bool (x == y)) [
      | inl t ↦ (let same = eqb-true x y t in absurd (omega (arith, same, lt)))
      | inr f ↦ ap (λ (c : Bool). c || b) f
    ]

-- a list that ascends has its beginnings and pairs as sublists
begins : (n : ℕ) (xs : List ℕ) → Ascends xs → filter (is_of (take n xs)) xs ≡ take n xs
begins zero xs rises = filter_nothing xs
begins (suc n) [] rises = refl
begins (suc n) (x ∷ xs) rises =
    kept_first (is_of (x ∷ take n xs)) x xs (is_of (x ∷ take n xs) x) (ap (λ (b : Bool). b || is_of (take n xs) x) (eq-eqb x x refl))
    ∙ ap (λ (ys : List ℕ). x ∷ ys) (filter_same (is_of (x ∷ take n xs)) (is_of (take n xs)) xs (λ y h. other_first x y (is_of (take n xs) y) (rises.0 y h)) ∙ begins n xs rises.1)

one_kept : (b : ℕ) (xs : List ℕ) → Ascends xs → Has xs b → filter (is_of (b ∷ [])) xs ≡ b ∷ []
one_kept b [] rises h = absurd h
one_kept b (x ∷ xs) rises (inl e) =
    kept_first (is_of (b ∷ [])) x xs (is_of (b ∷ []) x) (ap (λ (c : Bool). c || false) (eq-eqb b x (sym e)))
    ∙ (λ i. e i ∷ (filter_same (is_of (b ∷ [])) (λ y. false) xs (λ y q. other_first b y false (let low = rises.0 y q in omega (arith, low, e))) ∙ filter_nothing xs) i)
one_kept b (x ∷ xs) rises (inr h) =
    let low = rises.0 b h in
    let other : is_of (b ∷ []) x ≡ false = elim (cases_Bool (b == x)) [
      | inl t ↦ (let same = eqb-true b x t in absurd (omega (arith, same, low)))
      | inr f ↦ ap (λ (c : Bool). c || false) f
    ] in
    left_first (is_of (b ∷ [])) x xs (is_of (b ∷ []) x) other ∙ one_kept b xs rises.1 h

-- two that aren't apart, where not all are
record IsOpenPair (apart : ℕ → ℕ → Bool) (xs : List ℕ) : Type 0 where
  first : ℕ
  second : ℕ
  among : filter (is_of (first ∷ (second ∷ []))) xs ≡ first ∷ (second ∷ [])
  open_ : apart first second ≡ false

and_second : (b c : Bool) → (b && c) ≡ false → b ≡ true → c ≡ false
and_second true c e f = e
and_second false c e f = absurd (false≢true f)

later_pair : (apart : ℕ → ℕ → Bool) (x : ℕ) (xs : List ℕ) → Ascends (x ∷ xs) → IsOpenPair apart xs → IsOpenPair apart (x ∷ xs)
later_pair apart x xs rises h =
    let two = h.first ∷ (h.second ∷ []) in
    let in_xs : (y : ℕ) → Has two y → Has xs y = λ y q. (in_filter (is_of two) y xs (subst (λ (ys : List ℕ). Has ys y) (sym h.among) q)).0 in
    let low : (y : ℕ) → Has two y → x < y = λ y q. rises.0 y (in_xs y q) in
    let other : is_of two x ≡ false = elim (cases_Bool (is_of two x)) [
      | inl t ↦ elim (or_cases (h.first == x) ((h.second == x) || false) t) [
        | inl e ↦ (let lt = low h.first (inl refl) in let same = eqb-true h.first x e in absurd (omega (arith, lt, same)))
        | inr r ↦ elim (or_cases (h.second == x) false r) [
          | inl e ↦ (let lt = low h.second (inr (inl refl)) in let same = eqb-true h.second x e in absurd (omega (arith, lt, same)))
          | inr e ↦ absurd (false≢true e)
        ]
      ]
      | inr f ↦ f
    ] in
    record { first = h.first; second = h.second; among = left_first (is_of two) x xs (is_of two x) other ∙ h.among; open_ = h.open_ }

open_pair : (apart : ℕ → ℕ → Bool) (xs : List ℕ) → Ascends xs → is_clique apart xs ≡ false → IsOpenPair apart xs
open_pair apart [] rises e = absurd (true≢false e)
open_pair apart (x ∷ xs) rises e =
    elim (cases_Bool (list_all (λ b. apart x b) xs)) [
      | inl all ↦ later_pair apart x xs rises (open_pair apart xs rises.1 (and_second (list_all (λ b. apart x b) xs) (is_clique apart xs) e all))
      | inr some ↦ (let w = not_all (λ b. apart x b) xs some in
          let two = x ∷ (w.0 ∷ []) in
          record {
            first = x;
            second = w.0;
            among = kept_first (is_of two) x xs (is_of two x) (ap (λ (b : Bool). b || is_of (w.0 ∷ []) x) (eq-eqb x x refl))
                ∙ ap (λ (ys : List ℕ). x ∷ ys) (filter_same (is_of two) (is_of (w.0 ∷ [])) xs (λ y h. other_first x y (is_of (w.0 ∷ []) y) (rises.0 y h)) ∙ one_kept w.0 xs rises.1 w.1);
            open_ = w.2;
          })
    ]

beginning_rises : (n : ℕ) (xs : List ℕ) → Ascends xs → Ascends (take n xs)
beginning_rises n xs rises = subst Ascends (begins n xs rises) (filter_rises (is_of (take n xs)) xs rises)

pair_for : (t : Tests) (terms : List ℕ) → Ascends terms → (o : Option (ℕ × ℕ)) × IsPair t terms o
pair_for t terms rises =
    elim (cases_Bool (is_clique t.apart terms)) [
      | inl clique ↦ (None, clique)
      | inr some ↦ (let w = open_pair t.apart terms rises some in
          (Some (w.first, w.second), ((bytes_eq-Decides (filter (is_of (w.first ∷ (w.second ∷ []))) terms) (w.first ∷ (w.second ∷ []))).1 w.among, w.open_)))
    ]

-- the test of a sort
module _ (mid : State) (t : Tests) (u : ℕ) where
  abbrev classes : List ℕ
  classes = classes_of mid.held t (sort u)

  pick_for : (o : Option ℕ) (b : Bool) → ((k : ℕ) → o ≡ Some k → nat_lt k (length classes) ≡ b) → (q : Option Pick) × IsPickAt t classes o q
  pick_for None b e = (None, refl)
  pick_for (Some k) false e = (None, e k refl)
  pick_for (Some k) true e =
      let rises = classes_rise mid.held t u in
      let region = first_large k (grown_regions t.apart classes k) in
      let long = large_region t.apart classes k rises (ltb-true k (length classes) (e k refl)) in
      let sorted = region_rises t.apart classes k rises in
      let terms = take (k + 1) region in
      let pair = pair_for t terms (beginning_rises (k + 1) region sorted) in (
        Some (record { terms = terms; pair = pair.0 }),
        (
          e k refl,
          record {
            count = length-take-le (k + 1) region (omega (arith, long));
            among = (bytes_eq-Decides (filter (is_of terms) region) terms).1 (begins (k + 1) region sorted);
            pair = pair.1;
          },
        ),
      )

  abbrev is_more : Option ℕ → Bool
  is_more None = false
  is_more (Some k) = nat_lt k (length classes)

  more_is : (o : Option ℕ) (k : ℕ) → o ≡ Some k → nat_lt k (length classes) ≡ is_more o
  more_is None k e = absurd (cc e)
  more_is (Some j) k e = let same : j ≡ k = cc e in ap (λ n. nat_lt n (length classes)) (sym same)

  sort_pick : (q : Option Pick) × IsPickAt t classes (least_true mid u) q
  sort_pick = pick_for (least_true mid u) (is_more (least_true mid u)) (more_is (least_true mid u))

picks_for : (mid : State) (t : Tests) (n v : ℕ) → v + n ≡ mid.held.sig.sorts → (ps : List (Option Pick)) × ArePicks mid t v ps
picks_for mid t zero v e = ([], omega (arith, e))
picks_for mid t (suc n) v e =
    let q = sort_pick mid t v in
    let r = picks_for mid t n (v + 1) (omega (arith, e)) in
    (q.0 ∷ r.0, (q.1, r.1))

pub states_settle : StatesSettle
states_settle mid =
    let k = each_known mid in
    let ps = picks_for mid k.0.regions mid.held.sig.sorts 0 (omega arith) in
    (record (know_all (flat_map pick_literals ps.0) mid) { picks = ps.0 }, record { known = k.0; is_known = k.1; picks = ps.0; are_picks = ps.1; after = refl })

pub runs_begin : RunsBegin
runs_begin p = states_settle (first_state p)

pub steps_exist : StepsExist
steps_exist p b events s k o search h is offered =
    let row = steps_go_on p b events s k o search h is offered in
    let t = states_settle row.0 in
    let place = has_place (menu_of p s k) o offered in
    (t.0, record { known = k; is_known = is; place = place.0; offer = o; there = place.1; move = record { mid = row.0; row = row.1; settles = t.1 }; event = refl })
