-- What the menu of a run offers can be done.
use Rattle.std.proofs.Common.{◌≡◌, ℕ, ◌+◌, ◌-◌, ◌≤◌, ◌<◌, ◌==◌, ◌&&◌, Bool, true, false, cond, List, [], ◌∷◌, length, slice_get, Some, None, inl, inr, refl, sym, ap, subst, ◌∙◌, arith}
use Rattle.std.specs.Prelude.{Option}
use Rattle.std.specs.List.{filter, flat_map, list_any, range_with_len}
use Rattle.std.proofs.lemmas.Bool.{and_parts, eqb-false, eqb-true, ltb-true}
use Rattle.std.proofs.lemmas.Slice.Eq.{bytes_eq-Decides}
use Rattle.fm_base.specs.Resolution.{Has}
use Rattle.fm_base.specs.declared.ids.Lit.{Lit}
use Rattle.fm_bank.specs.Instances.{equality}
use Rattle.fm_bank.specs.Interning.{find_atom, lit_in}
use Rattle.fm_bank.specs.Regions.{first_large, grown_regions}
use Rattle.fm_bank.specs.declared.literal.Literal.{Literal}
use Rattle.fm_guide.specs.declared.event.Event.{Event}
use Rattle.fm_guide.specs.declared.event.Word.{Word}
use Rattle.fm_rounds.proofs.Members.{in_filter, in_flat}
use Rattle.fm_sat.specs.Learning.{Steps}
use Rattle.fm_steps.specs.Content.{classes_of, is_oldest, is_term_of_sort}
use Rattle.fm_steps.specs.Facts.{TrailIsExplained}
use Rattle.fm_steps.specs.Going.{MenusAreNotEmpty, RunsAreWithinBudget, StepsGoOn}
use Rattle.fm_steps.specs.Lemmas.{is_known}
use Rattle.fm_steps.specs.Menu.{menu_of, pair_offers, split_offers, splits_of, takes_of, units_from}
use Rattle.fm_steps.specs.Offered.{raised}
use Rattle.fm_steps.specs.Picks.{IsKnown, IsPair, IsPickAt, Known}
use Rattle.fm_steps.specs.Rows.{LearnRow, Offer, Row, SplitRow, after_learning}
use Rattle.fm_steps.specs.Runs.{Run, carried}
use Rattle.fm_steps.specs.Sizes.{is_unvalued, least_true, lit, numbers_with, sort}
use Rattle.fm_steps.specs.State.{Budget, Clause, Pick, Problem, State, back_to, decided, know, put, put_decision, read_one, with_literals}
use Rattle.fm_steps.proofs.Bounded.{not_unit}
use Rattle.fm_steps.proofs.Chosen.{AreChosen, pick_there, picks_length, place_below, reached_chosen}
use Rattle.fm_steps.proofs.Contents.{searchable_are_sorted}
use Rattle.fm_steps.proofs.Deciding.{decide_ready, split_in, split_ready}
use Rattle.fm_steps.proofs.Distinct.{unit_new_in_runs}
use Rattle.fm_steps.proofs.InRow.{of_numbers}
use Rattle.fm_steps.proofs.Learnt.{learnt_from}
use Rattle.fm_steps.proofs.Lists.{append_none, only_one}
use Rattle.fm_steps.proofs.Menus.{at_most_seven, not_empty, quiet_two}
use Rattle.fm_steps.proofs.Numbered.{sat_is_met}
use Rattle.fm_steps.proofs.Offered.{false_new, least_in, raise_is_met}
use Rattle.fm_steps.proofs.Ready.{learn_ready, quiet_at, take_ready, turn_ready, unit_ready, unsat_ready}
use Rattle.fm_steps.proofs.Rising.{PicksRise, reached_rise}
use Rattle.fm_steps.proofs.Running.{reached_good}
use Rattle.fm_steps.proofs.Shown.{imply_is_due, lemma_is_due}
use Rattle.fm_steps.proofs.Starts.{start_counted}
use Rattle.fm_steps.proofs.Tested.{among, chosen}
use Rattle.fm_steps.proofs.Truths.{instance_is_met}
use Rattle.fm_steps.proofs.Written.{has_place}
use Rattle.fm_steps.proofs.Exact.{older_apart, ordered_two}

pub menus_are_not_empty : MenusAreNotEmpty
menus_are_not_empty p s k = not_empty p s k

-- the budgets
abbrev Spent : Budget → State → Type 0
Spent b s = (s.instances ≤ b.instances) × (s.decisions ≤ b.decisions)

learnt_spent : (b : Budget) (n : ℕ) (lits : Clause) (l : Lit) (level : ℕ) (steps : Steps) (s : State) → Spent b s → Spent b (after_learning n steps lits l level s)
learnt_spent b n lits l level [] s h = h
learnt_spent b n lits l level (step ∷ steps) s h = h

row_spent : (p : Problem) (b : Budget) (s : State) (k : Known) (o : Offer) (t : State) → Spent b s → Row p b s k o t → Spent b t
row_spent p b s k (Offer.Learn n) t h r = subst (Spent b) (sym r.after) (learnt_spent b n r.lits r.lit r.level r.steps s h)
row_spent p b s k (Offer.Unit' n) t h r = subst (Spent b) (sym r.after) h
row_spent p b s k (Offer.Take e) t h r = subst (Spent b) (sym r.after) h
row_spent p b s k (Offer.Lemma e d) t h r = subst (Spent b) (sym r.after) h
row_spent p b s k (Offer.Imply e d) t h r = subst (Spent b) (sym r.after) h
row_spent p b s k Offer.Turn t h r = subst (Spent b) (sym r.after) h
row_spent p b s k (Offer.Decide l) t h r = let lt = r.room in subst (Spent b) (sym r.after) (h.0, omega (arith, lt))
row_spent p b s k (Offer.Split a c) t h r = subst (Spent b) (sym r.after) h
row_spent p b s k (Offer.Instance i env) t h r = let lt = r.room in subst (Spent b) (sym r.after) (omega (arith, lt), h.1)
row_spent p b s k Offer.Raise t h r = subst (Spent b) (sym r.after) h
row_spent p b s k (Offer.Answer w) t h r = subst (Spent b) (sym r.1) h

run_spent : (p : Problem) (b : Budget) (s : State) (es : List Event) (t : State) → Spent b s → Run p b s es t → Spent b t
run_spent p b s [] t h r = subst (Spent b) (sym r) h
run_spent p b s (e ∷ es) t h r =
    let m = r.1.move in
    run_spent p b r.0 es t (subst (Spent b) (sym m.settles.after) (row_spent p b s r.1.known (carried b s r.1.offer) m.mid h m.row)) r.3

pub runs_are_within_budget : RunsAreWithinBudget
runs_are_within_budget p b events s h =
    let z = start_counted p h.first h.start in
    let q = run_spent p b h.first events s (omega (arith, z.0), omega (arith, z.1)) h.run in
    record { instances = q.0; decisions = q.1 }

-- where the budget is spent the answer is unknown
decide_carried : (p : Problem) (b : Budget) (s : State) (k : Known) (l : Literal) (c : Bool) → (s.decisions == b.decisions) ≡ c → s.decisions ≤ b.decisions → is_unvalued s l.atom ≡ true → (t : State) × Row p b s k (cond c (Offer.Answer Word.Unknown) (Offer.Decide l)) t
decide_carried p b s k l true e le u = (s, (inl (eqb-true s.decisions b.decisions e), refl))
decide_carried p b s k l false e le u =
    let ne = eqb-false s.decisions b.decisions e in
    (decided (put_decision (lit_in (know l.atom s).held.atoms l) (know l.atom s)), record { room = omega (arith, le, ne); unset = u; after = refl })

instance_carried : (p : Problem) (b : Budget) (s : State) (k : Known) (i : ℕ) (env : List ℕ) (c : Bool) → (s.instances == b.instances) ≡ c → s.instances ≤ b.instances → (s.instances < b.instances → (t : State) × Row p b s k (Offer.Instance i env) t)
    → (t : State) × Row p b s k (cond c (Offer.Answer Word.Unknown) (Offer.Instance i env)) t
instance_carried p b s k i env true e le row = (s, (inr (eqb-true s.instances b.instances e), refl))
instance_carried p b s k i env false e le row = let ne = eqb-false s.instances b.instances e in row (omega (arith, le, ne))

-- Split
abbrev IsSplitOf : State → Option Pick → ℕ → ℕ → Type 0
IsSplitOf s q a b = (pick : Pick) × (q ≡ Some pick) × (pick.pair ≡ Some (a, b))

split_step : (s : State) (d c : Bool) (x y z : Offer) (a b a' b' : ℕ) → Offer.Decide (lit true (equality a b)) ≡ x → Offer.Decide (lit false (equality a b)) ≡ y → Has (cond d (cond c (x ∷ (y ∷ [])) []) (Offer.Split a b ∷ [])) (Offer.Split a' b') → (a ≡ a') × (b ≡ b')
split_step s false c x y z a b a' b' ex ey h = let e = only_one (Offer.Split a b) (Offer.Split a' b') h in (cc e, cc e)
split_step s true false x y z a b a' b' ex ey h = absurd h
split_step s true true x y z a b a' b' ex ey (inl e) = absurd (cc (ex ∙ e))
split_step s true true x y z a b a' b' ex ey (inr h) = absurd (cc (ey ∙ only_one y (Offer.Split a' b') h))

split_of : (s : State) (q : Option Pick) (a b : ℕ) → Has (split_offers s q) (Offer.Split a b) → IsSplitOf s q a b
split_of s None a b h = absurd h
split_of s (Some pick) a b h = by_pair pick.pair refl h
  where
    by_pair : (o : Option (ℕ × ℕ)) → pick.pair ≡ o → Has (pair_offers s o) (Offer.Split a b) → IsSplitOf s (Some pick) a b
    by_pair None e g = absurd g
    by_pair (Some w) e g =
        let same = split_step s (is_known s (equality w.0 w.1)) (is_unvalued s (equality w.0 w.1)) _ _ (Offer.Split w.0 w.1) w.0 w.1 a b refl refl g in
        (pick, refl, e ∙ (λ i. Some (same.0 i, same.1 i)))

either_split : (c : Bool) (xs : List Offer) (a b : ℕ) → Has (cond c [] xs) (Offer.Split a b) → Has xs (Offer.Split a b)
either_split true xs a b h = absurd h
either_split false xs a b h = h

module _ (p : Problem) (s : State) (k : Known) (is : IsKnown s k) (chosen' : AreChosen s) (rising : PicksRise s) where
  split_at : (u : ℕ) (pick : Pick) (o : Option ℕ) (a b : ℕ) → slice_get s.picks u ≡ Some (Some pick) → pick.pair ≡ Some (a, b) → least_true s u ≡ o → IsPickAt k.regions (classes_of s.held k.regions (sort u)) o (Some pick)
      → s.free ≡ false → find_atom s.held.atoms (equality a b) ≡ None → SplitRow s k a b (know (equality a b) s)
  split_at u pick None a b at pair e h free unknown = absurd (cc h)
  split_at u pick (Some m) a b at pair e h free unknown =
      let classes = classes_of s.held k.regions (sort u) in
      let test = h.1 in
      let is_pair : IsPair k.regions pick.terms (Some (a, b)) = subst (IsPair k.regions pick.terms) pair test.pair in
      let two : ℕ → Bool = λ y. list_any (λ x. x == y) (a ∷ (b ∷ [])) in
      let lt = ordered_two two pick.terms a b (rising u pick at) ((bytes_eq-Decides (filter two pick.terms) (a ∷ (b ∷ []))).0 is_pair.0) in
      let class : (x : ℕ) → Has (a ∷ (b ∷ [])) x → (is_term_of_sort s.held u x && is_oldest k.regions x) ≡ true = λ x q.
      let there = chosen pick.terms (first_large m (grown_regions k.regions.apart classes m)) test.among x (chosen (a ∷ (b ∷ [])) pick.terms is_pair.0 x q) in
      (in_filter (λ n. is_term_of_sort s.held u n && is_oldest k.regions n) x (range_with_len 0 (length s.held.terms)) (among k.regions.apart classes m x there)).1 in
      let first = and_parts (is_term_of_sort s.held u a) (is_oldest k.regions a) (class a (inl refl)) in
      let second = and_parts (is_term_of_sort s.held u b) (is_oldest k.regions b) (class b (inr (inl refl))) in
      record {
        bounded = free;
        sort_of = u;
        bound = m;
        holds_here = of_numbers s true u m (least_in (numbers_with s true u) m e);
        more = ltb-true m (length classes) h.0;
        first = first.0;
        second = second.0;
        different = older_apart k.regions a b lt second.1;
        open_ = is_pair.1;
        unknown = unknown;
        after = refl;
      }

  split_met : (a b : ℕ) → Has (menu_of p s k) (Offer.Split a b) → SplitRow s k a b (know (equality a b) s)
  split_met a b h =
      let ready = split_ready a b p s k h in
      let here : Has (splits_of s) (Offer.Split a b) = split_in p s k a b h in
      let w = in_flat (split_offers s) (Offer.Split a b) s.picks (either_split s.free (flat_map (split_offers s) s.picks) a b here) in
      let q = split_of s w.0 a b w.2 in
      let place = has_place s.picks w.0 w.1 in
      let at : slice_get s.picks place.0 ≡ Some (Some q.0) = place.1 ∙ ap Some q.1 in
      let z : 0 + place.0 ≡ place.0 = omega arith in
      let count = picks_length s k.regions 0 s.picks (chosen' k is) in
      let low = place_below s.picks place.0 (Some q.0) at in
      let t = pick_there s k.regions 0 s.picks (chosen' k is) place.0 (omega (arith, count, low)) in
      let same : t.0 ≡ Some q.0 = cc (sym t.1 ∙ at) in
      let test : IsPickAt k.regions (classes_of s.held k.regions (sort place.0)) (least_true s place.0) (Some q.0) = subst (λ n. IsPickAt k.regions (classes_of s.held k.regions (sort n)) (least_true s n) (Some q.0)) z (subst (IsPickAt k.regions (classes_of s.held k.regions (sort (0 + place.0))) (least_true s (0 + place.0))) same t.2) in
      split_at place.0 q.0 (least_true s place.0) a b at q.2 refl test ready.0 ready.1

learn_row : (s : State) (n : ℕ) (p : Problem) (k : Known) → TrailIsExplained s → Has (menu_of p s k) (Offer.Learn n) → (t : State) × LearnRow s n t
learn_row s n p k x h =
    let c = learn_ready n p s k h in
    let r = learnt_from s.clauses s.trail.entries x n c in (
      after_learning n r.steps r.lits r.lit r.level s,
      record {
        conflict = c;
        steps = r.steps;
        lits = r.lits;
        learnt = (c.clause, c.stored, r.derived);
        distinct = r.distinct;
        lit = r.lit;
        level = r.level;
        asserting = r.asserting;
        after = refl;
      },
    )

pub steps_go_on : StepsGoOn
steps_go_on p b events s k (Offer.Learn n) search h is offered = learn_row s n p k (reached_good p b events s h).lawful.trail offered
steps_go_on p b events s k (Offer.Unit' n) search h is offered = let r = unit_ready n p s k offered in (put r.1.0 n s, record { quiet = r.0; lit = r.1.0; unit = r.1.1; after = refl })
steps_go_on p b events s k (Offer.Take e) search h is offered = let r = take_ready e p s k offered in (read_one e s, record { quiet = r.0; left = r.1; after = refl })
steps_go_on p b events s k (Offer.Lemma e d) search h is offered =
    let w = lemma_is_due p b events s k e d (searchable_are_sorted p search) h is offered in
    let quiet = quiet_at s.trail.entries 0 s.clauses (quiet_two p s k (Offer.Lemma e d) (omega arith) offered).0 in
    let falsified = w.asks w.lits w.due in
    (with_literals w.lits s, record { lits = w.lits; due = w.due; distinct = w.distinct; known = w.known w.lits w.due; new = false_new s w.lits quiet falsified; false_here = falsified; after = refl })
steps_go_on p b events s k (Offer.Imply e d) search h is offered =
    let w = imply_is_due p b events s k e d (searchable_are_sorted p search) h is offered in
    let units = (append_none (units_from 0 s.trail.entries s.clauses) (takes_of s) (quiet_two p s k (Offer.Imply e d) (omega arith) offered).1).0 in
    let u = w.asks w.lits w.due in (
      put (lit_in s.held.atoms u.0) (length s.clauses) (with_literals w.lits s),
      record {
        lits = w.lits;
        due = w.due;
        distinct = w.distinct;
        known = w.known w.lits w.due;
        new = unit_new_in_runs p b events s w.lits u.0 h (λ i c at. not_unit s.trail.entries 0 s.clauses i c units at) u.1;
        lit = u.0;
        unit = u.1;
        after = refl;
      },
    )
steps_go_on p b events s k Offer.Turn search h is offered = let r = turn_ready p s k offered in (record (back_to 0 s) { free = true }, record { bounded = r.0; refuted = r.1; after = refl })
steps_go_on p b events s k (Offer.Decide l) search h is offered = decide_carried p b s k l (s.decisions == b.decisions) refl (runs_are_within_budget p b events s h).decisions (decide_ready l p s k offered)
steps_go_on p b events s k (Offer.Split a c) search h is offered = (know (equality a c) s, split_met p s k is (reached_chosen p b events s h) (reached_rise p b events s h) a c offered)
steps_go_on p b events s k (Offer.Instance i env) search h is offered = instance_carried p b s k i env (s.instances == b.instances) refl (runs_are_within_budget p b events s h).instances (λ room. instance_is_met p b events s k i env search h is offered room)
steps_go_on p b events s k Offer.Raise search h is offered = (raised s, raise_is_met p b events s k (searchable_are_sorted p search) h offered)
steps_go_on p b events s k (Offer.Answer Word.Sat) search h is offered = (s, (sat_is_met p b s k offered, refl))
steps_go_on p b events s k (Offer.Answer Word.Unsat) search h is offered = (s, (unsat_ready p s k offered, refl))
steps_go_on p b events s k (Offer.Answer Word.Unknown) search h is offered = let most = at_most_seven p s k (Offer.Answer Word.Unknown) offered in absurd (omega (arith, most))
