-- Each bound has taken a decision of its own: until then it stands in no clause and not on the trail.
use Rattle.std.proofs.Common.{◌≡◌, ◌≢◌, ℕ, zero, suc, ◌+◌, ◌-◌, ◌≤◌, ◌<◌, ◌⊎◌, ◌==◌, ◌&&◌, Bool, true, false, not, cond, List, [], ◌∷◌, ◌++◌, length, map, slice_get, Some, None, inl, inr, refl, sym, ap, subst, ◌∙◌, arith}
use Rattle.std.specs.Prelude.{Option, option_and_then}
use Rattle.std.specs.List.{flat_map, range_with_len}
use Rattle.std.proofs.lemmas.Bool.{and_parts, cases_Bool, cases_lt, eqb-true, false≢true, true≢false}
use Rattle.fm_base.specs.Resolution.{Has}
use Rattle.fm_base.specs.declared.ids.Lit.{Lit}
use Rattle.fm_base.specs.declared.ids.Reader.{Reader}
use Rattle.fm_base.proofs.Resolution.{mapped_has}
use Rattle.fm_bank.specs.Instances.{equality}
use Rattle.fm_bank.specs.Interning.{atom_number, find_atom, is_same_atom, lit_in, with_atoms}
use Rattle.fm_bank.specs.declared.atom.Atom.{Atom}
use Rattle.fm_bank.specs.declared.clause.Clause.{Clause as FirstOrderClause}
use Rattle.fm_bank.specs.declared.literal.Literal.{Literal}
use Rattle.fm_bank.proofs.Atoms.{is_same_atom-refl, same_atom}
use Rattle.fm_bank.proofs.Growing.{atoms_fronts}
use Rattle.fm_guide.specs.declared.event.Event.{Event}
use Rattle.fm_rounds.proofs.Members.{any_in}
use Rattle.fm_sat.specs.Learning.{IsAsserting, Steps}
use Rattle.fm_sat.proofs.Explaining.{unit_reason}
use Rattle.fm_trail.specs.declared.entry.Entry.{Entry}
use Rattle.fm_trail.specs.Trail.{AreLevelled, AreOver, are_false, implied, is_false, is_value, up_to}
use Rattle.fm_trail.proofs.Going.{level_most}
use Rattle.fm_trail.proofs.Places.{get_push}
use Rattle.fm_steps.specs.Content.{is_size}
use Rattle.fm_steps.specs.Facts.{AreClausesOver, AtomsAreKnown, is_size_in}
use Rattle.fm_steps.specs.Going.{BoundsAreCounted}
use Rattle.fm_steps.specs.Lemmas.{Due, FalseOrUnit, IsDue, are_known, bound_order, is_known, literal_fails}
use Rattle.fm_steps.specs.Offered.{raised}
use Rattle.fm_steps.specs.Picks.{Known, Settles, clique_lemma, pick_literals}
use Rattle.fm_steps.specs.Rows.{Offer, Row, after_learning, instance_literals}
use Rattle.fm_steps.specs.Runs.{IsStart, Run, carried}
use Rattle.fm_steps.specs.Sizes.{card, holds, is_refuted, is_refuted_by, is_refuting, lit}
use Rattle.fm_steps.specs.Start.{empty_state, first_state, with_elements, with_first_sum, with_ground_clauses}
use Rattle.fm_steps.specs.State.{Budget, Clause, Problem, State, know_all, read_by, value_by, with_literals}
use Rattle.fm_steps.proofs.Bounded.{entry_by, found_at, refuted_false}
use Rattle.fm_steps.proofs.Guarded.{instance_ground, read_ground, value_ground}
use Rattle.fm_steps.proofs.InRow.{IsOrdered, begun_ordered, has_known, pairs_plain, step_ordered}
use Rattle.fm_steps.proofs.Known.{adds, clauses_more as over_more, row_known}
use Rattle.fm_steps.proofs.Lists.{Has-append, Has-get, only_one}
use Rattle.fm_steps.proofs.Numbers.{all_there, get_place, get_within, grows, known_one, with_all_known}
use Rattle.fm_steps.proofs.Offered.{true_parts}
use Rattle.fm_steps.proofs.Starts.{start_bound, start_free, start_trail}
use Rattle.fm_steps.proofs.Trails.{back_entry, denied}
use Rattle.fm_steps.proofs.Written.{has_place}

-- the atom of a number is a bound
abbrev is_bound_in : ℕ → Option Atom → Bool
is_bound_in n None = false
is_bound_in n (Some a) = is_same_atom (Atom.Bound n) a

abbrev bound_at : ℕ → List Atom → ℕ → Bool
bound_at n atoms k = is_bound_in n (slice_get atoms k)

not_size : (n : ℕ) (a : Atom) → is_size a ≡ false → is_same_atom (Atom.Bound n) a ≡ false
not_size n (Atom.Equal a b) e = refl
not_size n (Atom.Pred t) e = refl
not_size n (Atom.Card u k) e = absurd (true≢false e)
not_size n (Atom.Bound m) e = absurd (true≢false e)

at_same : (n : ℕ) (ls : List Literal) (atoms : List Atom) (k : ℕ) → k < length atoms → bound_at n (with_atoms atoms ls) k ≡ bound_at n atoms k
at_same n ls atoms k lt = let f = atoms_fronts ls atoms in ap (λ (as' : List Atom). bound_at n as' k) (sym f.1) ∙ ap (is_bound_in n) (get_within atoms f.0 k lt)

at_number : (n : ℕ) (ls : List Literal) (atoms : List Atom) (l : Literal) → Has ls l → bound_at n (with_atoms atoms ls) (atom_number (with_atoms atoms ls) l.atom) ≡ is_same_atom (Atom.Bound n) l.atom
at_number n ls atoms l h = ap (is_bound_in n) (get_place (with_atoms atoms ls) l.atom (all_there ls atoms l h))

at_found : (n : ℕ) (atoms : List Atom) (k : ℕ) → find_atom atoms (Atom.Bound n) ≡ Some k → bound_at n atoms k ≡ true
at_found n atoms k e = ap (is_bound_in n) (found_at atoms (Atom.Bound n) k e) ∙ is_same_atom-refl (Atom.Bound n)

-- no entry and no clause has it
abbrev TrailLacks : ℕ → List Atom → List Entry → Type 0
TrailLacks n atoms es = (i : ℕ) (e : Entry) → slice_get es i ≡ Some e → bound_at n atoms e.lit.atom.0 ≡ false

abbrev ClausesLack : ℕ → List Atom → List Clause → Type 0
ClausesLack n atoms cs = (c : Clause) (l : Lit) → Has cs c → Has c l → bound_at n atoms l.atom.0 ≡ false

trail_more : (n : ℕ) (ls : List Literal) (atoms : List Atom) (es : List Entry) → AreOver (length atoms) es → TrailLacks n atoms es → TrailLacks n (with_atoms atoms ls) es
trail_more n ls atoms es over h i e at = at_same n ls atoms e.lit.atom.0 (over i e at) ∙ h i e at

clauses_more : (n : ℕ) (ls : List Literal) (atoms : List Atom) (cs : List Clause) → AreClausesOver (length atoms) cs → ClausesLack n atoms cs → ClausesLack n (with_atoms atoms ls) cs
clauses_more n ls atoms cs over h c l q r = let p = has_place cs c q in at_same n ls atoms l.atom.0 (over p.0 c l p.1 r) ∙ h c l q r

clauses_push : (n : ℕ) (atoms : List Atom) (cs : List Clause) (c : Clause) → ClausesLack n atoms cs → ((l : Lit) → Has c l → bound_at n atoms l.atom.0 ≡ false) → ClausesLack n atoms (cs ++ c ∷ [])
clauses_push n atoms cs c h new d l q r = elim (Has-append cs (c ∷ []) d q) [ inl a ↦ h d l a r | inr a ↦ new l (subst (λ (x : Clause). Has x l) (sym (only_one c d a)) r) ]

clauses_with : (n : ℕ) (ls : List Literal) (atoms : List Atom) (cs : List Clause) → AreClausesOver (length atoms) cs → ClausesLack n atoms cs → ((l : Literal) → Has ls l → is_same_atom (Atom.Bound n) l.atom ≡ false) → ClausesLack n (with_atoms atoms ls) (cs ++ map (lit_in (with_atoms atoms ls)) ls ∷ [])
clauses_with n ls atoms cs over h other =
    clauses_push n (with_atoms atoms ls) cs (map (lit_in (with_atoms atoms ls)) ls) (clauses_more n ls atoms cs over h)
    (λ l q. let w = mapped_has (lit_in (with_atoms atoms ls)) ls l q in
    subst (λ (x : Lit). bound_at n (with_atoms atoms ls) x.atom.0 ≡ false) w.is (at_number n ls atoms w.lit w.has ∙ other w.lit w.has))

trail_push : (n : ℕ) (atoms : List Atom) (es : List Entry) (e : Entry) → TrailLacks n atoms es → bound_at n atoms e.lit.atom.0 ≡ false → TrailLacks n atoms (es ++ e ∷ [])
trail_push n atoms es e h new i f at = elim (get_push es e i f at) [ inl old ↦ h i f old | inr q ↦ subst (λ (x : Entry). bound_at n atoms x.lit.atom.0 ≡ false) q.1 new ]

trail_back : (n : ℕ) (atoms : List Atom) (es : List Entry) (level : ℕ) → AreLevelled 0 es → TrailLacks n atoms es → TrailLacks n atoms (up_to level es)
trail_back n atoms es level levels h i e at = h i e (back_entry es level i e levels at).0

-- a false literal's atom is on the trail
false_lacks : (n : ℕ) (atoms : List Atom) (es : List Entry) (l : Lit) → TrailLacks n atoms es → is_false es l ≡ true → bound_at n atoms l.atom.0 ≡ false
false_lacks n atoms es l h e = let d = denied es l e in subst (λ k. bound_at n atoms k ≡ false) d.atom (h d.place d.entry d.at)

one_false : (es : List Entry) (ls : List Lit) (k : Lit) → are_false es ls ≡ true → Has ls k → is_false es k ≡ true
one_false es [] k e h = absurd h
one_false es (x ∷ ls) k e (inl q) = subst (λ (y : Lit). is_false es y ≡ true) q (and_parts (is_false es x) (are_false es ls) e).0
one_false es (x ∷ ls) k e (inr q) = one_false es ls k (and_parts (is_false es x) (are_false es ls) e).1 q

-- the bound is paid for, or isn't in use
record IsFresh (m : ℕ) (s : State) : Type 0 where
  low : s.bound ≤ m + s.decisions
  bounded : s.free ≡ false
  trail : TrailLacks s.bound s.held.atoms s.trail.entries
  clauses : ClausesLack s.bound s.held.atoms s.clauses

abbrev IsPaid : ℕ → State → Type 0
IsPaid m s = (s.bound + 1 ≤ m + s.decisions) ⊎ IsFresh m s

fresh_by : (m : ℕ) (s t : State) → t ≡ s → IsFresh m s → IsFresh m t
fresh_by m s t e h = subst (IsFresh m) (sym e) h

still_paid : (m : ℕ) (s t : State) → t.bound ≡ s.bound → s.decisions ≤ t.decisions → s.bound + 1 ≤ m + s.decisions → t.bound + 1 ≤ m + t.decisions
still_paid m s t b d h = omega (arith, b, d, h)

module _ (p : Problem) (s : State) (ordered : IsOrdered p s) where
  abbrev m : ℕ
  m = p.sig.sorts

  abbrev atoms : List Atom
  atoms = s.held.atoms

  abbrev es : List Entry
  es = s.trail.entries

  all_known : AtomsAreKnown s
  all_known = ordered.bounded.good.lawful.atoms

  -- a true atom is on the trail
  true_there : (n : ℕ) → TrailLacks n atoms es → holds s true (Atom.Bound n) ≡ true → ⊥
  true_there n lacks h =
      let w = true_parts s (Atom.Bound n) (find_atom atoms (Atom.Bound n)) refl h in
      let d = entry_by es w.0 true w.2 in
      true≢false (sym (at_found n atoms w.0 w.1) ∙ subst (λ k. bound_at n atoms k ≡ false) d.atom (lacks d.place d.entry d.at))

  false_parts : (a : Atom) → holds s false a ≡ true → (n : ℕ) × (find_atom atoms a ≡ Some n) × (value_by es n ≡ Some false)
  false_parts a h = by_number (find_atom atoms a) refl h
    where
      some_false : (o : Option Bool) → is_value o false ≡ true → o ≡ Some false
      some_false None e = absurd (false≢true e)
      some_false (Some true) e = absurd (false≢true e)
      some_false (Some false) e = refl

      by_number : (o : Option ℕ) → find_atom atoms a ≡ o → is_value (option_and_then (value_by es) o) false ≡ true → (n : ℕ) × (find_atom atoms a ≡ Some n) × (value_by es n ≡ Some false)
      by_number None e q = absurd (false≢true q)
      by_number (Some n) e q = (n, e, some_false (value_by es n) q)

  false_there : (n : ℕ) → TrailLacks n atoms es → holds s false (Atom.Bound n) ≡ true → ⊥
  false_there n lacks h =
      let w = false_parts (Atom.Bound n) h in
      let d = entry_by es w.0 false w.2 in
      true≢false (sym (at_found n atoms w.0 w.1) ∙ subst (λ k. bound_at n atoms k ≡ false) d.atom (lacks d.place d.entry d.at))

  refuted_there : (n : ℕ) → TrailLacks n atoms es → is_refuted s (Atom.Bound n) ≡ true → ⊥
  refuted_there n lacks r = by_number (find_atom atoms (Atom.Bound n)) refl r
    where
      by_number : (o : Option ℕ) → find_atom atoms (Atom.Bound n) ≡ o → is_refuted_by es o ≡ true → ⊥
      by_number None e q = false≢true q
      by_number (Some k) e q =
          let w = any_in (is_refuting k) es q in
          let at = has_place es w.0 w.1 in
          let both = (and_parts (w.0.lit.atom.0 == k && not w.0.lit.positive) (w.0.level == 0) w.2).0 in
          let same = eqb-true w.0.lit.atom.0 k (and_parts (w.0.lit.atom.0 == k) (not w.0.lit.positive) both).0 in
          true≢false (sym (at_found n atoms k e) ∙ subst (λ j. bound_at n atoms j ≡ false) same (lacks at.0 w.0 at.1))

  -- a smaller bound isn't true
  smaller_true : (j : ℕ) → j + 1 ≡ s.bound → holds s true (Atom.Bound j) ≡ true → ⊥
  smaller_true j same h =
      let w = true_parts s (Atom.Bound j) (find_atom atoms (Atom.Bound j)) refl h in
      let d = entry_by es w.0 true w.2 in
      let size : is_size_in (slice_get atoms d.entry.lit.atom.0) ≡ true = ap is_size_in (ap (slice_get atoms) d.atom ∙ found_at atoms (Atom.Bound j) w.0 w.1) in
      let above = (ordered.bounded.good.sizes d.place d.entry d.at size d.sign).0 in
      let most = level_most 0 es d.place d.entry ordered.bounded.good.lawful.trail.levels d.at in
      let low = ordered.row.least in
      let refuted : is_refuted s (Atom.Bound j) ≡ true = elim (cases_lt j m) [
        | inl few ↦ (ordered.bounded.large (omega (arith, above, most))).sum j (omega (arith, few, low, same))
        | inr many ↦ ordered.bounded.good.lawful.bounds.smaller j (omega (arith, many)) (omega (arith, same))
      ] in
      both_signs w.0 w.1 w.2 refuted
    where
      both_signs : (n : ℕ) → find_atom atoms (Atom.Bound j) ≡ Some n → value_by es n ≡ Some true → is_refuted s (Atom.Bound j) ≡ true → ⊥
      both_signs n found value r =
          let f = refuted_false s (Atom.Bound j) n ordered.bounded.good.lawful.trail found r in
          false≢true (sym (ap (λ (o : Option Bool). is_value o false) value) ∙ f)

  module _ (fresh : IsFresh m s) where
    -- a lemma that is due doesn't have the bound
    pair_lacks : (a b : Atom) (ls : List Literal) (l : Literal) → ls ≡ lit false a ∷ (lit true b ∷ []) → is_same_atom (Atom.Bound s.bound) a ≡ false → is_same_atom (Atom.Bound s.bound) b ≡ false → Has ls l → is_same_atom (Atom.Bound s.bound) l.atom ≡ false
    pair_lacks a b ls l e fa fb h = by_place (subst (λ (xs : List Literal). Has xs l) e h)
      where
        by_place : Has (lit false a ∷ (lit true b ∷ [])) l → is_same_atom (Atom.Bound s.bound) l.atom ≡ false
        by_place (inl q) = subst (λ (x : Literal). is_same_atom (Atom.Bound s.bound) x.atom ≡ false) q fa
        by_place (inr q) = subst (λ (x : Literal). is_same_atom (Atom.Bound s.bound) x.atom ≡ false) (only_one (lit true b) l q) fb

    other_number : (n : ℕ) → n ≢ s.bound → is_same_atom (Atom.Bound s.bound) (Atom.Bound n) ≡ false
    other_number n ne =
        elim (cases_Bool (is_same_atom (Atom.Bound s.bound) (Atom.Bound n))) [
          | inl t ↦ absurd (ne (sym (eqb-true s.bound n t)))
          | inr f ↦ f
        ]

    -- the order lemma by which the bound would be implied isn't due
    no_order : (j : ℕ) → j + 1 ≡ s.bound → FalseOrUnit s (bound_order j) → ⊥
    no_order j same (inl f) = false_there s.bound fresh.trail (subst (λ n. holds s false (Atom.Bound n) ≡ true) same (and_parts (literal_fails s (lit true (Atom.Bound (j + 1)))) true (and_parts (literal_fails s (lit false (Atom.Bound j))) _ f).1).0)
    no_order j same (inr u) = by_place u.1.has
      where
        by_place : Has (bound_order j) u.0 → ⊥
        by_place (inl e) = false_there s.bound fresh.trail (subst (λ n. holds s false (Atom.Bound n) ≡ true) same (u.1.others (lit true (Atom.Bound (j + 1))) (inr (inl refl)) (λ q. true≢false (ap (λ (x : Literal). x.positive) (q ∙ sym e)))))
        by_place (inr h) =
            let is = only_one (lit true (Atom.Bound (j + 1))) u.0 h in
            smaller_true j same (u.1.others (lit false (Atom.Bound j)) (inl refl) (λ q. false≢true (ap (λ (x : Literal). x.positive) (q ∙ sym is))))

    bound_lacks : (n : ℕ) (ls : List Literal) (l : Literal) → ls ≡ bound_order n → are_known s ls ≡ true → FalseOrUnit s ls → Has ls l → is_same_atom (Atom.Bound s.bound) l.atom ≡ false
    bound_lacks n ls l e known asks h =
        let there : is_known s (Atom.Bound (n + 1)) ≡ true = known_one atoms (bound_order n) (lit true (Atom.Bound (n + 1))) (inr (inl refl)) (subst (λ (xs : List Literal). are_known s xs ≡ true) e known) in
        let high = ((ordered.row.bounds (n + 1)).0 there).1 in
        let asks' = subst (FalseOrUnit s) e asks in
        pair_lacks (Atom.Bound n) (Atom.Bound (n + 1)) ls l e (other_number n (λ q. omega (arith, q, high))) (other_number (n + 1) (λ q. no_order n q asks')) h

    due_lacks : (k : Known) (r : Reader) (d : Due) (ls : List Literal) → IsDue s k r d ls → (l : Literal) → Has ls l → is_same_atom (Atom.Bound s.bound) l.atom ≡ false
    due_lacks k Reader.Congruence Due.Clash ls h l q = not_size s.bound l.atom (read_ground atoms (read_by Reader.Congruence s) l (h.read l q))
    due_lacks k Reader.Congruence (Due.Value a v) ls h l q = not_size s.bound l.atom (value_ground atoms (read_by Reader.Congruence s) k.congruence a v l h.decided (h.read l q))
    due_lacks k Reader.Regions (Due.Clique u) ls h l q = by_place (subst (λ (xs : List Literal). Has xs l) h.is q)
      where
        by_place : Has (clique_lemma u h.pick.terms) l → is_same_atom (Atom.Bound s.bound) l.atom ≡ false
        by_place (inl e) = subst (λ (x : Literal). is_same_atom (Atom.Bound s.bound) x.atom ≡ false) e refl
        by_place (inr g) = not_size s.bound l.atom (pairs_plain h.pick.terms l g)
    due_lacks k Reader.Sum Due.SumBound ls h l q = absurd (true_there s.bound fresh.trail (and_parts _ (holds s true (Atom.Bound s.bound)) h.due).1)
    due_lacks k Reader.Sum (Due.CardOrder u j) ls h l q = pair_lacks (card u j) (card u (j + 1)) ls l h.is refl refl q
    due_lacks k Reader.Sum (Due.BoundOrder n) ls h l q = bound_lacks n ls l h.is h.known h.asks q
    due_lacks k r d ls h l q = absurd h

    -- each event leaves it so, or pays
    with_fresh : (ls : List Literal) → ((l : Literal) → Has ls l → is_same_atom (Atom.Bound s.bound) l.atom ≡ false) → IsFresh m (with_literals ls s)
    with_fresh ls other = record {
      low = fresh.low;
      bounded = fresh.bounded;
      trail = trail_more s.bound ls atoms es all_known.trail fresh.trail;
      clauses = clauses_with s.bound ls atoms s.clauses all_known.clauses fresh.clauses other;
    }

    learnt_fresh : (n : ℕ) (lits : Clause) (l : Lit) (level : ℕ) (steps : Steps) → IsAsserting es lits l level → IsFresh m (after_learning n steps lits l level s)
    learnt_fresh n lits l level [] a = record {
      low = fresh.low;
      bounded = fresh.bounded;
      trail = trail_push s.bound atoms (up_to level es) (implied (up_to level es) l n) (trail_back s.bound atoms es level ordered.bounded.good.lawful.trail.levels fresh.trail) (false_lacks s.bound atoms es l fresh.trail (one_false es lits l a.falsified a.alone.has));
      clauses = fresh.clauses;
    }
    learnt_fresh n lits l level (step ∷ steps) a = record {
      low = fresh.low;
      bounded = fresh.bounded;
      trail = trail_push s.bound atoms (up_to level es) (implied (up_to level es) l (length s.clauses)) (trail_back s.bound atoms es level ordered.bounded.good.lawful.trail.levels fresh.trail) (false_lacks s.bound atoms es l fresh.trail (one_false es lits l a.falsified a.alone.has));
      clauses = clauses_push s.bound atoms s.clauses lits fresh.clauses (λ k q. false_lacks s.bound atoms es k fresh.trail (one_false es lits k a.falsified q));
    }

    row_fresh : (b : Budget) (k : Known) (o : Offer) (t : State) → Row p b s k o t → IsPaid m t
    row_fresh b k (Offer.Learn n) t r = inr (fresh_by m _ t r.after (learnt_fresh n r.lits r.lit r.level r.steps r.asserting))
    row_fresh b k (Offer.Unit' n) t r =
        let u = (unit_reason s.clauses es n r.lit r.unit).0 in
        let new = fresh.clauses u.clause r.lit (Has-get s.clauses n u.clause u.stored) u.has in
        inr (fresh_by m _ t r.after (record { low = fresh.low; bounded = fresh.bounded; trail = trail_push s.bound atoms es (implied es r.lit n) fresh.trail new; clauses = fresh.clauses }))
    row_fresh b k (Offer.Take e) t r = inr (fresh_by m _ t r.after (record { low = fresh.low; bounded = fresh.bounded; trail = fresh.trail; clauses = fresh.clauses }))
    row_fresh b k (Offer.Lemma e d) t r = inr (fresh_by m _ t r.after (with_fresh r.lits (due_lacks k e d r.lits r.due)))
    row_fresh b k (Offer.Imply e d) t r =
        let w = with_fresh r.lits (due_lacks k e d r.lits r.due) in
        let now = with_atoms atoms r.lits in
        let known = with_all_known atoms r.lits r.known in
        let here : bound_at s.bound now (atom_number now r.lit.atom) ≡ false = at_number s.bound r.lits atoms r.lit r.unit.has ∙ due_lacks k e d r.lits r.due r.lit r.unit.has in
        let new : bound_at s.bound now (atom_number atoms r.lit.atom) ≡ false = subst (λ (as' : List Atom). bound_at s.bound now (atom_number as' r.lit.atom) ≡ false) known here in
        inr (fresh_by m _ t r.after (record { low = fresh.low; bounded = fresh.bounded; trail = trail_push s.bound now es (implied es (lit_in atoms r.lit) (length s.clauses)) w.trail new; clauses = w.clauses }))
    row_fresh b k Offer.Turn t r = absurd (refuted_there s.bound fresh.trail r.refuted)
    row_fresh b k (Offer.Decide l) t r =
        let bound = ap (λ (u : State). u.bound) r.after in
        let decisions = ap (λ (u : State). u.decisions) r.after in
        let low = fresh.low in
        inl (omega (arith, bound, decisions, low))
    row_fresh b k (Offer.Split a c) t r =
        let ls : List Literal = lit true (equality a c) ∷ [] in
        inr (fresh_by m _ t r.after (record { low = fresh.low; bounded = fresh.bounded; trail = trail_more s.bound ls atoms es all_known.trail fresh.trail; clauses = clauses_more s.bound ls atoms s.clauses all_known.clauses fresh.clauses }))
    row_fresh b k (Offer.Instance i env) t r =
        let ls = instance_literals s.held r.clause env in
        inr (fresh_by m _ t r.after (record {
          low = fresh.low;
          bounded = fresh.bounded;
          trail = trail_more s.bound ls atoms es all_known.trail fresh.trail;
          clauses = clauses_with s.bound ls atoms s.clauses all_known.clauses fresh.clauses (λ l q. not_size s.bound l.atom (instance_ground s.held.terms r.clause.lits env l q));
        }))
    row_fresh b k Offer.Raise t r = absurd (true≢false (sym r.free ∙ fresh.bounded))
    row_fresh b k (Offer.Answer w) t r = inr (fresh_by m _ t r.1 fresh)

  -- once it is paid for it stays so, and the next one isn't in use
  new_bound : (k : ℕ) → k < length atoms → bound_at (s.bound + 1) atoms k ≡ false
  new_bound k lt =
      elim (cases_Bool (bound_at (s.bound + 1) atoms k)) [
        | inl t ↦ (let known = there (slice_get atoms k) refl t in
            let high = ((ordered.row.bounds (s.bound + 1)).0 known).1 in
            absurd (omega (arith, high)))
        | inr f ↦ f
      ]
    where
      there : (o : Option Atom) → slice_get atoms k ≡ o → is_bound_in (s.bound + 1) o ≡ true → is_known s (Atom.Bound (s.bound + 1)) ≡ true
      there None e q = absurd (false≢true q)
      there (Some a) e q = has_known atoms (Atom.Bound (s.bound + 1)) (Has-get atoms k (Atom.Bound (s.bound + 1)) (e ∙ ap Some (sym (same_atom (Atom.Bound (s.bound + 1)) a q))))

  raised_fresh : s.bound + 1 ≤ m + s.decisions → IsFresh m (raised s)
  raised_fresh paid =
      let ls : List Literal = lit true (Atom.Bound (s.bound + 1)) ∷ [] in
      let n = s.bound + 1 in
      let old : TrailLacks n atoms es = λ i e at. new_bound e.lit.atom.0 (all_known.trail i e at) in
      let back = trail_back n atoms es 0 ordered.bounded.good.lawful.trail.levels old in
      record {
        low = paid;
        bounded = refl;
        trail = λ i e at. at_same n ls atoms e.lit.atom.0 (all_known.trail i e (back_entry es 0 i e ordered.bounded.good.lawful.trail.levels at).0) ∙ back i e at;
        clauses = λ c l q r. let w = has_place s.clauses c q in let lt = all_known.clauses w.0 c l w.1 r in at_same n ls atoms l.atom.0 lt ∙ new_bound l.atom.0 lt;
      }

  learnt_same : (n : ℕ) (lits : Clause) (l : Lit) (level : ℕ) (steps : Steps) → s.bound + 1 ≤ m + s.decisions → (after_learning n steps lits l level s).bound + 1 ≤ m + (after_learning n steps lits l level s).decisions
  learnt_same n lits l level [] h = h
  learnt_same n lits l level (step ∷ steps) h = h

  abbrev Holds : State → Type 0
  Holds t = t.bound + 1 ≤ m + t.decisions

  row_paid : (b : Budget) (k : Known) (o : Offer) (t : State) → Holds s → Row p b s k o t → IsPaid m t
  row_paid b k (Offer.Learn n) t h r = inl (subst Holds (sym r.after) (learnt_same n r.lits r.lit r.level r.steps h))
  row_paid b k (Offer.Unit' n) t h r = inl (subst Holds (sym r.after) h)
  row_paid b k (Offer.Take e) t h r = inl (subst Holds (sym r.after) h)
  row_paid b k (Offer.Lemma e d) t h r = inl (subst Holds (sym r.after) h)
  row_paid b k (Offer.Imply e d) t h r = inl (subst Holds (sym r.after) h)
  row_paid b k Offer.Turn t h r = inl (subst Holds (sym r.after) h)
  row_paid b k (Offer.Decide l) t h r = inl (subst Holds (sym r.after) (omega (arith, h)))
  row_paid b k (Offer.Split a c) t h r = inl (subst Holds (sym r.after) h)
  row_paid b k (Offer.Instance i env) t h r = inl (subst Holds (sym r.after) h)
  row_paid b k Offer.Raise t h r = inr (fresh_by m _ t r.after (raised_fresh h))
  row_paid b k (Offer.Answer w) t h r = inl (subst Holds (sym r.1) h)

  event_paid : (b : Budget) (k : Known) (o : Offer) (t : State) → IsPaid m s → Row p b s k o t → IsPaid m t
  event_paid b k o t (inl h) r = row_paid b k o t h r
  event_paid b k o t (inr h) r = row_fresh h b k o t r

-- the choice of tests changes nothing of it
settled_paid : (m : ℕ) (mid t : State) → AtomsAreKnown mid → IsPaid m mid → Settles mid t → IsPaid m t
settled_paid m mid t known (inl h) s = inl (subst (λ (u : State). u.bound + 1 ≤ m + u.decisions) (sym s.after) h)
settled_paid m mid t known (inr h) s =
    let ls = flat_map pick_literals s.picks in
    inr (fresh_by m _ t s.after (record { low = h.low; bounded = h.bounded; trail = trail_more mid.bound ls mid.held.atoms mid.trail.entries known.trail h.trail; clauses = clauses_more mid.bound ls mid.held.atoms mid.clauses known.clauses h.clauses }))

run_paid : (p : Problem) (b : Budget) (s : State) (events : List Event) (t : State) → IsOrdered p s → IsPaid p.sig.sorts s → Run p b s events t → IsPaid p.sig.sorts t
run_paid p b s [] t ordered h r = subst (IsPaid p.sig.sorts) (sym r) h
run_paid p b s (e ∷ more) t ordered h r =
    let step = r.1 in
    let o = carried b s step.offer in
    let lawful = ordered.bounded.good.lawful in
    let known = row_known p b s step.known o step.move.mid lawful.atoms lawful.trail step.move.row in
    run_paid p b r.0 more t (step_ordered p b s e r.0 ordered step) (settled_paid p.sig.sorts step.move.mid r.0 known (event_paid p s ordered b step.known o step.move.mid h step.move.row) step.move.settles) r.3

-- at the start the bound stands nowhere
record IsClear (n : ℕ) (s : State) : Type 0 where
  over : AreClausesOver (length s.held.atoms) s.clauses
  lacks : ClausesLack n s.held.atoms s.clauses

clear_with : (n : ℕ) (s : State) (ls : List Literal) → ((l : Literal) → Has ls l → is_same_atom (Atom.Bound n) l.atom ≡ false) → IsClear n s → IsClear n (with_literals ls s)
clear_with n s ls other h = record { over = adds s.held.atoms s.clauses ls h.over; lacks = clauses_with n ls s.held.atoms s.clauses h.over h.lacks other }

clear_by : (n : ℕ) (c : Bool) (s : State) (ls : List Literal) → ((l : Literal) → Has ls l → is_same_atom (Atom.Bound n) l.atom ≡ false) → IsClear n s → IsClear n (cond c (with_literals ls s) s)
clear_by n true s ls other h = clear_with n s ls other h
clear_by n false s ls other h = h

clear_ground : (n : ℕ) (cs : List FirstOrderClause) (s : State) → IsClear n s → IsClear n (with_ground_clauses cs s)
clear_ground n [] s h = h
clear_ground n (c ∷ cs) s h = clear_ground n cs _ (clear_by n (length c.vars == 0) s (instance_literals s.held c []) (λ l q. not_size n l.atom (instance_ground s.held.terms c.lits [] l q)) h)

clear_elements : (n : ℕ) (us : List ℕ) (s : State) → IsClear n s → IsClear n (with_elements us s)
clear_elements n [] s h = h
clear_elements n (u ∷ us) s h = clear_elements n us _ (clear_with n s (lit false (card u 0) ∷ []) (λ l q. subst (λ (x : Literal). is_same_atom (Atom.Bound n) x.atom ≡ false) (only_one (lit false (card u 0)) l q) refl) h)

clear_sum : (k n : ℕ) (s : State) → k ≡ n → IsClear n s → IsClear n (with_first_sum k s)
clear_sum zero n s e h = h
clear_sum (suc k) n s e h =
    let cards : List Literal = map (λ u. lit true (card u 0)) (range_with_len 0 (suc k)) in
    let last : Literal = lit false (Atom.Bound k) in
    clear_with n s (cards ++ last ∷ []) (λ l q. elim (Has-append cards (last ∷ []) l q) [
      | inl a ↦ (let w = mapped_has (λ u. lit true (card u 0)) (range_with_len 0 (suc k)) l a in subst (λ (x : Literal). is_same_atom (Atom.Bound n) x.atom ≡ false) w.is refl)
      | inr a ↦ subst (λ (x : Literal). is_same_atom (Atom.Bound n) x.atom ≡ false) (only_one last l a) (elim (cases_Bool (is_same_atom (Atom.Bound n) (Atom.Bound k))) [
        | inl t ↦ (let same = eqb-true n k t in absurd (omega (arith, same, e)))
        | inr f ↦ f
      ])
    ]) h

clear_knows : (n : ℕ) (s : State) (ls : List Literal) → IsClear n s → IsClear n (know_all ls s)
clear_knows n s ls h = record { over = over_more (length s.held.atoms) (length (with_atoms s.held.atoms ls)) s.clauses (grows ls s.held.atoms) h.over; lacks = clauses_more n ls s.held.atoms s.clauses h.over h.lacks }

start_clear : (p : Problem) (s : State) → IsStart p s → IsClear p.sig.sorts s
start_clear p s st =
    let m = p.sig.sorts in
    let s1 = with_ground_clauses p.clauses (empty_state p) in
    let s2 = with_elements (range_with_len 0 m) s1 in
    let s3 = with_first_sum m s2 in
    let empty : IsClear m (empty_state p) = record { over = λ i c l at q. absurd (cc at); lacks = λ c l q r. absurd q } in
    let c3 = clear_sum m m s2 refl (clear_elements m (range_with_len 0 m) s1 (clear_ground m p.clauses (empty_state p) empty)) in
    let first = clear_knows m s3 (lit true (Atom.Bound m) ∷ []) c3 in
    let last = clear_knows m (first_state p) (flat_map pick_literals st.picks) first in
    subst (IsClear m) (sym st.after) (record { over = last.over; lacks = last.lacks })

start_paid : (p : Problem) (s : State) → IsStart p s → IsPaid p.sig.sorts s
start_paid p s st =
    let bound = start_bound p s st in
    let clear = start_clear p s st in
    inr (record {
      low = omega (arith, bound);
      bounded = start_free p s st;
      trail = λ i e at. absurd (cc (subst (λ (xs : List Entry). slice_get xs i ≡ Some e) (start_trail p s st) at));
      clauses = subst (λ n. ClausesLack n s.held.atoms s.clauses) (sym bound) clear.lacks;
    })

counted : (m : ℕ) (s : State) → IsPaid m s → s.bound ≤ m + s.decisions
counted m s (inl h) = omega (arith, h)
counted m s (inr h) = h.low

pub bounds_are_counted : BoundsAreCounted
bounds_are_counted p b events s h = counted p.sig.sorts s (run_paid p b h.first events s (begun_ordered p h.first h.start) (start_paid p h.first h.start) h.run)
