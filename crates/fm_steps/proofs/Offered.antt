-- What is offered is met: Raise, and the lemmas.
use Rattle.std.proofs.Common.{◌≡◌, ◌≢◌, ℕ, zero, suc, ◌+◌, ◌-◌, ◌<◌, ◌⊎◌, ◌==◌, ◌&&◌, Bool, true, false, not, cond, List, [], ◌∷◌, length, take, Some, None, inl, inr, refl, sym, ap, subst, ◌∙◌, arith}
use Rattle.std.specs.Prelude.{Option, option_and_then, slice_get}
use Rattle.std.specs.List.{flat_map, list_all, list_any, range_with_len}
use Rattle.std.proofs.lemmas.Bool.{and_from, and_parts, cases_Bool, cases_lt, eq-eqb, false≢true, lt-ltb, true≢false}
use Rattle.fm_base.specs.Resolution.{AreDistinct, Has}
use Rattle.fm_base.specs.declared.ids.Lit.{Lit}
use Rattle.fm_base.specs.declared.ids.Reader.{Reader}
use Rattle.fm_base.proofs.Resolution.{has_mapped, mapped_has}
use Rattle.fm_bank.specs.Interning.{atom_number, find_atom, is_same_atom, lit_in}
use Rattle.fm_bank.specs.Tests.{Tests}
use Rattle.fm_bank.specs.declared.atom.Atom.{Atom}
use Rattle.fm_bank.specs.declared.literal.Literal.{Literal}
use Rattle.fm_bank.proofs.Atoms.{is_same_atom-refl}
use Rattle.fm_bank.proofs.Once.{one_atom}
use Rattle.fm_guide.specs.declared.event.Event.{Event}
use Rattle.fm_rounds.proofs.Members.{in_any, range_in}
use Rattle.fm_sat.specs.Store.{HasNoFalse}
use Rattle.fm_trail.specs.declared.entry.Entry.{Entry}
use Rattle.fm_trail.specs.Trail.{are_false, is_false, is_none, is_open, is_true, is_value, unit_of, value_of}
use Rattle.fm_steps.specs.Content.{decides, has_clash, is_size}
use Rattle.fm_steps.specs.Facts.{IsLawful, SizesAreAssumed, is_size_in}
use Rattle.fm_steps.specs.Lemmas.{Due, FalseOrUnit, IsOrderLemma, IsUnitLemma, are_known, is_known, literal_fails}
use Rattle.fm_steps.specs.Lines.{IsWellHeld}
use Rattle.fm_steps.specs.Menu.{both_ways, clause_atoms, congruence_offers, first_lemmas, free_decisions, is_wanted, lemmas_of, menu_of, or_else, values_at}
use Rattle.fm_steps.specs.Offered.{FalseLemmasAreNew, PicksHold, RaiseIsMet, UnitLemmasAreNew, raised}
use Rattle.fm_steps.specs.Picks.{ArePicks, IsPickAt, Known, Settles, pick_literals, read_literals}
use Rattle.fm_steps.specs.Rows.{NothingDue, Offer, RaiseRow, is_satisfied}
use Rattle.fm_steps.specs.Runs.{IsReached, Run}
use Rattle.fm_steps.specs.Sizes.{card, holds, is_unvalued, least, least_true, least_with, lit, numbers_with}
use Rattle.fm_steps.specs.State.{Budget, Clause, Pick, Problem, State, value_by}
use Rattle.fm_steps.proofs.Bounded.{IsBounded, entry_by, found_at, reached_bounded}
use Rattle.fm_steps.proofs.Due.{all_in, in_all, known_has}
use Rattle.fm_steps.proofs.Freely.{no_open_size}
use Rattle.fm_steps.proofs.InRow.{of_numbers, take_none}
use Rattle.fm_steps.proofs.Lists.{Has-get, append_none, only_one}
use Rattle.fm_steps.proofs.Menus.{decided_all, quiet_before}
use Rattle.fm_steps.proofs.Numbers.{any_known, find_all, get_place, known_number, known_one}
use Rattle.fm_steps.proofs.Trails.{none_by_number, value_by_number}
use Rattle.fm_steps.proofs.Ready.{drop_true, quiet_at, raise_ready}
use Rattle.fm_steps.proofs.Runs.{runs_stay_held}
use Rattle.fm_steps.proofs.Written.{has_place}

-- the least of some numbers is one of them
least_step : (n : ℕ) (o : Option ℕ) (m : ℕ) → least_with n o ≡ m → (m ≡ n) ⊎ (o ≡ Some m)
least_step n None m e = inl (sym e)
least_step n (Some k) m e =
    elim (cases_lt n k) [
      | inl lt ↦ inl (omega (arith, lt, e))
      | inr ge ↦ inr (ap Some (omega (arith, ge, e)))
    ]

pub least_in : (ns : List ℕ) (m : ℕ) → least ns ≡ Some m → Has ns m
least_in [] m e = absurd (cc e)
least_in (n ∷ ns) m e =
    elim (least_step n (least ns) m (cc e)) [
      | inl same ↦ inl (sym same)
      | inr more ↦ inr (least_in ns m more)
    ]

-- a test is of a true bound
pick_bound : (s : State) (u : ℕ) (o : Option ℕ) (q : Option Pick) (pick : Pick) (t : Tests) (classes : List ℕ) → least_true s u ≡ o → IsPickAt t classes o q → q ≡ Some pick → holds s true (card u (length pick.terms - 1)) ≡ true
pick_bound s u None q pick t classes e h f = absurd (cc (sym h ∙ f))
pick_bound s u (Some k) None pick t classes e h f = absurd (cc f)
pick_bound s u (Some k) (Some x) pick t classes e h f =
    let same : x ≡ pick = cc f in
    let count : length pick.terms ≡ k + 1 = subst (λ (y : Pick). length y.terms ≡ k + 1) same h.1.count in
    let is : length pick.terms - 1 ≡ k = omega (arith, count) in
    subst (λ n. holds s true (card u n) ≡ true) (sym is) (of_numbers s true u k (least_in (numbers_with s true u) k e))

picks_from : (s : State) (t : Tests) (v : ℕ) (ps : List (Option Pick)) → ArePicks s t v ps → (i : ℕ) (pick : Pick) → slice_get ps i ≡ Some (Some pick) → holds s true (card (v + i) (length pick.terms - 1)) ≡ true
picks_from s t v [] h i pick e = absurd (cc e)
picks_from s t v (q ∷ ps) h zero pick e = let z : v + 0 ≡ v = omega arith in subst (λ n. holds s true (card n (length pick.terms - 1)) ≡ true) (sym z) (pick_bound s v (least_true s v) q pick t _ refl h.0 (cc e))
picks_from s t v (q ∷ ps) h (suc i) pick e = let z : v + 1 + i ≡ v + suc i = omega arith in subst (λ n. holds s true (card n (length pick.terms - 1)) ≡ true) z (picks_from s t (v + 1) ps h.1 i pick e)

holds_step : (f : ℕ → Option Bool) (v : Bool) (o q : Option ℕ) → ((n : ℕ) → o ≡ Some n → q ≡ Some n) → is_value (option_and_then f o) v ≡ true → is_value (option_and_then f q) v ≡ true
holds_step f v None q same h = absurd (false≢true h)
holds_step f v (Some n) q same h = subst (λ (x : Option ℕ). is_value (option_and_then f x) v ≡ true) (sym (same n refl)) h

pub settled_hold : (mid t : State) → Settles mid t → PicksHold t
settled_hold mid t m u pick e =
    let ls = flat_map pick_literals m.picks in
    let there : slice_get m.picks u ≡ Some (Some pick) = subst (λ (x : State). slice_get x.picks u ≡ Some (Some pick)) m.after e in
    let z : 0 + u ≡ u = omega arith in
    let before : holds mid true (card u (length pick.terms - 1)) ≡ true = subst (λ n. holds mid true (card n (length pick.terms - 1)) ≡ true) z (picks_from mid m.known.regions 0 m.picks m.are_picks u pick there) in
    subst (λ (x : State). holds x true (card u (length pick.terms - 1)) ≡ true) (sym m.after) (holds_step (value_by mid.trail.entries) true (find_atom mid.held.atoms (card u (length pick.terms - 1))) _ (λ n f. find_all ls mid.held.atoms (card u (length pick.terms - 1)) n f) before)

run_hold : (p : Problem) (b : Budget) (s : State) (es : List Event) (t : State) → PicksHold s → Run p b s es t → PicksHold t
run_hold p b s [] t h r = subst PicksHold (sym r) h
run_hold p b s (e ∷ es) t h r = run_hold p b r.0 es t (settled_hold r.1.move.mid r.0 r.1.move.settles) r.3

pub reached_hold : (p : Problem) (b : Budget) (events : List Event) (s : State) → IsReached p b events s → PicksHold s
reached_hold p b events s h = run_hold p b h.first events s (settled_hold _ h.first h.start) h.run

-- in the free phase no size atom is true
pub some_true : (o : Option Bool) → is_value o true ≡ true → o ≡ Some true
some_true None e = absurd (false≢true e)
some_true (Some true) e = refl
some_true (Some false) e = absurd (false≢true e)

pub true_parts : (s : State) (a : Atom) (o : Option ℕ) → find_atom s.held.atoms a ≡ o → is_value (option_and_then (value_by s.trail.entries) o) true ≡ true → (n : ℕ) × (find_atom s.held.atoms a ≡ Some n) × (value_by s.trail.entries n ≡ Some true)
true_parts s a None e h = absurd (false≢true h)
true_parts s a (Some n) e h = (n, e, some_true (value_by s.trail.entries n) h)

none_true : (s : State) (a : Atom) → SizesAreAssumed s → s.free ≡ true → is_size a ≡ true → holds s true a ≡ true → ⊥
none_true s a sizes free size h =
    let w = true_parts s a (find_atom s.held.atoms a) refl h in
    let d = entry_by s.trail.entries w.0 true w.2 in
    let at : is_size_in (slice_get s.held.atoms d.entry.lit.atom.0) ≡ true = ap is_size_in (ap (slice_get s.held.atoms) d.atom ∙ found_at s.held.atoms a w.0 w.1) ∙ size in
    false≢true (sym (sizes d.place d.entry d.at at d.sign).1 ∙ free)

-- nothing is due where no lemma is offered
pub cond_none : (b : Bool) (x : Offer) → cond b (x ∷ []) [] ≡ [] → b ≡ false
cond_none true x e = absurd (cc e)
cond_none false x e = refl

values_none : (c d : Bool) (x y : Offer) → cond c (x ∷ []) (cond d (y ∷ []) []) ≡ [] → (c ≡ false) × (d ≡ false)
values_none true d x y e = absurd (cc e)
values_none false true x y e = absurd (cc e)
values_none false false x y e = (refl, refl)

pub value_none : (s : State) (k : Known) (a : Atom) (v : Bool) → values_at s k a ≡ [] → is_unvalued s a ≡ true → decides k.congruence a v ≡ true → ⊥
value_none s k a true e u d = true≢false (sym (and_from (is_unvalued s a) (decides k.congruence a true) u d) ∙ (values_none (is_unvalued s a && decides k.congruence a true) (is_unvalued s a && decides k.congruence a false) _ _ e).0)
value_none s k a false e u d = true≢false (sym (and_from (is_unvalued s a) (decides k.congruence a false) u d) ∙ (values_none (is_unvalued s a && decides k.congruence a true) (is_unvalued s a && decides k.congruence a false) _ _ e).1)

pub flat_none : {X : Type 0} (f : X → List Offer) (xs : List X) (x : X) → flat_map f xs ≡ [] → Has xs x → f x ≡ []
flat_none f [] x e h = absurd h
flat_none f (y ∷ ys) x e (inl s) = ap f (sym s) ∙ (append_none (f y) (flat_map f ys) e).0
flat_none f (y ∷ ys) x e (inr h) = flat_none f ys x (append_none (f y) (flat_map f ys) e).1 h

pub congruence_part : (s : State) (k : Known) → first_lemmas s k ≡ [] → congruence_offers s k ≡ []
congruence_part s k e = take_none (lemmas_of s k Reader.Congruence) (append_none (take 1 (lemmas_of s k Reader.Congruence)) _ e).0

first_open : (s : State) (a b : Atom) (l : Literal) → SizesAreAssumed s → s.free ≡ true → is_size a ≡ true → is_unvalued s a ≡ false → IsUnitLemma s (lit false a ∷ (lit true b ∷ [])) l → ⊥
first_open s a b l sizes free size closed u = by_place u.has
  where
    fails : literal_fails s (lit false a) ≡ true → ⊥
    fails h = none_true s a sizes free size h

    by_place : Has (lit false a ∷ (lit true b ∷ [])) l → ⊥
    by_place (inl e) = true≢false (sym u.unset ∙ (ap (λ (x : Literal). is_unvalued s x.atom) (sym e) ∙ closed))
    by_place (inr h) = fails (u.others (lit false a) (inl refl) (λ e. false≢true (ap (λ (x : Literal). x.positive) (e ∙ sym (only_one (lit true b) l h)))))

order_none : (s : State) (a b : Atom) (ls : List Literal) → SizesAreAssumed s → s.free ≡ true → is_size a ≡ true → is_unvalued s a ≡ false → IsOrderLemma s (lit false a ∷ (lit true b ∷ [])) ls → ⊥
order_none s a b ls sizes free size closed h =
    elim (subst (FalseOrUnit s) h.is h.asks) [
      | inl f ↦ none_true s a sizes free size (and_parts (literal_fails s (lit false a)) (list_all (literal_fails s) (lit true b ∷ [])) f).0
      | inr u ↦ first_open s a b u.0 sizes free size closed u.1
    ]

module _ (s : State) (k : Known) (sizes : SizesAreAssumed s) (holding : PicksHold s) (free : s.free ≡ true) (lemmas : first_lemmas s k ≡ []) (closed : free_decisions s ≡ []) where
  size_closed : (a : Atom) → is_size a ≡ true → is_known s a ≡ true → is_unvalued s a ≡ false
  size_closed a size known = drop_true (is_size a) (is_unvalued s a) size (no_open_size s s.held.atoms a closed (known_has s a known))

  order_closed : (a b : Atom) (ls : List Literal) → is_size a ≡ true → IsOrderLemma s (lit false a ∷ (lit true b ∷ [])) ls → ⊥
  order_closed a b ls size h =
      let known = known_one s.held.atoms (lit false a ∷ (lit true b ∷ [])) (lit false a) (inl refl) (subst (λ (x : List Literal). are_known s x ≡ true) h.is h.known) in
      order_none s a b ls sizes free size (size_closed a size known) h

  nothing_due : NothingDue s k
  nothing_due Reader.Congruence Due.Clash ls h = true≢false (sym h.clash ∙ cond_none (has_clash (read_literals Reader.Congruence s) k.congruence) _ (append_none _ _ (congruence_part s k lemmas)).0)
  nothing_due Reader.Congruence (Due.Value a v) ls h = value_none s k a v (flat_none (values_at s k) s.held.atoms a (append_none _ _ (congruence_part s k lemmas)).1 (known_has s a h.known)) h.unset h.decided
  nothing_due Reader.Regions (Due.Clique u) ls h = none_true s (card u (length h.pick.terms - 1)) sizes free refl (holding u h.pick h.there)
  nothing_due Reader.Sum Due.SumBound ls h = none_true s (Atom.Bound s.bound) sizes free refl (and_parts _ (holds s true (Atom.Bound s.bound)) h.due).1
  nothing_due Reader.Sum (Due.CardOrder u j) ls h = order_closed (card u j) (card u (j + 1)) ls refl h
  nothing_due Reader.Sum (Due.BoundOrder n) ls h = order_closed (Atom.Bound n) (Atom.Bound (n + 1)) ls refl h
  nothing_due r d ls h = absurd h

-- the atom at a place, and its number
pub there_at : {X : Type 0} (xs : List X) (n : ℕ) → n < length xs → (x : X) × (slice_get xs n ≡ Some x)
there_at [] n lt = absurd (omega (arith, lt))
there_at (x ∷ xs) zero lt = (x, refl)
there_at (x ∷ xs) (suc n) lt = there_at xs n (omega (arith, lt))

has_any : (atoms : List Atom) (a : Atom) → Has atoms a → list_any (is_same_atom a) atoms ≡ true
has_any atoms a h = in_any (is_same_atom a) atoms a h (is_same_atom-refl a)

pub found_number : (atoms : List Atom) (a : Atom) → Has atoms a → find_atom atoms a ≡ Some (atom_number atoms a)
found_number atoms a h = ap (λ (b : Bool). cond b (Some (atom_number atoms a)) None) (lt-ltb (atom_number atoms a) (length atoms) (known_number atoms a (any_known atoms a (has_any atoms a h))))

-- every clause has a true literal
valued_false : (o : Option Bool) (b : Bool) → is_none o ≡ false → is_value o b ≡ false → is_value o (not b) ≡ true
valued_false None b e f = absurd (true≢false e)
valued_false (Some true) true e f = absurd (true≢false f)
valued_false (Some true) false e f = refl
valued_false (Some false) true e f = refl
valued_false (Some false) false e f = absurd (true≢false f)

pub any_false : {X : Type 0} (p : X → Bool) (xs : List X) (x : X) → list_any p xs ≡ false → Has xs x → p x ≡ false
any_false p xs x e h =
    elim (cases_Bool (p x)) [
      | inl t ↦ absurd (true≢false (sym (in_any p xs x h t) ∙ e))
      | inr f ↦ f
    ]

falses_from : (es : List Entry) (c : Clause) → ((l : Lit) → Has c l → is_false es l ≡ true) → are_false es c ≡ true
falses_from es [] h = refl
falses_from es (l ∷ c) h = and_from (is_false es l) (are_false es c) (h l (inl refl)) (falses_from es c (λ k q. h k (inr q)))

both_none : (c : Bool) (x y : Offer) → cond c (x ∷ (y ∷ [])) [] ≡ [] → c ≡ false
both_none true x y e = absurd (cc e)
both_none false x y e = refl

not_both : (a b : Bool) → (a && b) ≡ false → b ≡ true → a ≡ false
not_both true true e f = absurd (true≢false e)
not_both true false e f = absurd (false≢true f)
not_both false b e f = refl

module _ (p : Problem) (s : State) (lawful : IsLawful p s) (held : IsWellHeld p s) (quiet : HasNoFalse s.clauses s.trail.entries) (atoms : clause_atoms s ≡ []) where
  -- an atom of a clause without a true literal has a value
  wanted_valued : (i : ℕ) (c : Clause) (l : Lit) → slice_get s.clauses i ≡ Some c → is_satisfied s.trail.entries c ≡ false → Has c l → is_none (value_of s.trail.entries l.atom) ≡ false
  wanted_valued i c l at open' h =
      let n = l.atom.0 in
      let lt = lawful.atoms.clauses i c l at h in
      let w = there_at s.held.atoms n lt in
      let wanted : is_wanted s n ≡ true = in_any (λ (d : Clause). not (is_satisfied s.trail.entries d) && list_any (λ (m : Lit). m.atom.0 == n) d) s.clauses c (Has-get s.clauses i c at) (and_from (not (is_satisfied s.trail.entries c)) (list_any (λ (m : Lit). m.atom.0 == n) c) (ap not open') (in_any (λ (m : Lit). m.atom.0 == n) c l h (eq-eqb n n refl))) in
      let none = flat_none (λ m. both_ways s m (slice_get s.held.atoms m)) (range_with_len 0 (length s.held.atoms)) n atoms (range_in n 0 (length s.held.atoms) (omega arith) (omega (arith, lt))) in
      let here : cond (is_unvalued s w.0 && is_wanted s n) (Offer.Decide (lit false w.0) ∷ (Offer.Decide (lit true w.0) ∷ [])) [] ≡ [] = sym (ap (both_ways s n) w.1) ∙ none in
      let closed : is_unvalued s w.0 ≡ false = not_both (is_unvalued s w.0) (is_wanted s n) (both_none (is_unvalued s w.0 && is_wanted s n) _ _ here) wanted in
      let place = get_place s.held.atoms w.0 (has_any s.held.atoms w.0 (Has-get s.held.atoms n w.0 w.1)) in
      let found = found_number s.held.atoms w.0 (Has-get s.held.atoms n w.0 w.1) in
      let same : atom_number s.held.atoms w.0 ≡ n = one_atom s.held.sig s.held.terms s.held.atoms held.held.atoms_good (atom_number s.held.atoms w.0) n w.0 place w.1 in
      let value : is_none (value_by s.trail.entries (atom_number s.held.atoms w.0)) ≡ false = subst (λ (o : Option ℕ). is_none (option_and_then (value_by s.trail.entries) o) ≡ false) found closed in
      subst (λ m. is_none (value_by s.trail.entries m) ≡ false) same value

  clause_satisfied : (c : Clause) → Has s.clauses c → is_satisfied s.trail.entries c ≡ true
  clause_satisfied c h =
      elim (cases_Bool (is_satisfied s.trail.entries c)) [
        | inl yes' ↦ yes'
        | inr open' ↦ (let at = has_place s.clauses c h in
            let falses = falses_from s.trail.entries c (λ l q. valued_false (value_of s.trail.entries l.atom) l.positive (wanted_valued at.0 c l at.1 open' q) (any_false (is_true s.trail.entries) c l open' q)) in
            absurd (true≢false (sym falses ∙ quiet at.0 c at.1)))
      ]

  pub all_satisfied : list_all (is_satisfied s.trail.entries) s.clauses ≡ true
  all_satisfied = in_all (is_satisfied s.trail.entries) s.clauses clause_satisfied

-- Raise
free_none : (f : Bool) (xs ys : List Offer) → f ≡ true → cond f xs ys ≡ [] → xs ≡ []
free_none true xs ys e h = h
free_none false xs ys e h = absurd (false≢true e)

pub else_none : (xs ys : List Offer) → or_else xs ys ≡ [] → (xs ≡ []) × (ys ≡ [])
else_none [] ys e = (refl, e)
else_none (x ∷ xs) ys e = absurd (cc e)

raise_row : (p : Problem) (s : State) (k : Known) → IsBounded p s → IsWellHeld p s → PicksHold s → Has (menu_of p s k) Offer.Raise → RaiseRow s k (raised s)
raise_row p s k bounded held holding h =
    let g = quiet_before p s k Offer.Raise (omega arith) h in
    let free = raise_ready p s k h in
    let d = decided_all p s k Offer.Raise refl h in
    let groups = else_none (free_decisions s) (clause_atoms s) (free_none s.free (or_else (free_decisions s) (clause_atoms s)) _ free d.0) in
    record {
      free = free;
      satisfied = all_satisfied p s bounded.good.lawful held (quiet_at s.trail.entries 0 s.clauses g.0) groups.1;
      nothing = nothing_due s k bounded.good.sizes holding free g.2 groups.0;
      after = refl;
    }

pub raise_is_met : RaiseIsMet
raise_is_met p b events s k sorted h offered = raise_row p s k (reached_bounded p b events s h) (runs_stay_held p b events s sorted h) (reached_hold p b events s h) offered

-- a lemma that is false or unit is new
pub fails_by_number : (s : State) (l : Literal) → literal_fails s l ≡ true → is_false s.trail.entries (lit_in s.held.atoms l) ≡ true
fails_by_number s l h = value_by_number s.trail.entries s.held.atoms l.atom (not l.positive) h

pub false_new : FalseLemmasAreNew
false_new s ls quiet f h =
    let at = has_place s.clauses h.0 h.1 in
    let all = falses_from s.trail.entries h.0 (λ l q. let w = mapped_has (lit_in s.held.atoms) ls l ((h.2 l).0 q) in
    subst (λ (m : Lit). is_false s.trail.entries m ≡ true) w.is (fails_by_number s w.lit (all_in (literal_fails s) ls w.lit f w.has))) in
    true≢false (sym all ∙ quiet at.0 h.0 at.1)

open_not_false : (o : Option Bool) (b : Bool) → is_none o ≡ true → is_value o b ≡ true → ⊥
open_not_false None b e f = false≢true f
open_not_false (Some v) b e f = false≢true e

unit_some : (c : Bool) (x : Lit) → cond c (Some x) None ≡ None → c ≡ false
unit_some true x e = absurd (cc e)
unit_some false x e = refl

unit_else : (b : Bool) (o q : Option Lit) → b ≡ false → cond b o q ≡ None → q ≡ None
unit_else true o q e u = absurd (true≢false e)
unit_else false o q e u = u

unit_then : (b : Bool) (o q : Option Lit) → b ≡ true → cond b o q ≡ None → o ≡ None
unit_then true o q e u = u
unit_then false o q e u = absurd (false≢true e)

module _ (es : List Entry) (l : Lit) (free : is_open es l ≡ true) where
  itself_open : (x : Lit) → ((x ≢ l) → is_false es x ≡ true) → is_false es x ≡ false → is_open es x ≡ true
  itself_open x h f =
      elim (cases_Bool (is_open es x)) [
        | inl t ↦ t
        | inr u ↦ absurd (true≢false (sym (h (λ e. true≢false (sym free ∙ (ap (is_open es) (sym e) ∙ u)))) ∙ f))
      ]

  rest_false : (x : Lit) (c : Clause) → (Has c x → ⊥) → ((m : Lit) → Has c m → m ≢ l → is_false es m ≡ true) → ((x ≢ l) → ⊥) → are_false es c ≡ true
  rest_false x c once h nx =
      falses_from es c (λ m q. elim (cases_Bool (is_false es m)) [
        | inl t ↦ t
        | inr f ↦ absurd (nx (λ ex. true≢false (sym (h m q (λ em. once (subst (Has c) (em ∙ sym ex) q))) ∙ f)))
      ])

  is_unit_of : (c : Clause) → AreDistinct c → Has c l → ((m : Lit) → Has c m → m ≢ l → is_false es m ≡ true) → unit_of es c ≡ None → ⊥
  is_unit_of [] distinct has h u = has
  is_unit_of (x ∷ c) distinct has h u =
      elim (cases_Bool (is_false es x)) [
        | inl t ↦ elim has [
          | inl e ↦ open_not_false (value_of es l.atom) (not l.positive) free (subst (λ (y : Lit). is_false es y ≡ true) e t)
          | inr more ↦ is_unit_of c distinct.1 more (λ m q. h m (inr q)) (unit_then (is_false es x) (unit_of es c) _ t u)
        ]
        | inr f ↦ (
            let nx : (x ≢ l) → ⊥ = λ ne. true≢false (sym (h x (inl refl) ne) ∙ f) in
            let opens = itself_open x (h x (inl refl)) f in
            let rest = rest_false x c distinct.0 (λ m q. h m (inr q)) nx in
            true≢false (sym (and_from (is_open es x) (are_false es c) opens rest) ∙ unit_some (is_open es x && are_false es c) x (unit_else (is_false es x) (unit_of es c) _ f u)))
      ]

pub unit_new : UnitLemmasAreNew
unit_new s ls l known distinct none unit h =
    let es = s.trail.entries in
    let at = has_place s.clauses h.0 h.1 in
    let free : is_open es (lit_in s.held.atoms l) ≡ true = ap is_none (none_by_number es s.held.atoms l.atom known.trail unit.unset) in
    let has : Has h.0 (lit_in s.held.atoms l) = (h.2 (lit_in s.held.atoms l)).1 (has_mapped (lit_in s.held.atoms) ls l unit.has) in
    let others : (m : Lit) → Has h.0 m → m ≢ lit_in s.held.atoms l → is_false es m ≡ true = λ m q ne. let w = mapped_has (lit_in s.held.atoms) ls m ((h.2 m).0 q) in
    subst (λ (y : Lit). is_false es y ≡ true) w.is (fails_by_number s w.lit (unit.others w.lit w.has (λ e. ne (sym w.is ∙ ap (lit_in s.held.atoms) e)))) in
    is_unit_of es (lit_in s.held.atoms l) free h.0 (distinct at.0 h.0 at.1) has others (none at.0 h.0 at.1)
