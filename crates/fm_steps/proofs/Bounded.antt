-- Where a decision stands no sort is empty and no smaller bound open; and in the bounded phase the bound is the first decision.
use Rattle.std.proofs.Common.{◌≡◌, ℕ, zero, suc, ◌+◌, ◌<◌, ◌≤◌, ◌==◌, ◌&&◌, Bool, true, false, not, cond, nat_le, nat_lt, List, [], ◌∷◌, ◌++◌, length, map, Some, None, inl, inr, refl, sym, ap, subst, ◌∙◌, arith}
use Rattle.std.specs.Prelude.{Option, option_and_then, slice_get}
use Rattle.std.specs.List.{flat_map, range_with_len}
use Rattle.std.proofs.lemmas.Bool.{and_from, cases_Bool, cases_lt, eq-eqb, eqb-true, and_parts, false≢true, lt-ltb, true≢false}
use Rattle.std.proofs.lemmas.List.{map-append}
use Rattle.fm_base.specs.Resolution.{Has}
use Rattle.fm_base.specs.declared.ids.Lit.{Lit}
use Rattle.fm_base.proofs.Resolution.{mapped_has}
use Rattle.fm_bank.specs.Instances.{equality}
use Rattle.fm_bank.specs.Interning.{IsFront, atom_number, find_atom, lit_in, with_atom, with_atoms}
use Rattle.fm_bank.specs.declared.atom.Atom.{Atom}
use Rattle.fm_bank.specs.declared.literal.Literal.{Literal}
use Rattle.fm_bank.proofs.Growing.{atoms_fronts}
use Rattle.fm_guide.specs.declared.event.Event.{Event}
use Rattle.fm_guide.specs.declared.event.Word.{Word}
use Rattle.fm_rounds.proofs.Members.{any_in, in_any, in_range}
use Rattle.fm_sat.specs.Learning.{Steps}
use Rattle.fm_sat.specs.Store.{HasNoFalse}
use Rattle.fm_trail.specs.declared.entry.Entry.{Entry}
use Rattle.fm_trail.specs.declared.entry.Why.{Why}
use Rattle.fm_trail.specs.Trail.{AreLevelled, are_false, decision, decisions_in, implied, is_decided, is_false, is_none, is_true, is_value, level_of, unit_of, up_to, value_of}
use Rattle.fm_trail.proofs.Going.{level_most, level_push}
use Rattle.fm_trail.proofs.Literals.{false_by, none_decided}
use Rattle.fm_trail.proofs.Places.{get_push}
use Rattle.fm_steps.specs.Bounds.{AreNotSmaller, BoundIsFirst, BoundIsOpen, DecisionsAreLarge, StartStays, ZeroIsImplied, not_empty, not_fewer}
use Rattle.fm_steps.specs.Facts.{SizesAreAssumed, TrailIsExplained, is_size_in}
use Rattle.fm_steps.specs.Lemmas.{is_known, is_some_number}
use Rattle.fm_steps.specs.Menu.{clause_atoms, decisions_of, free_decisions, menu_of, or_else, size_decisions, takes_of, turns_of, unit_at, units_from}
use Rattle.fm_steps.specs.Picks.{Known, Settles, pick_literals}
use Rattle.fm_steps.specs.Rows.{Offer, Row, after_learning, instance_literals}
use Rattle.fm_steps.specs.Runs.{IsReached, IsStart, Run, Step, carried}
use Rattle.fm_steps.specs.Sizes.{card, is_refuted, is_refuted_by, is_refuting, is_unvalued, lit}
use Rattle.fm_steps.specs.State.{Budget, Clause, Problem, State, value_by}
use Rattle.fm_steps.proofs.Lists.{Has-end, Has-get, append_none, only_one}
use Rattle.fm_steps.proofs.Menus.{quiet_before}
use Rattle.fm_steps.proofs.Numbers.{find_kept, get_place, known_any, known_number, known_one, number_within}
use Rattle.fm_steps.proofs.Ready.{drop_true, quiet_at}
use Rattle.fm_steps.proofs.Running.{IsGood, begun_good, step_good}
use Rattle.fm_steps.proofs.Smaller.{Carries, low_all, low_back, low_push}
use Rattle.fm_steps.proofs.Starts.{start_trail}
use Rattle.fm_steps.proofs.Staying.{move_stays, start_stays}
use Rattle.fm_steps.proofs.Trails.{IsDenied, back_entry, denied}
use Rattle.fm_steps.proofs.Written.{has_place}

-- an entry of level 0 isn't decided
why_cases : (es : List Entry) (i : ℕ) (e : Entry) (w : Why) → e.why ≡ w → AreLevelled 0 es → slice_get es i ≡ Some e → e.level ≡ 0 → (n : ℕ) × (e.why ≡ Why.Clause n)
why_cases es i e Why.Decision q levels at z = absurd (none_decided es i e levels at z (ap is_decided q))
why_cases es i e (Why.Clause n) q levels at z = (n, q)

pub zero_implied : (s : State) → TrailIsExplained s → ZeroIsImplied s
zero_implied s x i e at z = why_cases s.trail.entries i e e.why refl x.levels at z

-- numbers of known atoms
known_found : (s : State) (a : Atom) → is_known s a ≡ true → find_atom s.held.atoms a ≡ Some (atom_number s.held.atoms a)
known_found s a k = ap (λ (b : Bool). cond b (Some (atom_number s.held.atoms a)) None) (lt-ltb (atom_number s.held.atoms a) (length s.held.atoms) (known_number s.held.atoms a k))

number_step : (b : Bool) (m n : ℕ) → cond b (Some m) None ≡ Some n → m ≡ n
number_step true m n e = cc e
number_step false m n e = absurd (cc e)

pub found_at : (atoms : List Atom) (a : Atom) (n : ℕ) → find_atom atoms a ≡ Some n → slice_get atoms n ≡ Some a
found_at atoms a n e =
    let same : atom_number atoms a ≡ n = number_step (nat_lt (atom_number atoms a) (length atoms)) (atom_number atoms a) n e in
    subst (λ k. slice_get atoms k ≡ Some a) same (get_place atoms a (known_any atoms a (ap is_some_number e)))

-- a negative entry of level 0 refutes
abbrev by_number : ℕ → Bool → Lit
by_number n positive = record { atom = record { 0 = n }; positive = positive }

refutes : (s : State) (a : Atom) (n i : ℕ) (e : Entry) → find_atom s.held.atoms a ≡ Some n → slice_get s.trail.entries i ≡ Some e → e.lit.atom.0 ≡ n → e.lit.positive ≡ false → e.level ≡ 0 → is_refuted s a ≡ true
refutes s a n i e found at atom sign z =
    let here : is_refuting n e ≡ true = and_from (e.lit.atom.0 == n && not e.lit.positive) (e.level == 0) (and_from (e.lit.atom.0 == n) (not e.lit.positive) (eq-eqb e.lit.atom.0 n atom) (ap not sign)) (eq-eqb e.level 0 z) in
    subst (λ (o : Option ℕ). is_refuted_by s.trail.entries o ≡ true) (sym found) (in_any (is_refuting n) s.trail.entries e (Has-get s.trail.entries i e at) here)

low_entry : (s : State) (i : ℕ) (e : Entry) → TrailIsExplained s → level_of s.trail.entries ≡ 0 → slice_get s.trail.entries i ≡ Some e → e.level ≡ 0
low_entry s i e x z at = let m = level_most 0 s.trail.entries i e x.levels at in omega (arith, m, z)

true_refuted : (s : State) (a : Atom) (n : ℕ) → TrailIsExplained s → level_of s.trail.entries ≡ 0 → find_atom s.held.atoms a ≡ Some n → is_false s.trail.entries (by_number n true) ≡ true → is_refuted s a ≡ true
true_refuted s a n x z found e =
    let d = denied s.trail.entries (by_number n true) e in
    refutes s a n d.place d.entry found d.at d.atom d.sign (low_entry s d.place d.entry x z d.at)

pub refuted_false : (s : State) (a : Atom) (n : ℕ) → TrailIsExplained s → find_atom s.held.atoms a ≡ Some n → is_refuted s a ≡ true → is_false s.trail.entries (by_number n true) ≡ true
refuted_false s a n x found r =
    let es = s.trail.entries in
    let w = any_in (is_refuting n) es (subst (λ (o : Option ℕ). is_refuted_by es o ≡ true) found r) in
    let at = has_place es w.0 w.1 in
    let p = (and_parts (w.0.lit.atom.0 == n && not w.0.lit.positive) (w.0.level == 0) w.2).0 in
    let q = and_parts (w.0.lit.atom.0 == n) (not w.0.lit.positive) p in
    let atom = eqb-true w.0.lit.atom.0 n q.0 in
    let sign : not w.0.lit.positive ≡ true = q.1 in
    subst (λ (l : Lit). is_false es l ≡ true) (λ i. record { atom = record { 0 = atom i }; positive = sign i }) (false_by es at.0 w.0 x.once at.1)

-- a clause that isn't false or unit, of which all but the last are false, has the last one true
lone_last : (l : Lit) (v : Option Bool) (b : Bool) → (is_value v (not b) && true) ≡ false → cond (is_value v (not b)) None (cond (is_none v && true) (Some l) None) ≡ None → is_value v b ≡ true
lone_last l None b f u = absurd (cc u)
lone_last l (Some true) true f u = refl
lone_last l (Some true) false f u = absurd (true≢false f)
lone_last l (Some false) true f u = absurd (true≢false f)
lone_last l (Some false) false f u = refl

later_unit : (b : Bool) (o q : Option Lit) → b ≡ true → cond b o q ≡ None → o ≡ None
later_unit true o q e u = u
later_unit false o q e u = absurd (false≢true e)

lone_true : (es : List Entry) (xs : List Lit) (l : Lit) → ((k : Lit) → Has xs k → is_false es k ≡ true) → are_false es (xs ++ l ∷ []) ≡ false → unit_of es (xs ++ l ∷ []) ≡ None → is_true es l ≡ true
lone_true es [] l h f u = lone_last l (value_of es l.atom) l.positive f u
lone_true es (x ∷ xs) l h f u =
    let here = h x (inl refl) in
    lone_true es xs l (λ k q. h k (inr q)) (drop_true (is_false es x) (are_false es (xs ++ l ∷ [])) here f) (later_unit (is_false es x) (unit_of es (xs ++ l ∷ [])) _ here u)

no_unit : (n : ℕ) (o : Option Lit) → unit_at n o ≡ [] → o ≡ None
no_unit n None e = refl
no_unit n (Some l) e = absurd (cc e)

pub not_unit : (es : List Entry) (n : ℕ) (cs : List Clause) (i : ℕ) (c : Clause) → units_from n es cs ≡ [] → slice_get cs i ≡ Some c → unit_of es c ≡ None
not_unit es n [] i c e at = absurd (cc at)
not_unit es n (d ∷ cs) zero c e at = let same : d ≡ c = cc at in subst (λ (x : Clause). unit_of es x ≡ None) same (no_unit n (unit_of es d) (append_none (unit_at n (unit_of es d)) (units_from (n + 1) es cs) e).0)
not_unit es n (d ∷ cs) (suc i) c e at = not_unit es (n + 1) cs i c (append_none (unit_at n (unit_of es d)) (units_from (n + 1) es cs) e).1 at

-- no clause is false or unit
record IsQuiet (s : State) : Type 0 where
  falses : HasNoFalse s.clauses s.trail.entries
  units : (i : ℕ) (c : Clause) → slice_get s.clauses i ≡ Some c → unit_of s.trail.entries c ≡ None

last_true : (s : State) (xs : List Lit) (l : Lit) → IsQuiet s → Has s.clauses (xs ++ l ∷ []) → ((k : Lit) → Has xs k → is_false s.trail.entries k ≡ true) → is_true s.trail.entries l ≡ true
last_true s xs l q h f =
    let at = has_place s.clauses (xs ++ l ∷ []) h in
    lone_true s.trail.entries xs l f (q.falses at.0 (xs ++ l ∷ []) at.1) (q.units at.0 (xs ++ l ∷ []) at.1)

module _ (p : Problem) (s : State) (x : TrailIsExplained s) (stays : StartStays p s) (z : level_of s.trail.entries ≡ 0) (quiet : IsQuiet s) where
  elements_refuted : (u : ℕ) → u < p.sig.sorts → is_refuted s (card u 0) ≡ true
  elements_refuted u lt =
      let h = stays.elements u lt in
      let known = known_one s.held.atoms (not_empty u) (lit false (card u 0)) (inl refl) h.known in
      let n = atom_number s.held.atoms (card u 0) in
      true_refuted s (card u 0) n x z (known_found s (card u 0) known) (last_true s [] (by_number n false) quiet h.has (λ k q. absurd q))

  abbrev firsts : ℕ → List Literal
  firsts m = map (λ u. lit true (card u 0)) (range_with_len 0 (suc m))

  firsts_false : (m : ℕ) → p.sig.sorts ≡ suc m → (k : Lit) → Has (map (lit_in s.held.atoms) (firsts m)) k → is_false s.trail.entries k ≡ true
  firsts_false m e k h =
      let a = mapped_has (lit_in s.held.atoms) (firsts m) k h in
      let c = mapped_has (λ (u : ℕ). lit true (card u 0)) (range_with_len 0 (suc m)) a.lit a.has in
      let lt = (in_range c.lit 0 (suc m) c.has).1 in
      let known = known_one s.held.atoms (not_empty c.lit) (lit false (card c.lit 0)) (inl refl) (stays.elements c.lit (omega (arith, lt, e))).known in
      let f = refuted_false s (card c.lit 0) (atom_number s.held.atoms (card c.lit 0)) x (known_found s (card c.lit 0) known) (elements_refuted c.lit (omega (arith, lt, e))) in
      subst (λ (l : Lit). is_false s.trail.entries l ≡ true) (ap (lit_in s.held.atoms) c.is ∙ a.is) f

  sum_refuted : (m : ℕ) → p.sig.sorts ≡ suc m → is_refuted s (Atom.Bound m) ≡ true
  sum_refuted m e =
      let h = stays.sum m e in
      let l : Literal = lit false (Atom.Bound m) in
      let known = known_one s.held.atoms (not_fewer m) l (Has-end (firsts m) l) h.known in
      let n = atom_number s.held.atoms (Atom.Bound m) in
      let has = subst (λ (c : Clause). Has s.clauses c) (map-append (lit_in s.held.atoms) (firsts m) (l ∷ [])) h.has in
      true_refuted s (Atom.Bound m) n x z (known_found s (Atom.Bound m) known) (last_true s (map (lit_in s.held.atoms) (firsts m)) (by_number n false) quiet has (firsts_false m e))

  not_smaller : AreNotSmaller p s
  not_smaller = record { elements = elements_refuted; sum = sum_refuted }

-- what is refuted stays so, and going back opens no level
row_carries : (p : Problem) (b : Budget) (s : State) (k : Known) (o : Offer) (t : State) → Row p b s k o t → Carries s t
row_carries p b s k (Offer.Learn n) t r = subst (Carries s) (sym r.after) (learnt n r.lits r.lit r.level r.steps)
  where
    learnt : (n : ℕ) (lits : Clause) (l : Lit) (level : ℕ) (steps : Steps) → Carries s (after_learning n steps lits l level s)
    learnt n lits l level [] a q = low_push (up_to level s.trail.entries) _ (find_atom s.held.atoms a) (low_back s.trail.entries level (find_atom s.held.atoms a) q)
    learnt n lits l level (step ∷ steps) a q = low_push (up_to level s.trail.entries) _ (find_atom s.held.atoms a) (low_back s.trail.entries level (find_atom s.held.atoms a) q)
row_carries p b s k (Offer.Unit' n) t r = subst (Carries s) (sym r.after) (λ a q. low_push s.trail.entries _ (find_atom s.held.atoms a) q)
row_carries p b s k (Offer.Take e) t r = subst (Carries s) (sym r.after) (λ a q. q)
row_carries p b s k (Offer.Lemma e d) t r = subst (Carries s) (sym r.after) (λ a q. low_all s.held.atoms s.trail.entries r.lits a q)
row_carries p b s k (Offer.Imply e d) t r = subst (Carries s) (sym r.after) (λ a q. low_all s.held.atoms (s.trail.entries ++ _ ∷ []) r.lits a (low_push s.trail.entries _ (find_atom s.held.atoms a) q))
row_carries p b s k Offer.Turn t r = subst (Carries s) (sym r.after) (λ a q. low_back s.trail.entries 0 (find_atom s.held.atoms a) q)
row_carries p b s k (Offer.Decide l) t r = subst (Carries s) (sym r.after) (λ a q. low_push s.trail.entries _ (find_atom (with_atom s.held.atoms l.atom) a) (low_all s.held.atoms s.trail.entries (l ∷ []) a q))
row_carries p b s k (Offer.Split c d) t r = subst (Carries s) (sym r.after) (λ a q. low_all s.held.atoms s.trail.entries (lit true (equality c d) ∷ []) a q)
row_carries p b s k (Offer.Instance i env) t r = subst (Carries s) (sym r.after) (λ a q. low_all s.held.atoms s.trail.entries (instance_literals s.held r.clause env) a q)
row_carries p b s k Offer.Raise t r = subst (Carries s) (sym r.after) (λ a q. low_all s.held.atoms (up_to 0 s.trail.entries) (lit true (Atom.Bound (s.bound + 1)) ∷ []) a (low_back s.trail.entries 0 (find_atom s.held.atoms a) q))
row_carries p b s k (Offer.Answer w) t r = subst (Carries s) (sym r.1) (λ a q. q)

level_step : (b : Bool) (e : Entry) (es rest : List Entry) → level_of rest ≤ level_of es → level_of (cond b (e ∷ rest) rest) ≤ decisions_in e + level_of es
level_step true e es rest h = omega (arith, h)
level_step false e es rest h = omega (arith, h)

level_back : (level : ℕ) (es : List Entry) → level_of (up_to level es) ≤ level_of es
level_back level [] = omega arith
level_back level (e ∷ es) = level_step (nat_le e.level level) e es (up_to level es) (level_back level es)

pub level_implied : (es : List Entry) (l : Lit) (n : ℕ) → level_of (es ++ implied es l n ∷ []) ≡ level_of es
level_implied es l n = let e = level_push es (implied es l n) in omega (arith, e)

-- a level that is open was open, or a decision was made
abbrev Opens : State → State → Type 0
Opens s t = 0 < level_of t.trail.entries → 0 < level_of s.trail.entries

row_opens : (p : Problem) (b : Budget) (s : State) (k : Known) (o : Offer) (t : State) → ((l : Literal) → o ≡ Offer.Decide l → ⊥) → Row p b s k o t → Opens s t
row_opens p b s k (Offer.Learn n) t d r = subst (Opens s) (sym r.after) (learnt n r.lits r.lit r.level r.steps)
  where
    learnt : (n : ℕ) (lits : Clause) (l : Lit) (level : ℕ) (steps : Steps) → Opens s (after_learning n steps lits l level s)
    learnt n lits l level [] lt = let e = level_implied (up_to level s.trail.entries) l n in let c = level_back level s.trail.entries in omega (arith, lt, e, c)
    learnt n lits l level (step ∷ steps) lt = let e = level_implied (up_to level s.trail.entries) l (length s.clauses) in let c = level_back level s.trail.entries in omega (arith, lt, e, c)
row_opens p b s k (Offer.Unit' n) t d r = subst (Opens s) (sym r.after) (λ lt. let e = level_implied s.trail.entries r.lit n in omega (arith, lt, e))
row_opens p b s k (Offer.Take e) t d r = subst (Opens s) (sym r.after) (λ lt. lt)
row_opens p b s k (Offer.Lemma e q) t d r = subst (Opens s) (sym r.after) (λ lt. lt)
row_opens p b s k (Offer.Imply e q) t d r = subst (Opens s) (sym r.after) (λ lt. let f = level_implied s.trail.entries (lit_in s.held.atoms r.lit) (length s.clauses) in omega (arith, lt, f))
row_opens p b s k Offer.Turn t d r = subst (Opens s) (sym r.after) (λ lt. let c = level_back 0 s.trail.entries in omega (arith, lt, c))
row_opens p b s k (Offer.Decide l) t d r = absurd (d l refl)
row_opens p b s k (Offer.Split c e) t d r = subst (Opens s) (sym r.after) (λ lt. lt)
row_opens p b s k (Offer.Instance i env) t d r = subst (Opens s) (sym r.after) (λ lt. lt)
row_opens p b s k Offer.Raise t d r = subst (Opens s) (sym r.after) (λ lt. let c = level_back 0 s.trail.entries in omega (arith, lt, c))
row_opens p b s k (Offer.Answer w) t d r = subst (Opens s) (sym r.1) (λ lt. lt)

-- what the menu says of a decision
abbrev DecidesLate : Problem → State → Offer → Type 0
DecidesLate p s (Offer.Decide l) = AreNotSmaller p s × (s.free ≡ false → level_of s.trail.entries ≡ 0 → l ≡ lit true (Atom.Bound s.bound))
DecidesLate p s o = Unit {0}

carried_large : (p : Problem) (s t : State) → Carries s t → AreNotSmaller p s → AreNotSmaller p t
carried_large p s t c h = record { elements = λ u lt. c (card u 0) (h.elements u lt); sum = λ m e. c (Atom.Bound m) (h.sum m e) }

row_large : (p : Problem) (b : Budget) (s : State) (k : Known) (o : Offer) (t : State) → DecidesLate p s o → DecisionsAreLarge p s → Row p b s k o t → DecisionsAreLarge p t
row_large p b s k (Offer.Decide l) t d h r = λ lt. carried_large p s t (row_carries p b s k (Offer.Decide l) t r) d.0
row_large p b s k (Offer.Learn n) t d h r = λ lt. carried_large p s t (row_carries p b s k (Offer.Learn n) t r) (h (row_opens p b s k (Offer.Learn n) t (λ l e. absurd (cc e)) r lt))
row_large p b s k (Offer.Unit' n) t d h r = λ lt. carried_large p s t (row_carries p b s k (Offer.Unit' n) t r) (h (row_opens p b s k (Offer.Unit' n) t (λ l e. absurd (cc e)) r lt))
row_large p b s k (Offer.Take q) t d h r = λ lt. carried_large p s t (row_carries p b s k (Offer.Take q) t r) (h (row_opens p b s k (Offer.Take q) t (λ l e. absurd (cc e)) r lt))
row_large p b s k (Offer.Lemma q u) t d h r = λ lt. carried_large p s t (row_carries p b s k (Offer.Lemma q u) t r) (h (row_opens p b s k (Offer.Lemma q u) t (λ l e. absurd (cc e)) r lt))
row_large p b s k (Offer.Imply q u) t d h r = λ lt. carried_large p s t (row_carries p b s k (Offer.Imply q u) t r) (h (row_opens p b s k (Offer.Imply q u) t (λ l e. absurd (cc e)) r lt))
row_large p b s k Offer.Turn t d h r = λ lt. carried_large p s t (row_carries p b s k Offer.Turn t r) (h (row_opens p b s k Offer.Turn t (λ l e. absurd (cc e)) r lt))
row_large p b s k (Offer.Split a c) t d h r = λ lt. carried_large p s t (row_carries p b s k (Offer.Split a c) t r) (h (row_opens p b s k (Offer.Split a c) t (λ l e. absurd (cc e)) r lt))
row_large p b s k (Offer.Instance i env) t d h r = λ lt. carried_large p s t (row_carries p b s k (Offer.Instance i env) t r) (h (row_opens p b s k (Offer.Instance i env) t (λ l e. absurd (cc e)) r lt))
row_large p b s k Offer.Raise t d h r = λ lt. carried_large p s t (row_carries p b s k Offer.Raise t r) (h (row_opens p b s k Offer.Raise t (λ l e. absurd (cc e)) r lt))
row_large p b s k (Offer.Answer w) t d h r = λ lt. carried_large p s t (row_carries p b s k (Offer.Answer w) t r) (h (row_opens p b s k (Offer.Answer w) t (λ l e. absurd (cc e)) r lt))

settled_large : (p : Problem) (mid t : State) → DecisionsAreLarge p mid → Settles mid t → DecisionsAreLarge p t
settled_large p mid t h m =
    let c : Carries mid t = subst (Carries mid) (sym m.after) (λ a q. low_all mid.held.atoms mid.trail.entries (flat_map pick_literals m.picks) a q) in
    λ lt. carried_large p mid t c (h (subst (λ (u : State). 0 < level_of u.trail.entries) m.after lt))

-- the first decision is that of the bound
abbrev FirstIn : List Atom → List Entry → ℕ → Type 0
FirstIn atoms es n = (i : ℕ) (e : Entry) → slice_get es i ≡ Some e → e.why ≡ Why.Decision → e.level ≡ 1 → (e.lit.positive ≡ true) × (find_atom atoms (Atom.Bound n) ≡ Some e.lit.atom.0)

first_more : (atoms more : List Atom) (es : List Entry) (n : ℕ) → IsFront atoms more → FirstIn atoms es n → FirstIn more es n
first_more atoms more es n f h i e at why one = let q = h i e at why one in (q.0, subst (λ (as' : List Atom). find_atom as' (Atom.Bound n) ≡ Some e.lit.atom.0) f.1 (find_kept atoms f.0 (Atom.Bound n) e.lit.atom.0 q.1))

first_back : (atoms : List Atom) (es : List Entry) (n level : ℕ) → AreLevelled 0 es → FirstIn atoms es n → FirstIn atoms (up_to level es) n
first_back atoms es n level levels h i e at why one = h i e (back_entry es level i e levels at).0 why one

no_decision : (e : Entry) (n : ℕ) → e.why ≡ Why.Clause n → e.why ≡ Why.Decision → ⊥
no_decision e n c d = let w : Why.Clause n ≡ Why.Decision = sym c ∙ d in absurd (cc w)

first_implied : (atoms : List Atom) (es : List Entry) (n : ℕ) (l : Lit) (c : ℕ) → FirstIn atoms es n → FirstIn atoms (es ++ implied es l c ∷ []) n
first_implied atoms es n l c h i e at why one =
    elim (get_push es (implied es l c) i e at) [
      | inl old ↦ h i e old why one
      | inr new ↦ absurd (no_decision e c (ap (λ (f : Entry). f.why) (sym new.1)) why)
    ]

to_first : (s : State) → (s.free ≡ false → FirstIn s.held.atoms s.trail.entries s.bound) → BoundIsFirst s
to_first s h f i e at why one = let q = h f i e at why one in record { positive = q.0; bound = q.1 }

of_first : (s : State) → BoundIsFirst s → s.free ≡ false → FirstIn s.held.atoms s.trail.entries s.bound
of_first s h f i e at why one = let q = h f i e at why one in (q.positive, q.bound)

abbrev IsFirst : State → Type 0
IsFirst s = s.free ≡ false → FirstIn s.held.atoms s.trail.entries s.bound

row_first : (p : Problem) (b : Budget) (s : State) (k : Known) (o : Offer) (t : State) → TrailIsExplained s → DecidesLate p s o → IsFirst s → Row p b s k o t → IsFirst t
row_first p b s k (Offer.Learn n) t x d h r = subst IsFirst (sym r.after) (learnt n r.lits r.lit r.level r.steps)
  where
    learnt : (n : ℕ) (lits : Clause) (l : Lit) (level : ℕ) (steps : Steps) → IsFirst (after_learning n steps lits l level s)
    learnt n lits l level [] f = first_implied s.held.atoms (up_to level s.trail.entries) s.bound l n (first_back s.held.atoms s.trail.entries s.bound level x.levels (h f))
    learnt n lits l level (step ∷ steps) f = first_implied s.held.atoms (up_to level s.trail.entries) s.bound l (length s.clauses) (first_back s.held.atoms s.trail.entries s.bound level x.levels (h f))
row_first p b s k (Offer.Unit' n) t x d h r = subst IsFirst (sym r.after) (λ f. first_implied s.held.atoms s.trail.entries s.bound r.lit n (h f))
row_first p b s k (Offer.Take e) t x d h r = subst IsFirst (sym r.after) h
row_first p b s k (Offer.Lemma e q) t x d h r = subst IsFirst (sym r.after) (λ f. first_more s.held.atoms _ s.trail.entries s.bound (atoms_fronts r.lits s.held.atoms) (h f))
row_first p b s k (Offer.Imply e q) t x d h r =
    subst IsFirst (sym r.after) (λ f. first_implied (with_atoms s.held.atoms r.lits) s.trail.entries s.bound (lit_in s.held.atoms r.lit) (length s.clauses) (first_more s.held.atoms _ s.trail.entries s.bound (atoms_fronts r.lits s.held.atoms) (h f)))
row_first p b s k Offer.Turn t x d h r = subst IsFirst (sym r.after) (λ f. absurd (true≢false f))
row_first p b s k (Offer.Decide l) t x d h r =
    let now = with_atom s.held.atoms l.atom in
    let new = lit_in now l in
    subst IsFirst (sym r.after) (λ f i e at why one.
    elim (get_push s.trail.entries (decision s.trail.entries new) i e at) [
      | inl old ↦ first_more s.held.atoms now s.trail.entries s.bound (atoms_fronts (l ∷ []) s.held.atoms) (h f) i e old why one
      | inr here ↦ (let level : level_of s.trail.entries + 1 ≡ 1 = ap (λ (y : Entry). y.level) here.1 ∙ one in
          let is : l ≡ lit true (Atom.Bound s.bound) = d.1 f (omega (arith, level)) in
          let number : find_atom now l.atom ≡ Some (atom_number now l.atom) = ap (λ (c : Bool). cond c (Some (atom_number now l.atom)) None) (lt-ltb (atom_number now l.atom) (length now) (number_within (l ∷ []) s.held.atoms l (inl refl))) in
          subst (λ (y : Entry). (y.lit.positive ≡ true) × (find_atom now (Atom.Bound s.bound) ≡ Some y.lit.atom.0)) here.1 (ap (λ (m : Literal). m.positive) is, ap (λ (m : Literal). find_atom now m.atom) (sym is) ∙ number))
    ])
row_first p b s k (Offer.Split a c) t x d h r = subst IsFirst (sym r.after) (λ f. first_more s.held.atoms _ s.trail.entries s.bound (atoms_fronts (lit true (equality a c) ∷ []) s.held.atoms) (h f))
row_first p b s k (Offer.Instance i env) t x d h r = subst IsFirst (sym r.after) (λ f. first_more s.held.atoms _ s.trail.entries s.bound (atoms_fronts (instance_literals s.held r.clause env) s.held.atoms) (h f))
row_first p b s k Offer.Raise t x d h r =
    subst IsFirst (sym r.after) (λ f i e at why one. let low = (back_entry s.trail.entries 0 i e x.levels at).1 in absurd (omega (arith, low, one)))
row_first p b s k (Offer.Answer w) t x d h r = subst IsFirst (sym r.1) h

settled_first : (mid t : State) → IsFirst mid → Settles mid t → IsFirst t
settled_first mid t h m = subst IsFirst (sym m.after) (λ f. first_more mid.held.atoms _ mid.trail.entries mid.bound (atoms_fronts (flat_map pick_literals m.picks) mid.held.atoms) (h f))

-- what the menu offers to decide at level 0 of the bounded phase
first_bound : (f u : Bool) (xs ys zs : List Offer) (x o : Offer) → f ≡ false → u ≡ true → Has (or_else (cond f xs (cond u (x ∷ []) ys)) zs) o → x ≡ o
first_bound true u xs ys zs x o e g h = absurd (true≢false e)
first_bound false true xs ys zs x o e g h = only_one x o h
first_bound false false xs ys zs x o e g h = absurd (false≢true g)

same_decision : (k l : Literal) → Offer.Decide k ≡ Offer.Decide l → l ≡ k
same_decision k l e = sym (cc e)

pub turn_none : (f r : Bool) → f ≡ false → cond (not f && r) (Offer.Turn ∷ []) [] ≡ [] → r ≡ false
turn_none true r e h = absurd (true≢false e)
turn_none false true e h = absurd (cc h)
turn_none false false e h = refl

some_value : (o : Option Bool) → is_none o ≡ false → (v : Bool) × (o ≡ Some v)
some_value None e = absurd (true≢false e)
some_value (Some v) e = (v, refl)

pub valued : (f : ℕ → Option Bool) (o : Option ℕ) → is_none (option_and_then f o) ≡ false → (n : ℕ) × (v : Bool) × (o ≡ Some n) × (f n ≡ Some v)
valued f None e = absurd (true≢false e)
valued f (Some n) e = let w = some_value (f n) e in (n, w.0, refl, w.1)

-- the entry of an atom with a value
pub entry_by : (es : List Entry) (n : ℕ) (v : Bool) → value_by es n ≡ Some v → IsDenied es (by_number n (not v))
entry_by es n true e = denied es (by_number n false) (ap (λ (o : Option Bool). is_value o true) e)
entry_by es n false e = denied es (by_number n true) (ap (λ (o : Option Bool). is_value o false) e)

sign_back : (b v : Bool) → b ≡ not (not v) → b ≡ v
sign_back b true e = e
sign_back b false e = e

module _ (s : State) (x : TrailIsExplained s) (sizes : SizesAreAssumed s) where
  size_of : (n m : ℕ) (e : Entry) → find_atom s.held.atoms (Atom.Bound n) ≡ Some m → e.lit.atom.0 ≡ m → is_size_in (slice_get s.held.atoms e.lit.atom.0) ≡ true
  size_of n m e found atom = ap is_size_in (ap (slice_get s.held.atoms) atom ∙ found_at s.held.atoms (Atom.Bound n) m found)

  -- a bound with a value is false at level 0, or stands above it
  bound_value : (n m : ℕ) (v : Bool) → find_atom s.held.atoms (Atom.Bound n) ≡ Some m → (d : IsDenied s.trail.entries (by_number m (not v))) → d.entry.level ≡ 0 → is_refuted s (Atom.Bound n) ≡ true
  bound_value n m true found d z =
      let above = (sizes d.place d.entry d.at (size_of n m d.entry found d.atom) d.sign).0 in
      absurd (omega (arith, above, z))
  bound_value n m false found d z = refutes s (Atom.Bound n) m d.place d.entry found d.at d.atom d.sign z

  low_bound : level_of s.trail.entries ≡ 0 → is_unvalued s (Atom.Bound s.bound) ≡ false → is_refuted s (Atom.Bound s.bound) ≡ true
  low_bound z e =
      let w = valued (value_by s.trail.entries) (find_atom s.held.atoms (Atom.Bound s.bound)) e in
      let d = entry_by s.trail.entries w.0 w.1 w.3 in
      bound_value s.bound w.0 w.1 w.2 d (low_entry s d.place d.entry x z d.at)

  only_bound : (zs : List Offer) (l : Literal) → turns_of s ≡ [] → Has (or_else (decisions_of s) zs) (Offer.Decide l) → s.free ≡ false → level_of s.trail.entries ≡ 0 → l ≡ lit true (Atom.Bound s.bound)
  only_bound zs l turns h f z =
      elim (cases_Bool (is_unvalued s (Atom.Bound s.bound))) [
        | inl free ↦ same_decision (lit true (Atom.Bound s.bound)) l (first_bound s.free (is_unvalued s (Atom.Bound s.bound)) (or_else (free_decisions s) (clause_atoms s)) (or_else (size_decisions s) (clause_atoms s)) zs (Offer.Decide (lit true (Atom.Bound s.bound))) (Offer.Decide l) f free h)
        | inr closed ↦ absurd (true≢false (sym (low_bound z closed) ∙ turn_none s.free (is_refuted s (Atom.Bound s.bound)) f turns))
      ]

  decides_late : (p : Problem) (k : Known) (l : Literal) → StartStays p s → DecisionsAreLarge p s → Has (menu_of p s k) (Offer.Decide l) → DecidesLate p s (Offer.Decide l)
  decides_late p k l stays large h =
      let g = quiet_before p s k (Offer.Decide l) (omega arith) h in
      let units = append_none (units_from 0 s.trail.entries s.clauses) (takes_of s) g.1 in
      let quiet : IsQuiet s = record { falses = quiet_at s.trail.entries 0 s.clauses g.0; units = λ i c at. not_unit s.trail.entries 0 s.clauses i c units.0 at } in (
        elim (cases_lt 0 (level_of s.trail.entries)) [
          | inl above ↦ large above
          | inr low ↦ not_smaller p s x stays (omega (arith, low)) quiet
        ],
        only_bound _ l g.3 g.4,
      )

either_late : (p : Problem) (s : State) (b : Bool) (y z : Offer) → DecidesLate p s y → DecidesLate p s z → DecidesLate p s (cond b y z)
either_late p s true y z h g = h
either_late p s false y z h g = g

offered_late : (p : Problem) (b : Budget) (s : State) (k : Known) (o : Offer) → TrailIsExplained s → SizesAreAssumed s → StartStays p s → DecisionsAreLarge p s → Has (menu_of p s k) o → DecidesLate p s (carried b s o)
offered_late p b s k (Offer.Decide l) x sizes stays large h = either_late p s (s.decisions == b.decisions) (Offer.Answer Word.Unknown) (Offer.Decide l) tt (decides_late s x sizes p k l stays large h)
offered_late p b s k (Offer.Instance i env) x sizes stays large h = either_late p s (s.instances == b.instances) (Offer.Answer Word.Unknown) (Offer.Instance i env) tt tt
offered_late p b s k (Offer.Learn n) x sizes stays large h = tt
offered_late p b s k (Offer.Unit' n) x sizes stays large h = tt
offered_late p b s k (Offer.Take r) x sizes stays large h = tt
offered_late p b s k (Offer.Lemma r d) x sizes stays large h = tt
offered_late p b s k (Offer.Imply r d) x sizes stays large h = tt
offered_late p b s k Offer.Turn x sizes stays large h = tt
offered_late p b s k (Offer.Split a c) x sizes stays large h = tt
offered_late p b s k Offer.Raise x sizes stays large h = tt
offered_late p b s k (Offer.Answer w) x sizes stays large h = tt

pub record IsBounded (p : Problem) (s : State) : Type 0 where
  pub good : IsGood p s
  pub stays : StartStays p s
  pub large : DecisionsAreLarge p s
  pub first : IsFirst s

pub step_bounded : (p : Problem) (b : Budget) (s : State) (e : Event) (t : State) → IsBounded p s → Step p b s e t → IsBounded p t
step_bounded p b s e t h step =
    let o = carried b s step.offer in
    let d = offered_late p b s step.known step.offer h.good.lawful.trail h.good.sizes h.stays h.large (Has-get (menu_of p s step.known) step.place step.offer step.there) in
    record {
      good = step_good p b s e t h.good step;
      stays = move_stays p b s step.known o t h.stays step.move;
      large = settled_large p step.move.mid t (row_large p b s step.known o step.move.mid d h.large step.move.row) step.move.settles;
      first = settled_first step.move.mid t (row_first p b s step.known o step.move.mid h.good.lawful.trail d h.first step.move.row) step.move.settles;
    }

run_bounded : (p : Problem) (b : Budget) (s : State) (es : List Event) (t : State) → IsBounded p s → Run p b s es t → IsBounded p t
run_bounded p b s [] t h r = subst (IsBounded p) (sym r) h
run_bounded p b s (e ∷ es) t h r = run_bounded p b r.0 es t (step_bounded p b s e r.0 h r.1) r.3

pub begun_bounded : (p : Problem) (s : State) → IsStart p s → IsBounded p s
begun_bounded p s st =
    let none = start_trail p s st in
    record {
      good = begun_good p s st;
      stays = start_stays p s st;
      large = λ lt. absurd (let z = ap level_of none in omega (arith, lt, z));
      first = λ f i e at why one. let q : slice_get [] i ≡ Some e = subst (λ (es : List Entry). slice_get es i ≡ Some e) none at in absurd (cc q);
    }

pub reached_bounded : (p : Problem) (b : Budget) (events : List Event) (s : State) → IsReached p b events s → IsBounded p s
reached_bounded p b events s h = run_bounded p b h.first events s (begun_bounded p h.first h.start) h.run

-- so the bound has no value, is false at level 0, or is the first decision
first_by : (n : ℕ) (e : Entry) (es : List Entry) (w : Why) → e.why ≡ w → AreLevelled n (e ∷ es) → 0 < level_of (e ∷ es) → (0 < level_of es → (i : ℕ) × (f : Entry) × (slice_get es i ≡ Some f) × (f.why ≡ Why.Decision) × (f.level ≡ e.level + 1)) → (i : ℕ) × (f : Entry) × (slice_get (e ∷ es) i ≡ Some f) × (f.why ≡ Why.Decision) × (f.level ≡ n + 1)
first_by n e es Why.Decision q levels lt rec =
    let one : decisions_in e ≡ 1 = ap (λ (w : Why). cond (is_decided w) 1 0) q in
    let l = levels.0 in
    (0, e, refl, q, omega (arith, l, one))
first_by n e es (Why.Clause c) q levels lt rec =
    let none : decisions_in e ≡ 0 = ap (λ (w : Why). cond (is_decided w) 1 0) q in
    let l = levels.0 in
    let r = rec (omega (arith, lt, none)) in
    let level = r.4 in
    (suc r.0, r.1, r.2, r.3, omega (arith, level, l, none))

pub first_at : (n : ℕ) (es : List Entry) → AreLevelled n es → 0 < level_of es → (i : ℕ) × (e : Entry) × (slice_get es i ≡ Some e) × (e.why ≡ Why.Decision) × (e.level ≡ n + 1)
first_at n [] levels lt = absurd (omega (arith, lt))
first_at n (e ∷ es) levels lt = first_by n e es e.why refl levels lt (λ q. first_at e.level es levels.1 q)

pub bound_open : (p : Problem) (s : State) → IsBounded p s → BoundIsOpen s
bound_open p s h f =
    let es = s.trail.entries in
    let x = h.good.lawful.trail in
    elim (cases_Bool (is_unvalued s (Atom.Bound s.bound))) [
      | inl free ↦ inl free
      | inr closed ↦ inr (
          let w = valued (value_by es) (find_atom s.held.atoms (Atom.Bound s.bound)) closed in
          let d = entry_by es w.0 w.1 w.3 in
          elim (cases_lt 0 d.entry.level) [
            | inl above ↦ inr (
                let most = level_most 0 es d.place d.entry x.levels d.at in
                let g = first_at 0 es x.levels (omega (arith, above, most)) in
                let one = g.4 in
                let level : g.1.level ≡ 1 = omega (arith, one) in
                let q = h.first f g.0 g.1 g.2 g.3 level in
                record { place = g.0; entry = g.1; at = g.2; why = g.3; first = level; decides = record { positive = q.0; bound = q.1 } })
            | inr low ↦ inl (bound_value s x h.good.sizes s.bound w.0 w.1 w.2 d (omega (arith, low)))
          ])
    ]

pub bound_first : (p : Problem) (s : State) → IsBounded p s → BoundIsFirst s
bound_first p s h = to_first s h.first
