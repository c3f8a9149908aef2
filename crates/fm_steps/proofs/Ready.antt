-- What is offered can be done.
use Rattle.std.proofs.Common.{◌≡◌, ℕ, zero, suc, ◌+◌, ◌<◌, ◌==◌, Bool, true, false, not, ◌&&◌, cond, nat_lt, List, [], ◌∷◌, length, slice_get, Some, None, inl, inr, refl, sym, subst, arith}
use Rattle.std.specs.Prelude.{Option}
use Rattle.std.specs.List.{flat_map}
use Rattle.std.proofs.lemmas.Bool.{and_parts, cases_lt, eq-eqb, eqb-true, false≢true, ltb-true, not-true, true≢false}
use Rattle.fm_base.specs.Resolution.{Has}
use Rattle.fm_base.specs.declared.ids.Lit.{Lit}
use Rattle.fm_base.specs.declared.ids.Reader.{Reader}
use Rattle.fm_bank.specs.declared.atom.Atom.{Atom}
use Rattle.fm_guide.specs.declared.event.Word.{Word}
use Rattle.fm_sat.specs.Store.{HasNoFalse}
use Rattle.fm_trail.specs.declared.entry.Entry.{Entry}
use Rattle.fm_trail.specs.Trail.{are_false, head_of, level_on, unit_of}
use Rattle.fm_steps.specs.Menu.{conflict_at, conflicts_from, failing_at, failing_offer, is_of_level_zero, readers, takes_of, unit_at, units_from}
use Rattle.fm_steps.specs.Ready.{InstanceIsReady, LearnIsReady, RaiseIsReady, SatIsReady, TakeIsReady, TurnIsReady, UnitIsReady, UnsatIsReady}
use Rattle.fm_steps.specs.Rows.{Offer, content_at}
use Rattle.fm_steps.specs.Sizes.{is_refuted}
use Rattle.fm_steps.specs.State.{Clause, State}
use Rattle.fm_steps.proofs.Lists.{Has-append, only_one}
use Rattle.fm_steps.proofs.Menus.{at_four, at_one, at_seven, at_two}

-- a false clause by its place from n on, and whether all its literals are of level 0
record IsConflictAt (es : List Entry) (cs : List Clause) (n m : ℕ) (low : Bool) : Type 0 where
  place : ℕ
  clause : Clause
  at : slice_get cs place ≡ Some clause
  number : m ≡ n + place
  falsified : are_false es clause ≡ true
  level : is_of_level_zero es clause ≡ low

behind : (es : List Entry) (c : Clause) (cs : List Clause) (n m : ℕ) (low : Bool) → IsConflictAt es cs (n + 1) m low → IsConflictAt es (c ∷ cs) n m low
behind es c cs n m low h = record { place = suc h.place; clause = h.clause; at = h.at; number = (let e = h.number in omega (arith, e)); falsified = h.falsified; level = h.level }

learn_level : (b : Bool) (n m : ℕ) → cond b (Offer.Answer Word.Unsat) (Offer.Learn n) ≡ Offer.Learn m → (b ≡ false) × (n ≡ m)
learn_level true n m e = absurd (cc e)
learn_level false n m e = (refl, cc e)

unsat_level : (b : Bool) (n : ℕ) → cond b (Offer.Answer Word.Unsat) (Offer.Learn n) ≡ Offer.Answer Word.Unsat → b ≡ true
unsat_level true n e = refl
unsat_level false n e = absurd (cc e)

learn_step : (es : List Entry) (c : Clause) (cs : List Clause) (n m : ℕ) (b : Bool) → are_false es c ≡ b → Has (cond b (conflict_at n es c ∷ []) (conflicts_from (n + 1) es cs)) (Offer.Learn m) → (Has (conflicts_from (n + 1) es cs) (Offer.Learn m) → IsConflictAt es cs (n + 1) m false) → IsConflictAt es (c ∷ cs) n m false
learn_step es c cs n m true f h rec =
    let e = learn_level (is_of_level_zero es c) n m (only_one (conflict_at n es c) (Offer.Learn m) h) in
    record { place = 0; clause = c; at = refl; number = (let q = e.1 in omega (arith, q)); falsified = f; level = e.0 }
learn_step es c cs n m false f h rec = behind es c cs n m false (rec h)

learn_at : (es : List Entry) (cs : List Clause) (n m : ℕ) → Has (conflicts_from n es cs) (Offer.Learn m) → IsConflictAt es cs n m false
learn_at es [] n m h = absurd h
learn_at es (c ∷ cs) n m h = learn_step es c cs n m (are_false es c) refl h (learn_at es cs (n + 1) m)

unsat_step : (es : List Entry) (c : Clause) (cs : List Clause) (n : ℕ) (b : Bool) → are_false es c ≡ b → Has (cond b (conflict_at n es c ∷ []) (conflicts_from (n + 1) es cs)) (Offer.Answer Word.Unsat) → (Has (conflicts_from (n + 1) es cs) (Offer.Answer Word.Unsat) → (m : ℕ) × IsConflictAt es cs (n + 1) m true) → (m : ℕ) × IsConflictAt es (c ∷ cs) n m true
unsat_step es c cs n true f h rec =
    let e = unsat_level (is_of_level_zero es c) n (only_one (conflict_at n es c) (Offer.Answer Word.Unsat) h) in
    (n, record { place = 0; clause = c; at = refl; number = omega arith; falsified = f; level = e })
unsat_step es c cs n false f h rec = let r = rec h in (r.0, behind es c cs n r.0 true r.1)

unsat_at : (es : List Entry) (cs : List Clause) (n : ℕ) → Has (conflicts_from n es cs) (Offer.Answer Word.Unsat) → (m : ℕ) × IsConflictAt es cs n m true
unsat_at es [] n h = absurd h
unsat_at es (c ∷ cs) n h = unsat_step es c cs n (are_false es c) refl h (unsat_at es cs (n + 1))

pub drop_true : (a b : Bool) → a ≡ true → (a && b) ≡ false → b ≡ false
drop_true true b t h = h
drop_true false b t h = absurd (false≢true t)

some_above : (es : List Entry) (c : Clause) → is_of_level_zero es c ≡ false → (k : Lit) × Has c k × (0 < level_on es k)
some_above es [] h = absurd (true≢false h)
some_above es (l ∷ ls) h =
    elim (cases_lt 0 (level_on es l)) [
      | inl above ↦ (l, inl refl, above)
      | inr low ↦ (let z : level_on es l ≡ 0 = omega (arith, low) in
          let r = some_above es ls (drop_true (level_on es l == 0) (is_of_level_zero es ls) (eq-eqb (level_on es l) 0 z) h) in
          (r.0, inr r.1, r.2))
    ]

all_zero : (es : List Entry) (c : Clause) → is_of_level_zero es c ≡ true → (k : Lit) → Has c k → level_on es k ≡ 0
all_zero es [] h k q = absurd q
all_zero es (l ∷ ls) h k (inl e) = subst (λ (x : Lit). level_on es x ≡ 0) e (eqb-true (level_on es l) 0 (and_parts (level_on es l == 0) (is_of_level_zero es ls) h).0)
all_zero es (l ∷ ls) h k (inr q) = all_zero es ls (and_parts (level_on es l == 0) (is_of_level_zero es ls) h).1 k q

pub learn_ready : LearnIsReady
learn_ready n p s k h =
    let es = s.trail.entries in
    let c = learn_at es s.clauses 0 n (at_one p s k (Offer.Learn n) refl h) in
    let same : c.place ≡ n = (let e = c.number in omega (arith, e)) in
    record { clause = c.clause; stored = subst (λ m. slice_get s.clauses m ≡ Some c.clause) same c.at; falsified = c.falsified; above = some_above es c.clause c.level }

pub unsat_ready : UnsatIsReady
unsat_ready p s k h =
    let es = s.trail.entries in
    let r = unsat_at es s.clauses 0 (at_one p s k (Offer.Answer Word.Unsat) refl h) in
    (r.1.place, record { clause = r.1.clause; stored = r.1.at; falsified = r.1.falsified; zero_level = all_zero es r.1.clause r.1.level })

-- no false clause
quiet_step : (es : List Entry) (n : ℕ) (c : Clause) (cs : List Clause) (b : Bool) → are_false es c ≡ b → cond b (conflict_at n es c ∷ []) (conflicts_from (n + 1) es cs) ≡ [] → (are_false es c ≡ false) × (conflicts_from (n + 1) es cs ≡ [])
quiet_step es n c cs true f e = absurd (cc e)
quiet_step es n c cs false f e = (f, e)

pub quiet_at : (es : List Entry) (n : ℕ) (cs : List Clause) → conflicts_from n es cs ≡ [] → HasNoFalse cs es
quiet_at es n [] e i c at = absurd (cc at)
quiet_at es n (d ∷ cs) e zero c at = let same : d ≡ c = cc at in subst (λ (x : Clause). are_false es x ≡ false) same (quiet_step es n d cs (are_false es d) refl e).0
quiet_at es n (d ∷ cs) e (suc i) c at = quiet_at es (n + 1) cs (quiet_step es n d cs (are_false es d) refl e).1 i c at

-- unit clauses, and takes
record IsUnitAt (es : List Entry) (cs : List Clause) (n : ℕ) (o : Offer) : Type 0 where
  place : ℕ
  offer : Offer.Unit' (n + place) ≡ o
  lit : Lit
  clause : Clause
  at : slice_get cs place ≡ Some clause
  unit : unit_of es clause ≡ Some lit

unit_here : (es : List Entry) (c : Clause) (cs : List Clause) (n : ℕ) (o : Offer) (u : Option Lit) → unit_of es c ≡ u → Has (unit_at n u) o → IsUnitAt es (c ∷ cs) n o
unit_here es c cs n o None e h = absurd h
unit_here es c cs n o (Some l) e h =
    let z : n ≡ n + 0 = omega arith in
    record { place = 0; offer = subst (λ m. Offer.Unit' m ≡ o) z (only_one (Offer.Unit' n) o h); lit = l; clause = c; at = refl; unit = e }

units_at : (es : List Entry) (cs : List Clause) (n : ℕ) (o : Offer) → Has (units_from n es cs) o → IsUnitAt es cs n o
units_at es [] n o h = absurd h
units_at es (c ∷ cs) n o h =
    elim (Has-append (unit_at n (unit_of es c)) (units_from (n + 1) es cs) o h) [
      | inl here ↦ unit_here es c cs n o (unit_of es c) refl here
      | inr more ↦ (let r = units_at es cs (n + 1) o more in
          let z : n + 1 + r.place ≡ n + suc r.place = omega arith in
          record { place = suc r.place; offer = subst (λ m. Offer.Unit' m ≡ o) z r.offer; lit = r.lit; clause = r.clause; at = r.at; unit = r.unit })
    ]

one_of : (b : Bool) (x o : Offer) → Has (cond b (x ∷ []) []) o → (b ≡ true) × (x ≡ o)
one_of true x o h = (refl, only_one x o h)
one_of false x o h = absurd h

abbrev is_left : State → Reader → Bool
is_left s r = nat_lt (head_of s.trail.heads r) (length s.trail.entries)

takes_among : (s : State) (rs : List Reader) (o : Offer) → Has (flat_map (λ r. cond (is_left s r) (Offer.Take r ∷ []) []) rs) o → (r : Reader) × (is_left s r ≡ true) × (Offer.Take r ≡ o)
takes_among s [] o h = absurd h
takes_among s (r ∷ rs) o h =
    elim (Has-append (cond (is_left s r) (Offer.Take r ∷ []) []) (flat_map (λ x. cond (is_left s x) (Offer.Take x ∷ []) []) rs) o h) [
      | inl here ↦ (let q = one_of (is_left s r) (Offer.Take r) o here in (r, q.0, q.1))
      | inr more ↦ takes_among s rs o more
    ]

take_no_unit : (r : Reader) (n : ℕ) → Offer.Take r ≡ Offer.Unit' n → ⊥
take_no_unit r n e = absurd (cc e)

unit_number : (m n : ℕ) → Offer.Unit' (0 + m) ≡ Offer.Unit' n → m ≡ n
unit_number m n e = let q : 0 + m ≡ n = cc e in omega (arith, q)

take_reader : (r q : Reader) → Offer.Take r ≡ Offer.Take q → r ≡ q
take_reader r q e = cc e

pub unit_ready : UnitIsReady
unit_ready n p s k h =
    let es = s.trail.entries in
    let g = at_two p s k (Offer.Unit' n) refl h in (
      quiet_at es 0 s.clauses g.0,
      elim (Has-append (units_from 0 es s.clauses) (takes_of s) (Offer.Unit' n) g.1) [
        | inl here ↦ (let u = units_at es s.clauses 0 (Offer.Unit' n) here in
            let same = unit_number u.place n u.offer in
            (u.lit, record { clause = u.clause; stored = subst (λ m. slice_get s.clauses m ≡ Some u.clause) same u.at; unit = u.unit }))
        | inr other ↦ (let t = takes_among s readers (Offer.Unit' n) other in absurd (take_no_unit t.0 n t.2))
      ],
    )

pub take_ready : TakeIsReady
take_ready r p s k h =
    let es = s.trail.entries in
    let g = at_two p s k (Offer.Take r) refl h in (
      quiet_at es 0 s.clauses g.0,
      elim (Has-append (units_from 0 es s.clauses) (takes_of s) (Offer.Take r) g.1) [
        | inl other ↦ (let u = units_at es s.clauses 0 (Offer.Take r) other in absurd (take_no_unit r (0 + u.place) (sym u.offer)))
        | inr here ↦ (let t = takes_among s readers (Offer.Take r) here in
            subst (λ (x : Reader). head_of s.trail.heads x < length es) (take_reader t.0 r t.2) (ltb-true (head_of s.trail.heads t.0) (length es) t.1))
      ],
    )

pub turn_ready : TurnIsReady
turn_ready p s k h =
    let q = one_of (not s.free && is_refuted s (Atom.Bound s.bound)) Offer.Turn Offer.Turn (at_four p s k Offer.Turn refl h) in
    let both = and_parts (not s.free) (is_refuted s (Atom.Bound s.bound)) q.0 in
    (not-true s.free both.0, both.1)

last_instance : (b : Bool) (f : Option (ℕ × List ℕ)) (i : ℕ) (terms : List ℕ) → cond b Offer.Raise (failing_offer f) ≡ Offer.Instance i terms → (b ≡ false) × (f ≡ Some (i, terms))
last_instance true f i terms e = absurd (cc e)
last_instance false None i terms e = absurd (cc e)
last_instance false (Some g) i terms e = let a : g.0 ≡ i = cc e in let b : g.1 ≡ terms = cc e in (refl, λ j. Some (a j, b j))

last_sat : (b : Bool) (f : Option (ℕ × List ℕ)) → cond b Offer.Raise (failing_offer f) ≡ Offer.Answer Word.Sat → (b ≡ false) × (f ≡ None)
last_sat true f e = absurd (cc e)
last_sat false None e = (refl, refl)
last_sat false (Some g) e = absurd (cc e)

last_raise : (b : Bool) (f : Option (ℕ × List ℕ)) → cond b Offer.Raise (failing_offer f) ≡ Offer.Raise → b ≡ true
last_raise true f e = refl
last_raise false None e = absurd (cc e)
last_raise false (Some g) e = absurd (cc e)

pub instance_ready : InstanceIsReady
instance_ready i terms p s k h = last_instance s.free (failing_at p (content_at p s k)) i terms (at_seven p s k (Offer.Instance i terms) refl h)

pub sat_ready : SatIsReady
sat_ready p s k h = last_sat s.free (failing_at p (content_at p s k)) (at_seven p s k (Offer.Answer Word.Sat) refl h)

pub raise_ready : RaiseIsReady
raise_ready p s k h = last_raise s.free (failing_at p (content_at p s k)) (at_seven p s k Offer.Raise refl h)
