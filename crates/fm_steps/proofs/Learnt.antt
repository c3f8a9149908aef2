-- From each false clause with a literal above level 0 something is learnt: the rule of the first unique implication point ends.
use Rattle.std.proofs.Common.{◌≡◌, ◌≢◌, ℕ, zero, suc, ◌≤◌, ◌<◌, ◌⊎◌, ◌==◌, ◌&&◌, Bool, true, false, not, cond, List, [], ◌∷◌, ◌++◌, take, inl, inr, refl, sym, ap, subst, ◌∙◌, arith}
use Rattle.std.specs.List.{filter, list_any}
use Rattle.std.proofs.lemmas.Bool.{and_from, and_parts, cases_Bool, cases_lt, eq-eqb, eqb-true, false≢true, not-true, true≢false}
use mathlib.Core.Bool.{beq}
use Rattle.fm_base.specs.Resolution.{AreDistinct, Has, Resolves, SameSet, opposite}
use Rattle.fm_base.specs.declared.ids.Lit.{Lit}
use Rattle.fm_rounds.proofs.Members.{any_in, filter_in, in_any, in_either, in_filter, in_left, in_right}
use Rattle.fm_sat.specs.Learning.{Clauses, Derives, IsAsserting, IsConflict, IsExplained, IsHighestBeside, IsReason, IsStep, Steps}
use Rattle.fm_trail.specs.declared.entry.Entry.{Entry}
use Rattle.fm_trail.specs.declared.entry.Why.{Why}
use Rattle.fm_trail.specs.Trail.{are_false, is_decided, is_false, level_on}
use Rattle.fm_trail.proofs.Literals.{IsFalseAt, decision_first, false_at, false_before, false_by, level_at, levels_ascend, opposite-opposite}

-- literals that are the same
same_sign : (a b : Bool) → beq a b ≡ true → a ≡ b
same_sign true true e = refl
same_sign true false e = absurd (false≢true e)
same_sign false true e = absurd (false≢true e)
same_sign false false e = refl

sign_itself : (b : Bool) → beq b b ≡ true
sign_itself true = refl
sign_itself false = refl

abbrev is_same : Lit → Lit → Bool
is_same k l = k.atom.0 == l.atom.0 && beq k.positive l.positive

same_is : (k l : Lit) → is_same k l ≡ true → k ≡ l
same_is k l e =
    let p = and_parts (k.atom.0 == l.atom.0) (beq k.positive l.positive) e in
    let atom = eqb-true k.atom.0 l.atom.0 p.0 in
    let sign = same_sign k.positive l.positive p.1 in
    λ i. record { atom = record { 0 = atom i }; positive = sign i }

is_itself : (l : Lit) → is_same l l ≡ true
is_itself l = and_from (l.atom.0 == l.atom.0) (beq l.positive l.positive) (eq-eqb l.atom.0 l.atom.0 refl) (sign_itself l.positive)

-- a list without a literal
abbrev without : Lit → List Lit → List Lit
without l ls = filter (λ k. not (is_same k l)) ls

in_without : (l k : Lit) (ls : List Lit) → Has (without l ls) k → Has ls k × (k ≢ l)
in_without l k ls h = let p = in_filter (λ m. not (is_same m l)) k ls h in (p.0, λ e. true≢false (sym (ap (λ m. is_same m l) e ∙ is_itself l) ∙ not-true (is_same k l) p.1))

without_in : (l k : Lit) (ls : List Lit) → Has ls k → k ≢ l → Has (without l ls) k
without_in l k ls h ne =
    filter_in (λ m. not (is_same m l)) k ls h (elim (cases_Bool (is_same k l)) [
      | inl t ↦ absurd (ne (same_is k l t))
      | inr f ↦ ap not f
    ])

-- each literal once
once_each : List Lit → List Lit
once_each [] = []
once_each (l ∷ ls) = l ∷ without l (once_each ls)

filter_step : (p : Lit → Bool) (l : Lit) (ls : List Lit) (b : Bool) → (Has ls l → ⊥) → AreDistinct (filter p ls) → AreDistinct (cond b (l ∷ filter p ls) (filter p ls))
filter_step p l ls true new h = ((λ q. new (in_filter p l ls q).0), h)
filter_step p l ls false new h = h

filter_distinct : (p : Lit → Bool) (ls : List Lit) → AreDistinct ls → AreDistinct (filter p ls)
filter_distinct p [] h = tt
filter_distinct p (l ∷ ls) h = filter_step p l ls (p l) h.0 (filter_distinct p ls h.1)

once_distinct : (ls : List Lit) → AreDistinct (once_each ls)
unfolding once_each
once_distinct [] = tt
once_distinct (l ∷ ls) = ((λ q. (in_without l l (once_each ls) q).1 refl), filter_distinct (λ k. not (is_same k l)) (once_each ls) (once_distinct ls))

once_in : (ls : List Lit) (k : Lit) → Has (once_each ls) k → Has ls k
unfolding once_each
once_in [] k h = h
once_in (l ∷ ls) k (inl e) = inl e
once_in (l ∷ ls) k (inr q) = inr (once_in ls k (in_without l k (once_each ls) q).0)

in_once : (ls : List Lit) (k : Lit) → Has ls k → Has (once_each ls) k
unfolding once_each
in_once [] k h = h
in_once (l ∷ ls) k (inl e) = inl e
in_once (l ∷ ls) k (inr q) =
    elim (cases_Bool (is_same k l)) [
      | inl t ↦ inl (sym (same_is k l t))
      | inr f ↦ inr (filter_in (λ m. not (is_same m l)) k (once_each ls) (in_once ls k q) (ap not f))
    ]

once_same : (ls : List Lit) → SameSet ls (once_each ls)
once_same ls k = (in_once ls k, once_in ls k)

-- false literals of a list
one_false : (es : List Entry) (ls : List Lit) (k : Lit) → are_false es ls ≡ true → Has ls k → is_false es k ≡ true
one_false es [] k e h = absurd h
one_false es (l ∷ ls) k e (inl s) = subst (λ m. is_false es m ≡ true) s (and_parts (is_false es l) (are_false es ls) e).0
one_false es (l ∷ ls) k e (inr q) = one_false es ls k (and_parts (is_false es l) (are_false es ls) e).1 q

all_false : (es : List Entry) (ls : List Lit) → ((k : Lit) → Has ls k → is_false es k ≡ true) → are_false es ls ≡ true
all_false es [] h = refl
all_false es (l ∷ ls) h = and_from (is_false es l) (are_false es ls) (h l (inl refl)) (all_false es ls (λ k q. h k (inr q)))

module _ (cs : Clauses) (es : List Entry) (x : IsExplained cs es) where
  -- places of false literals
  one_place : (k : Lit) (p q : ℕ) → IsFalseAt es k p → IsFalseAt es k q → p ≡ q
  one_place k p q a b = cc (sym a.place ∙ b.place)

  same_place : (k l : Lit) (p : ℕ) → IsFalseAt es k p → IsFalseAt es l p → k ≡ l
  same_place k l p a b = let same : a.entry ≡ b.entry = cc (sym a.at ∙ b.at) in sym a.is ∙ (ap (λ (e : Entry). opposite e.lit) same ∙ b.is)

  at_level : (k : Lit) (p : ℕ) (a : IsFalseAt es k p) → level_on es k ≡ a.entry.level
  at_level k p a = level_at es k p a.entry x.once a.at (ap (λ (m : Lit). m.atom.0) a.is)

  by_place : (k l : Lit) (p q : ℕ) → IsFalseAt es k p → IsFalseAt es l q → p ≤ q → level_on es k ≤ level_on es l
  by_place k l p q a b le =
      let m = levels_ascend 0 es p q a.entry b.entry x.levels le a.at b.at in
      let one = at_level k p a in
      let two = at_level l q b in
      omega (arith, m, one, two)

  -- the literal with the latest entry
  record IsTop (ls : List Lit) : Type 0 where
    lit : Lit
    has : Has ls lit
    place : ℕ
    false_here : IsFalseAt es lit place
    most : (k : Lit) (q : ℕ) → Has ls k → IsFalseAt es k q → q ≤ place

  top_step : (l : Lit) (p : ℕ) (ls : List Lit) → IsFalseAt es l p → IsTop ls → IsTop (l ∷ ls)
  top_step l p ls a t =
      elim (cases_lt t.place p) [
        | inl less ↦ record {
          lit = l;
          has = inl refl;
          place = p;
          false_here = a;
          most = λ k q h f. elim h [
            | inl e ↦ (let same = one_place k q p f (subst (λ m. IsFalseAt es m p) e a) in omega (arith, same))
            | inr r ↦ (let m = t.most k q r f in omega (arith, m, less))
          ];
        }
        | inr more ↦ record {
          lit = t.lit;
          has = inr t.has;
          place = t.place;
          false_here = t.false_here;
          most = λ k q h f. elim h [
            | inl e ↦ (let same = one_place k q p f (subst (λ m. IsFalseAt es m p) e a) in omega (arith, same, more))
            | inr r ↦ t.most k q r f
          ];
        }
      ]

  top_of : (l : Lit) (ls : List Lit) → are_false es (l ∷ ls) ≡ true → IsTop (l ∷ ls)
  top_of l [] e =
      let a = false_at es l (one_false es (l ∷ []) l e (inl refl)) in
      record {
        lit = l;
        has = inl refl;
        place = a.0;
        false_here = a.1;
        most = λ k q h f. elim h [
          | inl s ↦ (let same = one_place k q a.0 f (subst (λ m. IsFalseAt es m a.0) s a.1) in omega (arith, same))
          | inr none ↦ absurd none
        ];
      }
  top_of l (m ∷ ls) e =
      let p = and_parts (is_false es l) (are_false es (m ∷ ls)) e in
      let a = false_at es l p.0 in
      top_step l a.0 (m ∷ ls) a.1 (top_of m ls p.1)

  top_by : (ls : List Lit) (k : Lit) → Has ls k → are_false es ls ≡ true → IsTop ls
  top_by [] k h e = absurd h
  top_by (l ∷ ls) k h e = top_of l ls e

  -- no literal of a false clause is of a higher level
  top_level : (ls : List Lit) (t : IsTop ls) (k : Lit) → are_false es ls ≡ true → Has ls k → level_on es k ≤ level_on es t.lit
  top_level ls t k e h = let a = false_at es k (one_false es ls k e h) in by_place k t.lit a.0 t.place a.1 t.false_here (t.most k a.0 h a.1)

  -- the highest level of the others
  record IsHighestOf (ls : List Lit) (l : Lit) : Type 0 where
    level : ℕ
    is : IsHighestBeside es ls l level

  more_beside : (ls : List Lit) (k l : Lit) (level : ℕ) → IsHighestBeside es ls l level → (k ≡ l) ⊎ (level_on es k ≤ level) → IsHighestBeside es (k ∷ ls) l level
  more_beside ls k l level h c = record {
    bound = λ m q ne. elim q [
      | inl e ↦ elim c [
        | inl s ↦ absurd (ne (sym e ∙ s))
        | inr le ↦ subst (λ n. level_on es n ≤ level) e le
      ]
      | inr r ↦ h.bound m r ne
    ];
    met = elim h.met [ inl z ↦ inl z | inr w ↦ inr (w.0, inr w.1, w.2, w.3) ];
  }

  highest_of : (ls : List Lit) (l : Lit) → IsHighestOf ls l
  highest_of [] l = record { level = 0; is = record { bound = λ m q ne. absurd q; met = inl refl } }
  highest_of (k ∷ ls) l =
      let r = highest_of ls l in
      elim (cases_Bool (is_same k l)) [
        | inl t ↦ record { level = r.level; is = more_beside ls k l r.level r.is (inl (same_is k l t)) }
        | inr f ↦ elim (cases_lt r.level (level_on es k)) [
          | inr low ↦ record { level = r.level; is = more_beside ls k l r.level r.is (inr low) }
          | inl high ↦ record {
            level = level_on es k;
            is = record {
              bound = λ m q ne. elim q [
                | inl e ↦ (let s = ap (level_on es) e in omega (arith, s))
                | inr h ↦ (let b = r.is.bound m h ne in omega (arith, b, high))
              ];
              met = inr (k, inl refl, (λ e. true≢false (sym (ap (λ m. is_same m l) e ∙ is_itself l) ∙ f)), refl);
            };
          }
        ]
      ]

  -- what is learnt
  pub record IsLearnt (now : List Lit) : Type 0 where
    pub steps : Steps
    pub lits : List Lit
    pub derived : Derives 1 cs es now steps lits
    pub distinct : AreDistinct lits
    pub lit : Lit
    pub level : ℕ
    pub asserting : IsAsserting es lits lit level

  -- one literal alone is of the highest level
  abbrev is_beside : Lit → Lit → Bool
  is_beside l k = not (is_same k l) && level_on es k == level_on es l

  ends : (now : List Lit) (t : IsTop now) → are_false es now ≡ true → 0 < level_on es t.lit → list_any (is_beside t.lit) now ≡ false → IsLearnt now
  ends now t e above none =
      let lits = once_each now in
      let high = highest_of lits t.lit in
      let below : (k : Lit) → Has lits k → k ≢ t.lit → level_on es k < level_on es t.lit = λ k q ne.
      let here = once_in now k q in
      let le = top_level now t k e here in
      elim (cases_lt (level_on es k) (level_on es t.lit)) [
        | inl lt ↦ lt
        | inr ge ↦ (let same : level_on es k ≡ level_on es t.lit = omega (arith, le, ge) in
            let other : is_same k t.lit ≡ false = elim (cases_Bool (is_same k t.lit)) [ inl s ↦ absurd (ne (same_is k t.lit s)) | inr f ↦ f ] in
            absurd (true≢false (sym (in_any (is_beside t.lit) now k here (and_from (not (is_same k t.lit)) _ (ap not other) (eq-eqb (level_on es k) (level_on es t.lit) same))) ∙ none)))
      ] in
      record {
        steps = [];
        lits = lits;
        derived = once_same now;
        distinct = once_distinct now;
        lit = t.lit;
        level = high.level;
        asserting = record {
          falsified = all_false es lits (λ k q. one_false es now k e (once_in now k q));
          alone = record { has = in_once now t.lit t.has; above = below };
          highest = high.is;
          lower = elim high.is.met [
            | inl z ↦ omega (arith, z, above)
            | inr w ↦ (let lt = below w.0 w.1 w.2 in let same = w.3 in omega (arith, lt, same))
          ];
        };
      }

  -- an entry that isn't decided
  clause_of : (w : Why) → (is_decided w ≡ true → ⊥) → (c : ℕ) × (w ≡ Why.Clause c)
  clause_of Why.Decision no' = absurd (no' refl)
  clause_of (Why.Clause c) no' = (c, refl)

  -- one step, with another literal of the highest level
  record IsOneStep (now : List Lit) (t : IsTop now) : Type 0 where
    number : ℕ
    next : List Lit
    step : IsStep 1 cs es now t.lit number next
    falsified : are_false es next ≡ true
    earlier : (k : Lit) (q : ℕ) → Has next k → IsFalseAt es k q → q < t.place
    other : Lit
    other_has : Has next other
    other_level : level_on es other ≡ level_on es t.lit

  one_step : (now : List Lit) (t : IsTop now) → are_false es now ≡ true → list_any (is_beside t.lit) now ≡ true → IsOneStep now t
  one_step now t e some =
      let l = t.lit in
      let f = t.false_here in
      let w = any_in (is_beside l) now some in
      let both = and_parts (not (is_same w.0 l)) (level_on es w.0 == level_on es l) w.2 in
      let ne : w.0 ≢ l = λ s. true≢false (sym (ap (λ m. is_same m l) s ∙ is_itself l) ∙ not-true (is_same w.0 l) both.0) in
      let level = eqb-true (level_on es w.0) (level_on es l) both.1 in
      let a = false_at es w.0 (one_false es now w.0 e w.1) in
      let most = t.most w.0 a.0 w.1 a.1 in
      let before : a.0 < t.place = elim (cases_lt a.0 t.place) [
        | inl lt ↦ lt
        | inr ge ↦ (let same : a.0 ≡ t.place = omega (arith, most, ge) in absurd (ne (same_place w.0 l t.place (subst (IsFalseAt es w.0) same a.1) f)))
      ] in
      let why = clause_of f.entry.why (λ d.
      let lt = decision_first 0 es a.0 t.place a.1.entry f.entry x.levels before a.1.at f.at d in
      let one = at_level w.0 a.0 a.1 in
      let two = at_level l t.place f in
      absurd (omega (arith, lt, one, two, level))) in
      let r : IsReason cs (take t.place es) f.entry.lit why.0 = x.explained t.place f.entry why.0 f.at why.1 in
      let back : f.entry.lit ≡ opposite l = sym (opposite-opposite f.entry.lit) ∙ ap opposite f.is in
      let rest = without (opposite l) r.clause in
      let next = without l now ++ rest in
      let other_false : (k : Lit) → Has r.clause k → k ≢ opposite l → (q : ℕ) × (q < t.place) × IsFalseAt es k q = λ k h no'. false_before es t.place k x.once (r.others k h (λ s. no' (s ∙ back))) in
      let resolves : Resolves opposite now l r.clause next = record {
        stands = t.has;
        against = subst (Has r.clause) back r.has;
        exactly = λ k. (
          (λ h. elim (in_either k (without l now) rest h) [ inl q ↦ inl (in_without l k now q) | inr q ↦ inr (in_without (opposite l) k r.clause q) ]),
          (λ h. elim h [ inl q ↦ in_left k (without l now) rest (without_in l k now q.0 q.1) | inr q ↦ in_right k (without l now) rest (without_in (opposite l) k r.clause q.0 q.1) ]),
        );
      } in
      record {
        number = why.0;
        next = next;
        step = record {
          beside = (w.0, w.1, ne, level);
          latest = record {
            highest = λ k h. top_level now t k e h;
            latest = λ k h same i j at at'.
                let b = false_at es k (one_false es now k e h) in
                let here = t.most k b.0 h b.1 in
                let one : b.0 ≡ i = cc (sym b.1.place ∙ at) in
                let two : t.place ≡ j = cc (sym f.place ∙ at') in
                omega (arith, here, one, two);
          };
          backward = record {
            place = t.place;
            entry = f.entry;
            stands = f.place;
            at = f.at;
            why = why.1;
            reason = r.clause;
            stored = r.stored;
            resolves = resolves;
          };
        };
        falsified = all_false es next (λ k h. elim (in_either k (without l now) rest h) [
          | inl q ↦ one_false es now k e (in_without l k now q).0
          | inr q ↦ (let p = in_without (opposite l) k r.clause q in
              let b = other_false k p.0 p.1 in
              subst (λ m. is_false es m ≡ true) b.2.is (false_by es b.0 b.2.entry x.once b.2.at))
        ]);
        earlier = λ k q h g. elim (in_either k (without l now) rest h) [
          | inl c ↦ (let p = in_without l k now c in
              let le = t.most k q p.0 g in
              elim (cases_lt q t.place) [
                | inl lt ↦ lt
                | inr ge ↦ (let same : q ≡ t.place = omega (arith, le, ge) in absurd (p.1 (same_place k l t.place (subst (IsFalseAt es k) same g) f)))
              ])
          | inr c ↦ (let p = in_without (opposite l) k r.clause c in
              let b = other_false k p.0 p.1 in
              let same = one_place k q b.0 g b.2 in
              let lt = b.1 in
              omega (arith, same, lt))
        ];
        other = w.0;
        other_has = in_left w.0 (without l now) rest (without_in l w.0 now w.1 ne);
        other_level = level;
      }

  -- by the place of the latest entry
  learns : (n : ℕ) (now : List Lit) (t : IsTop now) → t.place < n → are_false es now ≡ true → 0 < level_on es t.lit → IsLearnt now
  learns zero now t lt e above = absurd (omega (arith, lt))
  learns (suc n) now t lt e above =
      elim (cases_Bool (list_any (is_beside t.lit) now)) [
        | inl some ↦ (let o = one_step now t e some in
            let u = top_by o.next o.other o.other_has o.falsified in
            let low = o.earlier u.lit u.place u.has u.false_here in
            let high = top_level o.next u o.other o.falsified o.other_has in
            let same = o.other_level in
            let r = learns n o.next u (omega (arith, low, lt)) o.falsified (omega (arith, above, high, same)) in
            record {
              steps = (t.lit, o.number) ∷ r.steps;
              lits = r.lits;
              derived = (o.next, o.step, r.derived);
              distinct = r.distinct;
              lit = r.lit;
              level = r.level;
              asserting = r.asserting;
            })
        | inr none ↦ ends now t e above none
      ]

  pub learnt_from : (n : ℕ) (c : IsConflict cs es n) → IsLearnt c.clause
  learnt_from n c =
      let t = top_by c.clause c.above.0 c.above.1 c.falsified in
      let le = top_level c.clause t c.above.0 c.falsified c.above.1 in
      let lt = c.above.2 in
      learns (suc t.place) c.clause t (omega arith) c.falsified (omega (arith, le, lt))
