-- The store goes on explaining the trail.
use Rattle.std.proofs.Common.{◌≡◌, ◌≢◌, ℕ, ◌<◌, ◌≤◌, Bool, true, false, cond, ◌&&◌, List, [], ◌∷◌, ◌++◌, length, take, Some, None, inl, inr, refl, sym, subst, ap, ◌∙◌, arith}
use Rattle.std.specs.Prelude.{slice_get, Option}
use Rattle.std.proofs.lemmas.Bool.{false≢true}
use Rattle.std.proofs.lemmas.Option.{slice_get_within}
use Rattle.std.proofs.lemmas.List.{take-append-le, take-take, take_all}
use Rattle.fm_base.specs.declared.ids.Lit.{Lit}
use Rattle.fm_base.specs.Resolution.{Has, SameSet}
use Rattle.fm_trail.specs.declared.entry.Entry.{Entry}
use Rattle.fm_trail.specs.declared.entry.Why.{Why}
use Rattle.fm_trail.specs.Trail.{AreLevelled, HasOneEntry, are_false, decision, implied, is_false, is_none, is_open, level_on, unit_of, up_to, value_of}
use Rattle.fm_trail.proofs.Places.{get_front, get_more, get_push}
use Rattle.fm_trail.proofs.Literals.{false_at, level_at, level_by_place}
use Rattle.fm_trail.proofs.Going.{false_front, front_of, open_front}
use Rattle.fm_sat.specs.Learning.{Explains, IsAsserting, IsReason}
use Rattle.fm_sat.specs.Store.{IsUnit}
use Rattle.fm_sat.proofs.Endings.{false_member}

reason_same : (cs : List (List Lit)) (a b : List Entry) (l : Lit) (c : ℕ) → a ≡ b → IsReason cs a l c → IsReason cs b l c
reason_same cs a b l c same r = subst (λ (xs : List Entry). IsReason cs xs l c) same r

-- an entry whose reason, if it has one, is a reason
pub explains_push : (cs : List (List Lit)) (es : List Entry) (e : Entry) → Explains cs es → ((c : ℕ) → e.why ≡ Why.Clause c → IsReason cs es e.lit c) → Explains cs (es ++ e ∷ [])
explains_push cs es e explained reason i f c at why =
    elim (get_push es e i f at) [
      | inl old ↦
          let lt = slice_get_within es i f old in
          let le : i ≤ length es = omega arith in
          reason_same cs (take i es) (take i (es ++ e ∷ [])) f.lit c (sym (take-append-le i es (e ∷ []) le)) (explained i f c old why)
      | inr new ↦
          let le : i ≤ length es = omega (arith, new.0) in
          let all : take i (es ++ e ∷ []) ≡ es = take-append-le i es (e ∷ []) le ∙ take_all i es (omega (arith, new.0)) in
          let r = reason c (ap (λ (g : Entry). g.why) new.1 ∙ why) in
          reason_same cs es (take i (es ++ e ∷ [])) f.lit c (sym all) (subst (λ (g : Entry). IsReason cs es g.lit c) new.1 r)
    ]

pub explains_imply : (cs : List (List Lit)) (es : List Entry) (c : ℕ) (l : Lit) → Explains cs es → IsReason cs es l c → Explains cs (es ++ implied es l c ∷ [])
explains_imply cs es c l explained r = explains_push cs es (implied es l c) explained (λ d why. let same : c ≡ d = cc in subst (IsReason cs es l) same r)

pub explains_decide : (cs : List (List Lit)) (es : List Entry) (l : Lit) → Explains cs es → Explains cs (es ++ decision es l ∷ [])
explains_decide cs es l explained = explains_push cs es (decision es l) explained (λ c why. absurd cc)

explains_front : (cs : List (List Lit)) (es : List Entry) (n : ℕ) → Explains cs es → Explains cs (take n es)
explains_front cs es n explained i e c at why =
    let old = get_front es n i e at in
    let lt = old.0 in
    reason_same cs (take i es) (take i (take n es)) e.lit c (sym (take-take i n es (omega arith))) (explained i e c old.1 why)

pub explains_back : (cs : List (List Lit)) (es : List Entry) (level : ℕ) → AreLevelled 0 es → Explains cs es → Explains cs (up_to level es)
explains_back cs es level levels explained =
    let f = front_of 0 es level levels in
    subst (Explains cs) (sym f.is) (explains_front cs es f.end explained)

pub explains_add : (cs : List (List Lit)) (c : List Lit) (es : List Entry) → Explains cs es → Explains (cs ++ c ∷ []) es
explains_add cs c es explained i e n at why =
    let r = explained i e n at why in
    record { clause = r.clause; stored = get_more cs (c ∷ []) n r.clause r.stored; has = r.has; others = r.others }

unit_step : (es : List Entry) (l k : Lit) (ls : List Lit) (a b : Bool) → is_false es l ≡ a → (is_open es l && are_false es ls) ≡ b → (unit_of es ls ≡ Some k → Has ls k × ((j : Lit) → Has ls j → j ≢ k → is_false es j ≡ true)) → cond a (unit_of es ls) (cond b (Some l) None) ≡ Some k → Has (l ∷ ls) k × ((j : Lit) → Has (l ∷ ls) j → j ≢ k → is_false es j ≡ true)
unit_step es l k ls true b f o rest is = let r = rest is in (inr r.0, λ j has ne. elim has [ inl here ↦ subst (λ (x : Lit). is_false es x ≡ true) here f | inr more ↦ r.1 j more ne ])
unit_step es l k ls false true f o rest is =
    let same : l ≡ k = cc in
    (inl same, λ j has ne. elim has [ inl here ↦ absurd (ne (sym here ∙ same)) | inr more ↦ false_member es ls j (second (is_open es l) (are_false es ls) o) more ])
  where
    second : (a b : Bool) → (a && b) ≡ true → b ≡ true
    second true b h = h
    second false b h = absurd (false≢true h)
unit_step es l k ls false false f o rest is = absurd cc

-- a unit clause is a reason for its literal
pub unit_literals : (es : List Entry) (c : List Lit) (k : Lit) → unit_of es c ≡ Some k → Has c k × ((j : Lit) → Has c j → j ≢ k → is_false es j ≡ true)
unit_literals es [] k is = absurd cc
unit_literals es (l ∷ ls) k is = unit_step es l k ls (is_false es l) (is_open es l && are_false es ls) refl refl (unit_literals es ls k) is

unit_free_step : (es : List Entry) (l k : Lit) (ls : List Lit) (a b : Bool) → is_open es l ≡ b → (unit_of es ls ≡ Some k → value_of es k.atom ≡ None) → cond a (unit_of es ls) (cond (b && are_false es ls) (Some l) None) ≡ Some k → value_of es k.atom ≡ None
unit_free_step es l k ls true b o rest is = rest is
unit_free_step es l k ls false true o rest is = one (are_false es ls) is
  where
    none : (v : Option Bool) → is_none v ≡ true → v ≡ None
    none None h = refl
    none (Some x) h = absurd (false≢true h)

    one : (b : Bool) → cond b (Some l) None ≡ Some k → value_of es k.atom ≡ None
    one true is = let same : l ≡ k = cc in subst (λ (j : Lit). value_of es j.atom ≡ None) same (none (value_of es l.atom) o)
    one false is = absurd cc
unit_free_step es l k ls false false o rest is = absurd cc

-- and its literal has no value
unit_free : (es : List Entry) (c : List Lit) (k : Lit) → unit_of es c ≡ Some k → value_of es k.atom ≡ None
unit_free es [] k is = absurd cc
unit_free es (l ∷ ls) k is = unit_free_step es l k ls (is_false es l) (is_open es l) refl (unit_free es ls k) is

pub unit_reason : (cs : List (List Lit)) (es : List Entry) (n : ℕ) (l : Lit) → IsUnit cs es n l → IsReason cs es l n × (value_of es l.atom ≡ None)
unit_reason cs es n l u = (let r = unit_literals es u.clause l u.unit in record { clause = u.clause; stored = u.stored; has = r.0; others = r.1 }, unit_free es u.clause l u.unit)

-- a learnt clause, or one that is the same set, is a reason for its literal after going back
pub reason_learnt : (cs : List (List Lit)) (es : List Entry) (n : ℕ) (c lits : List Lit) (l : Lit) (level : ℕ) → AreLevelled 0 es → HasOneEntry es → slice_get cs n ≡ Some c → SameSet c lits → IsAsserting es lits l level → IsReason cs (up_to level es) l n
reason_learnt cs es n c lits l level levels once stored same a =
    let f = front_of 0 es level levels in
    reason_same cs (take f.end es) (up_to level es) l n (sym f.is) (record {
      clause = c;
      stored = stored;
      has = (same l).1 a.alone.has;
      others = λ k has' ne.
          let has = (same k).0 has' in
          let q = false_at es k (false_member es lits k a.falsified has) in
          let lev = level_by_place es k q.0 q.1.entry q.1.place q.1.at in
          false_front es f.end k q.0 once q.1 (f.inside q.0 q.1.entry q.1.at (omega (arith, lev, a.highest.bound k has ne)));
    })

-- and the literal has no value there
pub open_learnt : (es : List Entry) (l : Lit) (level : ℕ) → AreLevelled 0 es → HasOneEntry es → level < level_on es l → value_of (up_to level es) l.atom ≡ None
open_learnt es l level levels once lt =
    let f = front_of 0 es level levels in
    subst (λ (xs : List Entry). value_of xs l.atom ≡ None) (sym f.is) (open_front es f.end l (λ q e at same. f.outside q e at (omega (arith, level_at es l q e once at same))))
