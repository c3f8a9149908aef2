-- One step back: the last marked entry's mark goes, and its reason's other literals are marked.
use Rattle.std.proofs.Common.{◌≡◌, ◌≢◌, ℕ, zero, suc, ◌<◌, ◌≤◌, Bool, true, false, List, [], ◌∷◌, ◌++◌, take, Some, inl, inr, refl, sym, subst, ap, ◌∙◌, arith}
use Rattle.std.specs.Prelude.{slice_get, slice_set}
use Rattle.std.proofs.lemmas.Option.{slice_get_within}
use Rattle.fm_base.specs.declared.ids.Lit.{Lit}
use Rattle.fm_base.specs.Resolution.{Has, Resolves, SameSet, opposite}
use Rattle.fm_trail.specs.declared.entry.Entry.{Entry}
use Rattle.fm_trail.specs.declared.entry.Why.{Why}
use Rattle.fm_trail.specs.Trail.{AreLevelled, HasOneEntry, is_decided, is_false, place_of}
use Rattle.fm_trail.proofs.Places.{place_some}
use Rattle.fm_trail.proofs.Literals.{IsFalseAt, decision_first, false_before, level_at, levels_ascend, none_decided, opposite-opposite, place_at}
use Rattle.fm_sat.specs.Learning.{Derives, HasBeside, IsLatest, IsStep, IsWalkable}
use Rattle.fm_sat.specs.Marks.{AreBelow, AreCounted, AreJoined, AreLow, IsLastOf, IsMarked, IsUnmarked, marked}
use Rattle.fm_sat.proofs.Counts.{MarkedAt, count_some, count_unset, has_marked, mark_none, marked_has, one_here}
use Rattle.fm_sat.proofs.Counted.{same_entry}

has_as : (ms : List Bool) (es : List Entry) (k : Lit) (q : ℕ) (e : Entry) → IsMarked ms q → slice_get es q ≡ Some e → opposite e.lit ≡ k → Has (marked ms es) k
has_as ms es k q e m at is = subst (Has (marked ms es)) is (has_marked ms es q e m at)

-- a false literal seen at a marked place is the one that the mark stands for
pub seen_is : (es : List Entry) (l k : Lit) (q r : ℕ) (e : Entry) → IsFalseAt es l r → place_of es l.atom ≡ Some q → slice_get es q ≡ Some e → opposite e.lit ≡ k → l ≡ k
seen_is es l k q r e f place at is =
    let s : Some r ≡ Some q = sym f.place ∙ place in
    let here : r ≡ q = cc in
    let same = same_entry es q f.entry e (subst (λ (n : ℕ). slice_get es n ≡ Some f.entry) here f.at) at in
    sym f.is ∙ (ap (λ (d : Entry). opposite d.lit) same ∙ is)

pub resolves_step : (es : List Entry) (ms mid new : List Bool) (p : ℕ) (e : Entry) (r : List Lit) → HasOneEntry es → IsMarked ms p → slice_get es p ≡ Some e → IsUnmarked ms p mid → AreJoined es r p mid new → Has r e.lit → ((k : Lit) → Has r k → k ≢ e.lit → is_false (take p es) k ≡ true) → Resolves opposite (marked ms es) (opposite e.lit) r (marked new es)
resolves_step es ms mid new p e r once is at un joined has others = record {
  stands = has_marked ms es p e is at;
  against = subst (Has r) (sym (opposite-opposite e.lit)) has;
  exactly = λ k. (
    λ h.
        let w = marked_has new es k h in
        elim ((joined w.0).0 w.1.mark) [
          | inl was ↦
              let old = (un w.0).0 was in
              inl (has_as ms es k w.0 w.1.entry old.0 w.1.at w.1.is, λ same. old.1 (once w.0 p w.1.entry e w.1.at at (ap (λ (l : Lit). l.atom.0) (w.1.is ∙ same))))
          | inr s ↦
              let ne : s.lit ≢ e.lit = λ same. (let here : Some w.0 ≡ Some p = sym s.place ∙ (ap (λ (l : Lit). place_of es l.atom) same ∙ place_at es e.lit.atom p e once at refl) in let eq : w.0 ≡ p = cc in let lt = s.below in absurd (omega arith)) in
              let f = false_before es p s.lit once (others s.lit s.has ne) in
              let same = seen_is es s.lit k w.0 f.0 w.1.entry f.2 s.place w.1.at w.1.is in
              inr (subst (Has r) same s.has, λ is'. ne (same ∙ (is' ∙ opposite-opposite e.lit)))
        ],
    λ h. elim h [
      | inl old ↦
          let w = marked_has ms es k old.0 in
          let other : w.0 ≢ p = λ here. old.1 (sym w.1.is ∙ ap (λ (d : Entry). opposite d.lit) (same_entry es p w.1.entry e (subst (λ (n : ℕ). slice_get es n ≡ Some w.1.entry) here w.1.at) at)) in
          has_as new es k w.0 w.1.entry ((joined w.0).1 (inl ((un w.0).1 (w.1.mark, other)))) w.1.at w.1.is
      | inr more ↦
          let f = false_before es p k once (others k more.0 (λ same. more.1 (same ∙ sym (opposite-opposite e.lit)))) in
          has_as new es k f.0 f.2.entry ((joined f.0).1 (inr (record { lit = k; has = more.0; place = f.2.place; below = f.1 }))) f.2.at f.2.is
    ],
  );
}

-- the last mark is of the highest level
pub last_top : (es : List Entry) (top : ℕ) (ms : List Bool) (n : ℕ) (lower : List Lit) (p : ℕ) (e : Entry) → AreLevelled 0 es → AreCounted es top ms n lower → 1 ≤ n → IsLastOf ms p → slice_get es p ≡ Some e → e.level ≡ top
last_top es top ms n lower p e levels c some l at =
    let q = count_some top ms es (omega (arith, c.count_is)) in
    let le = levels_ascend 0 es q.0 p q.1.entry e levels (l.last q.0 q.1.mark) q.1.at at in
    omega (arith, le, q.1.level, c.low p (record { entry = e; mark = l.marked; at = at }))

-- another one of that level
pub another : (es : List Entry) (top : ℕ) (ms : List Bool) (n : ℕ) (lower : List Lit) (p : ℕ) (e : Entry) → AreCounted es top ms n lower → 2 ≤ n → IsMarked ms p → slice_get es p ≡ Some e → e.level ≡ top → (q : ℕ) × (q ≢ p) × MarkedAt ms es top q
another es top ms n lower p e c two is at level =
    let q = count_some top (slice_set ms p false) es (omega (arith, c.count_is, count_unset top ms es p e is at, one_here top e level)) in
    let old = (mark_none ms p (slice_get_within ms p true is) q.0).0 q.1.mark in
    (q.0, old.1, record { entry = q.1.entry; mark = old.0; at = q.1.at; level = q.1.level })

pub not_decided : (cs : List (List Lit)) (es : List Entry) (top keep : ℕ) (ms : List Bool) (n : ℕ) (lower : List Lit) (p : ℕ) (e : Entry) → IsWalkable cs es top keep → AreCounted es top ms n lower → keep < n → IsLastOf ms p → slice_get es p ≡ Some e → e.level ≡ top → is_decided e.why ≡ true → ⊥
not_decided cs es top zero ms n lower p e w c more l at level dec = none_decided es p e w.levels at (level ∙ w.all refl) dec
not_decided cs es top (suc keep) ms n lower p e w c more l at level dec =
    let q = another es top ms n lower p e c (omega arith) l.marked at level in
    let le = l.last q.0 q.2.mark in
    let lt : q.0 < p = (let ne = q.1 in omega arith) in
    let below = decision_first 0 es q.0 p q.2.entry e w.levels lt q.2.at at dec in
    omega (arith, q.2.level)

pub undecided_in : (b : Bool) → (b ≡ true → ⊥) → b ≡ false
undecided_in true h = absurd (h refl)
undecided_in false h = refl

pub undecided : (cs : List (List Lit)) (es : List Entry) (top keep : ℕ) (ms : List Bool) (n : ℕ) (lower : List Lit) (p : ℕ) (e : Entry) → IsWalkable cs es top keep → AreCounted es top ms n lower → keep < n → IsLastOf ms p → slice_get es p ≡ Some e → is_decided e.why ≡ false
undecided cs es top keep ms n lower p e w c more l at =
    let level = last_top es top ms n lower p e w.levels c (omega arith) l at in
    undecided_in (is_decided e.why) (not_decided cs es top keep ms n lower p e w c more l at level)

pub latest_step : (es : List Entry) (top : ℕ) (ms : List Bool) (n : ℕ) (lower : List Lit) (p : ℕ) (e : Entry) → HasOneEntry es → AreCounted es top ms n lower → IsLastOf ms p → slice_get es p ≡ Some e → e.level ≡ top → IsLatest es (marked ms es) (opposite e.lit)
latest_step es top ms n lower p e once c l at level = record {
  highest = λ k h.
      let w = marked_has ms es k h in
      let a = level_at es k w.0 w.1.entry once w.1.at (ap (λ (d : Lit). d.atom.0) w.1.is) in
      let b = level_at es (opposite e.lit) p e once at refl in
      omega (arith, a, b, level, c.low w.0 (record { entry = w.1.entry; mark = w.1.mark; at = w.1.at }));
  latest = λ k h same i j ki lj.
      let w = marked_has ms es k h in
      let a : Some w.0 ≡ Some i = sym (place_at es k.atom w.0 w.1.entry once w.1.at (ap (λ (d : Lit). d.atom.0) w.1.is)) ∙ ki in
      let b : Some p ≡ Some j = sym (place_at es e.lit.atom p e once at refl) ∙ lj in
      let a' : w.0 ≡ i = cc in
      let b' : p ≡ j = cc in
      omega (arith, l.last w.0 w.1.mark);
}

pub beside_step : (keep : ℕ) (es : List Entry) (top : ℕ) (ms : List Bool) (n : ℕ) (lower : List Lit) (p : ℕ) (e : Entry) → HasOneEntry es → AreCounted es top ms n lower → keep < n → IsMarked ms p → slice_get es p ≡ Some e → e.level ≡ top → HasBeside keep es (marked ms es) (opposite e.lit)
beside_step zero es top ms n lower p e once c more is at level = tt
beside_step (suc keep) es top ms n lower p e once c more is at level =
    let q = another es top ms n lower p e c (omega arith) is at level in
    let a = level_at es (opposite q.2.entry.lit) q.0 q.2.entry once q.2.at refl in
    let b = level_at es (opposite e.lit) p e once at refl in
    (opposite q.2.entry.lit, has_marked ms es q.0 q.2.entry q.2.mark q.2.at, λ same. q.1 (once q.0 p q.2.entry e q.2.at at (ap (λ (d : Lit). d.atom.0) same)), a ∙ (q.2.level ∙ (sym level ∙ sym b)))

pub low_step : (es : List Entry) (r : List Lit) (p top : ℕ) (e : Entry) → AreLevelled 0 es → slice_get es p ≡ Some e → e.level ≡ top → AreLow es r p top
low_step es r p top e levels at level q s =
    let d = place_some es s.lit.atom q s.place in
    let lt = s.below in
    let le : q ≤ p = omega arith in
    (d.entry, d.there, omega (arith, level, levels_ascend 0 es q p d.entry e levels le d.there at))

pub below_step : (es : List Entry) (r : List Lit) (ms mid new : List Bool) (p : ℕ) → IsLastOf ms p → IsUnmarked ms p mid → AreJoined es r p mid new → AreBelow new p
below_step es r ms mid new p l un joined q is =
    elim ((joined q).0 is) [
      | inl was ↦ let old = (un q).0 was in let le = l.last q old.0 in let ne = old.1 in omega arith
      | inr s ↦ s.below
    ]

-- the whole step
pub step_is : (keep : ℕ) (cs : List (List Lit)) (es : List Entry) (top : ℕ) (ms mid new : List Bool) (n : ℕ) (lower : List Lit) (p : ℕ) (e : Entry) (c : ℕ) (r : List Lit) → IsWalkable cs es top keep → AreCounted es top ms n lower → keep < n → IsLastOf ms p → slice_get es p ≡ Some e → e.why ≡ Why.Clause c → slice_get cs c ≡ Some r → IsUnmarked ms p mid → AreJoined es r p mid new → IsStep keep cs es (marked ms es) (opposite e.lit) c (marked new es)
step_is keep cs es top ms mid new n lower p e c r w k more l at why stored un joined =
    let level = last_top es top ms n lower p e w.levels k (omega arith) l at in
    let reason = w.explained p e c at why in
    let same : reason.clause ≡ r = (let s : Some reason.clause ≡ Some r = sym reason.stored ∙ stored in cc) in
    let has : Has r e.lit = subst (λ (x : List Lit). Has x e.lit) same reason.has in
    let others = subst (λ (x : List Lit). (j : Lit) → Has x j → j ≢ e.lit → is_false (take p es) j ≡ true) same reason.others in
    record {
      beside = beside_step keep es top ms n lower p e w.once k more l.marked at level;
      latest = latest_step es top ms n lower p e w.once k l at level;
      backward = record { place = p; entry = e; stands = place_at es e.lit.atom p e w.once at refl; at = at; why = why; reason = r; stored = stored; resolves = resolves_step es ms mid new p e r w.once l.marked at un joined has others };
    }

pub derives_more : (keep : ℕ) (cs : List (List Lit)) (es : List Entry) (start : List Lit) (ss : List (Lit × ℕ)) (mid : List Lit) (s : Lit × ℕ) (end : List Lit) → Derives keep cs es start ss mid → ((now : List Lit) → SameSet now mid → IsStep keep cs es now s.0 s.1 end) → Derives keep cs es start (ss ++ s ∷ []) end
derives_more keep cs es start [] mid s end d step = (end, step start d, λ k. (λ h. h, λ h. h))
derives_more keep cs es start (t ∷ ss) mid s end (next, first, rest) step = (next, first, derives_more keep cs es next ss mid s end rest step)

-- a step stays one from the same set
pub step_from : (keep : ℕ) (cs : List (List Lit)) (es : List Entry) (now mid : List Lit) (l : Lit) (c : ℕ) (end : List Lit) → SameSet now mid → IsStep keep cs es mid l c end → IsStep keep cs es now l c end
step_from keep cs es now mid l c end same s = record {
  beside = beside_from keep es now mid l same s.beside;
  latest = record { highest = λ k h. s.latest.highest k ((same k).0 h); latest = λ k h. s.latest.latest k ((same k).0 h) };
  backward = record {
    place = s.backward.place;
    entry = s.backward.entry;
    stands = s.backward.stands;
    at = s.backward.at;
    why = s.backward.why;
    reason = s.backward.reason;
    stored = s.backward.stored;
    resolves = record {
      stands = (same l).1 s.backward.resolves.stands;
      against = s.backward.resolves.against;
      exactly = λ k. (λ h. elim ((s.backward.resolves.exactly k).0 h) [ inl a ↦ inl ((same k).1 a.0, a.1) | inr b ↦ inr b ], λ h. (s.backward.resolves.exactly k).1 (elim h [ inl a ↦ inl ((same k).0 a.0, a.1) | inr b ↦ inr b ]));
    };
  };
}
  where
    beside_from : (keep : ℕ) (es : List Entry) (now mid : List Lit) (l : Lit) → SameSet now mid → HasBeside keep es mid l → HasBeside keep es now l
    beside_from zero es now mid l same b = tt
    beside_from (suc keep) es now mid l same (k, has, ne, level) = (k, (same k).1 has, ne, level)
