-- A walk that leaves nothing, and what chains it gives.
use Rattle.std.proofs.Common.{◌≡◌, ◌≢◌, ℕ, Bool, true, false, not, List, [], ◌∷◌, length, replicate, take, Some, inl, inr, refl, sym, subst, ap, ◌∙◌, arith}
use Rattle.std.specs.Prelude.{slice_get, ◌⊎◌}
use Rattle.std.proofs.lemmas.Bool.{false≢true}
use Rattle.fm_base.specs.declared.ids.Lit.{Lit}
use Rattle.fm_base.specs.Resolution.{Chain, Has, Resolves, SameSet, opposite}
use Rattle.fm_trail.specs.declared.entry.Entry.{Entry}
use Rattle.fm_trail.specs.declared.entry.Why.{Why}
use Rattle.fm_trail.specs.Trail.{HasOneEntry, is_false, place_of}
use Rattle.fm_trail.proofs.Literals.{false_at, false_before, false_by, opposite-opposite, place_at}
use Rattle.fm_sat.specs.Learning.{Derives, Explains, IsHighest, IsRefuted, IsStep}
use Rattle.fm_sat.specs.Marks.{AreCounted, AreJoined, IsSeenIn, marked}
use Rattle.fm_sat.proofs.Counts.{counted_some, has_marked, marked_has, none_marked, same_place}
use Rattle.fm_sat.proofs.Steps.{seen_is}

-- a derivation by the rule is a chain of resolutions
pub chain_of : (keep : ℕ) (cs : List (List Lit)) (es : List Entry) (now : List Lit) (ss : List (Lit × ℕ)) (end : List Lit) → Derives keep cs es now ss end → Chain opposite cs now ss end
chain_of keep cs es now [] end d = d
chain_of keep cs es now (s ∷ ss) end (next, step, rest) = (step.backward.reason, next, step.backward.stored, step.backward.resolves, chain_of keep cs es next ss end rest)

pub none_left : (es : List Entry) (ms : List Bool) (n : ℕ) (lower : List Lit) → AreCounted es 0 ms n lower → n ≡ 0 → SameSet (marked ms es) []
none_left es ms n lower c none k = (
  λ has.
      let w = marked_has ms es k has in
      let low = c.low w.0 (record { entry = w.1.entry; mark = w.1.mark; at = w.1.at }) in
      let some = counted_some 0 ms es w.0 (record { entry = w.1.entry; mark = w.1.mark; at = w.1.at; level = omega arith }) in
      omega (arith, c.count_is),
  λ h. absurd h,
)

pub zero_highest : (cs : List (List Lit)) (es : List Entry) (n : ℕ) (c : List Lit) → IsRefuted cs es n → slice_get cs n ≡ Some c → IsHighest es c 0
zero_highest cs es n c r stored =
    let it : r.clause ≡ c = (let s : Some r.clause ≡ Some c = sym r.stored ∙ stored in cc) in
    subst (λ (x : List Lit). IsHighest es x 0) it (record { bound = λ k has. omega (arith, r.zero_level k has); met = inl refl })

abbrev pub AllFalse : List Entry → List Lit → Type 0
AllFalse es c = (k : Lit) → Has c k → is_false es k ≡ true

-- what a step leaves is false where all was
pub falses_step : (keep : ℕ) (cs : List (List Lit)) (es : List Entry) (now : List Lit) (l : Lit) (c : ℕ) (next : List Lit) → HasOneEntry es → Explains cs es → AllFalse es now → IsStep keep cs es now l c next → AllFalse es next
falses_step keep cs es now l c next once explained falses step k has =
    let b = step.backward in
    let r = explained b.place b.entry c b.at b.why in
    let same : r.clause ≡ b.reason = (let s : Some r.clause ≡ Some b.reason = sym r.stored ∙ b.stored in cc) in
    let f = false_at es l (falses l b.resolves.stands) in
    let is : l ≡ opposite b.entry.lit = seen_is es l (opposite b.entry.lit) b.place f.0 b.entry f.1 b.stands b.at refl in
    elim ((b.resolves.exactly k).0 has) [
      | inl old ↦ falses k old.0
      | inr more ↦
          let ne : k ≢ b.entry.lit = λ q. more.1 (q ∙ (sym (opposite-opposite b.entry.lit) ∙ ap opposite (sym is))) in
          let g = false_before es b.place k once (r.others k (subst (λ (x : List Lit). Has x k) (sym same) more.0) ne) in
          subst (λ (j : Lit). is_false es j ≡ true) g.2.is (false_by es g.0 g.2.entry once g.2.at)
    ]

kept_step : (a : List Lit) (l : Lit) (b next : List Lit) (x : Lit) → x ≢ l → Resolves opposite a l b next → Resolves opposite (x ∷ a) l b (x ∷ next)
kept_step a l b next x ne r = record {
  stands = inr r.stands;
  against = r.against;
  exactly = λ k. (
    λ h. elim h [
      | inl here ↦ inl (inl here, λ same. ne (here ∙ same))
      | inr more ↦ elim ((r.exactly k).0 more) [ inl old ↦ inl (inr old.0, old.1) | inr new ↦ inr new ]
    ],
    λ h. elim h [
      | inl old ↦ elim old.0 [ inl here ↦ inl here | inr more ↦ inr ((r.exactly k).1 (inl (more, old.1))) ]
      | inr new ↦ inr ((r.exactly k).1 (inr new))
    ],
  );
}

-- a further literal that isn't false stays
pub kept_chain : (keep : ℕ) (cs : List (List Lit)) (es : List Entry) (now : List Lit) (ss : List (Lit × ℕ)) (end : List Lit) (x : Lit) → HasOneEntry es → Explains cs es → AllFalse es now → (is_false es x ≡ true → ⊥) → Derives keep cs es now ss end → Chain opposite cs (x ∷ now) ss (x ∷ end)
kept_chain keep cs es now [] end x once explained falses not' d = λ k. (λ h. elim h [ inl here ↦ inl here | inr more ↦ inr ((d k).0 more) ], λ h. elim h [ inl here ↦ inl here | inr more ↦ inr ((d k).1 more) ])
kept_chain keep cs es now (s ∷ ss) end x once explained falses not' (next, step, rest) =
    let ne : x ≢ s.0 = λ same. not' (subst (λ (j : Lit). is_false es j ≡ true) (sym same) (falses s.0 step.backward.resolves.stands)) in
    (step.backward.reason, x ∷ next, step.backward.stored, kept_step now s.0 step.backward.reason next x ne step.backward.resolves, kept_chain keep cs es next ss end x once explained (falses_step keep cs es now s.0 s.1 next once explained falses step) not' rest)

pub chain_end : (cs : List (List Lit)) (a : List Lit) (ss : List (Lit × ℕ)) (end last : List Lit) → Chain opposite cs a ss end → SameSet end last → Chain opposite cs a ss last
chain_end cs a [] end last d same = λ k. (λ h. (same k).0 ((d k).0 h), λ h. (d k).1 ((same k).1 h))
chain_end cs a (s ∷ ss) end last (other, next, stored, r, rest) same = (other, next, stored, r, chain_end cs next ss end last rest same)

pub same_more : (x : Lit) (a b : List Lit) → SameSet a b → SameSet (x ∷ a) (x ∷ b)
same_more x a b same k = (λ h. elim h [ inl here ↦ inl here | inr more ↦ inr ((same k).0 more) ], λ h. elim h [ inl here ↦ inl here | inr more ↦ inr ((same k).1 more) ])

pub marked_false : (es : List Entry) (ms : List Bool) → HasOneEntry es → AllFalse es (marked ms es)
marked_false es ms once k has =
    let w = marked_has ms es k has in
    subst (λ (j : Lit). is_false es j ≡ true) w.1.is (false_by es w.0 w.1.entry once w.1.at)

sign_differs : (b : Bool) → not b ≡ b → ⊥
sign_differs true e = false≢true e
sign_differs false e = false≢true (sym e)

-- the literal of an entry isn't false
pub entry_not_false : (es : List Entry) (p : ℕ) (e : Entry) → HasOneEntry es → slice_get es p ≡ Some e → is_false es e.lit ≡ true → ⊥
entry_not_false es p e once at h =
    let f = false_at es e.lit h in
    let is = seen_is es e.lit (opposite e.lit) p f.0 e f.1 (place_at es e.lit.atom p e once at refl) at refl in
    sign_differs e.lit.positive (ap (λ (l : Lit). l.positive) (sym is))

-- the reason of an entry is its literal with the literals that the marks stand for
pub reason_set : (cs : List (List Lit)) (es : List Entry) (p : ℕ) (e : Entry) (c : ℕ) (r : List Lit) (ms : List Bool) → HasOneEntry es → Explains cs es → slice_get es p ≡ Some e → e.why ≡ Why.Clause c → slice_get cs c ≡ Some r → AreJoined es r p (replicate (length es) false) ms → SameSet r (e.lit ∷ marked ms es)
reason_set cs es p e c r ms once explained at why stored joined k =
    let reason = explained p e c at why in
    let same : reason.clause ≡ r = (let s : Some reason.clause ≡ Some r = sym reason.stored ∙ stored in cc) in
    let others = subst (λ (x : List Lit). (j : Lit) → Has x j → j ≢ e.lit → is_false (take p es) j ≡ true) same reason.others in (
      λ has. elim (same_lit k e.lit) [
        | inl here ↦ inl (sym here)
        | inr ne ↦
            let f = false_before es p k once (others k has ne) in
            let s : IsSeenIn es r p f.0 = record { lit = k; has = has; place = f.2.place; below = f.1 } in
            inr (subst (Has (marked ms es)) f.2.is (has_marked ms es f.0 f.2.entry ((joined f.0).1 (inr s)) f.2.at))
      ],
      λ h. elim h [
        | inl here ↦ subst (Has r) here (subst (λ (x : List Lit). Has x e.lit) same reason.has)
        | inr more ↦
            let w = marked_has ms es k more in
            elim ((joined w.0).0 w.1.mark) [
              | inl was ↦ absurd (none_marked (length es) w.0 was)
              | inr s ↦
                  let ne : s.lit ≢ e.lit = λ q. (let here : Some w.0 ≡ Some p = sym s.place ∙ (ap (λ (l : Lit). place_of es l.atom) q ∙ place_at es e.lit.atom p e once at refl) in let eq : w.0 ≡ p = cc in let lt = s.below in absurd (omega arith)) in
                  let f = false_before es p s.lit once (others s.lit s.has ne) in
                  subst (Has r) (seen_is es s.lit k w.0 f.0 w.1.entry f.2 s.place w.1.at w.1.is) s.has
            ]
      ],
    )
  where
    same_bool : (a b : Bool) → (a ≡ b) ⊎ (a ≢ b)
    same_bool true true = inl refl
    same_bool true false = inr (λ e. false≢true (sym e))
    same_bool false true = inr false≢true
    same_bool false false = inl refl

    same_lit : (k l : Lit) → (k ≡ l) ⊎ (k ≢ l)
    same_lit k l = elim (same_place k.atom.0 l.atom.0) [
      | inl a ↦ elim (same_bool k.positive l.positive) [ inl b ↦ inl (λ i. record { atom = record { 0 = a i }; positive = b i }) | inr n ↦ inr (λ q. n (ap (λ (x : Lit). x.positive) q)) ]
      | inr n ↦ inr (λ q. n (ap (λ (x : Lit). x.atom.0) q))
    ]
