-- The rule of learning has one outcome, as a set.
use Rattle.std.proofs.Common.{◌≡◌, ◌≢◌, ℕ, true, List, [], ◌∷◌, Some, inl, inr, refl, sym, subst, ap, ◌∙◌, arith}
use Rattle.std.specs.Prelude.{slice_get}
use Rattle.fm_base.specs.declared.ids.Lit.{Lit}
use Rattle.fm_base.specs.Resolution.{Has, SameSet, opposite}
use Rattle.fm_trail.specs.declared.entry.Entry.{Entry}
use Rattle.fm_trail.specs.declared.entry.Why.{Why}
use Rattle.fm_trail.specs.Trail.{HasOneEntry, are_false, is_false, level_on, place_of}
use Rattle.fm_trail.proofs.Literals.{false_at}
use Rattle.fm_sat.specs.Learning.{Derives, Explains, IsExplained, IsStep, StandsAlone}
use Rattle.fm_sat.proofs.Counted.{same_entry}
use Rattle.fm_sat.proofs.Chains.{AllFalse, falses_step}
use Rattle.fm_sat.proofs.Endings.{false_member}
use Rattle.fm_sat.specs.Laws.{EndsAlone}

-- false literals with entries at one place are one
false_same : (es : List Entry) (k l : Lit) → is_false es k ≡ true → is_false es l ≡ true → (p : ℕ) → place_of es k.atom ≡ Some p → place_of es l.atom ≡ Some p → k ≡ l
false_same es k l fk fl p pk pl =
    let a = false_at es k fk in
    let b = false_at es l fl in
    let qa : Some a.0 ≡ Some p = sym a.1.place ∙ pk in
    let qb : Some b.0 ≡ Some p = sym b.1.place ∙ pl in
    let ia : a.0 ≡ p = cc in
    let ib : b.0 ≡ p = cc in
    let same = same_entry es p a.1.entry b.1.entry (subst (λ (n : ℕ). slice_get es n ≡ Some a.1.entry) ia a.1.at) (subst (λ (n : ℕ). slice_get es n ≡ Some b.1.entry) ib b.1.at) in
    sym a.1.is ∙ (ap (λ (e : Entry). opposite e.lit) same ∙ b.1.is)

-- the literal of a step is determined
step_literal : (cs : List (List Lit)) (es : List Entry) (a b : List Lit) (k l : Lit) (m n : ℕ) (next next' : List Lit) → AllFalse es a → SameSet a b → IsStep 1 cs es a k m next → IsStep 1 cs es b l n next' → k ≡ l
step_literal cs es a b k l m n next next' falses same s t =
    let hk = s.backward.resolves.stands in
    let hl = (same l).1 t.backward.resolves.stands in
    let up = t.latest.highest k ((same k).0 hk) in
    let down = s.latest.highest l hl in
    let level : level_on es k ≡ level_on es l = omega arith in
    let p = s.backward.place in
    let q = t.backward.place in
    let one = t.latest.latest k ((same k).0 hk) level p q s.backward.stands t.backward.stands in
    let two = s.latest.latest l hl (sym level) q p t.backward.stands s.backward.stands in
    let here : q ≡ p = omega arith in
    false_same es k l (falses k hk) (falses l hl) p s.backward.stands (t.backward.stands ∙ ap Some here)

-- and so is what it leaves
step_set : (cs : List (List Lit)) (es : List Entry) (a b : List Lit) (k l : Lit) (m n : ℕ) (next next' : List Lit) → SameSet a b → k ≡ l → IsStep 1 cs es a k m next → IsStep 1 cs es b l n next' → SameSet next next'
step_set cs es a b k l m n next next' same is s t =
    let x = s.backward in
    let y = t.backward in
    let p : Some x.place ≡ Some y.place = sym x.stands ∙ (ap (λ (j : Lit). place_of es j.atom) is ∙ y.stands) in
    let here : x.place ≡ y.place = cc in
    let e = same_entry es y.place x.entry y.entry (subst (λ (i : ℕ). slice_get es i ≡ Some x.entry) here x.at) y.at in
    let w : Why.Clause m ≡ Why.Clause n = sym x.why ∙ (ap (λ (d : Entry). d.why) e ∙ y.why) in
    let c : m ≡ n = cc in
    let r : Some x.reason ≡ Some y.reason = sym x.stored ∙ (ap (slice_get cs) c ∙ y.stored) in
    let reason : x.reason ≡ y.reason = cc in
    λ j. (
      λ h. elim ((x.resolves.exactly j).0 h) [
        | inl old ↦ (y.resolves.exactly j).1 (inl ((same j).0 old.0, λ q. old.1 (q ∙ sym is)))
        | inr new ↦ (y.resolves.exactly j).1 (inr (subst (λ (z : List Lit). Has z j) reason new.0, λ q. new.1 (q ∙ ap opposite (sym is))))
      ],
      λ h. elim ((y.resolves.exactly j).0 h) [
        | inl old ↦ (x.resolves.exactly j).1 (inl ((same j).1 old.0, λ q. old.1 (q ∙ is)))
        | inr new ↦ (x.resolves.exactly j).1 (inr (subst (λ (z : List Lit). Has z j) (sym reason) new.0, λ q. new.1 (q ∙ ap opposite is)))
      ],
    )

-- no step begins where one literal stands alone
no_step : (cs : List (List Lit)) (es : List Entry) (a b : List Lit) (l k : Lit) (m : ℕ) (next : List Lit) → SameSet a b → StandsAlone es b l → IsStep 1 cs es a k m next → ⊥
no_step cs es a b l k m next same alone s =
    let j = s.beside in
    let hl = (same l).1 alone.has in
    let top = s.latest.highest l hl in
    let hk = (same k).0 s.backward.resolves.stands in
    let hj = (same j.0).0 j.1 in
    let ne : j.0 ≢ l = λ q. (let kl : k ≢ l = λ r. j.2 (q ∙ sym r) in let less = alone.above k hk kl in omega arith) in
    let less = alone.above j.0 hj ne in
    omega (arith, j.3)

-- the clauses of the steps are one
step_number : (cs : List (List Lit)) (es : List Entry) (a b : List Lit) (k l : Lit) (m n : ℕ) (next next' : List Lit) → k ≡ l → IsStep 1 cs es a k m next → IsStep 1 cs es b l n next' → m ≡ n
step_number cs es a b k l m n next next' is s t =
    let x = s.backward in
    let y = t.backward in
    let p : Some x.place ≡ Some y.place = sym x.stands ∙ (ap (λ (j : Lit). place_of es j.atom) is ∙ y.stands) in
    let here : x.place ≡ y.place = cc in
    let e = same_entry es y.place x.entry y.entry (subst (λ (i : ℕ). slice_get es i ≡ Some x.entry) here x.at) y.at in
    let w : Why.Clause m ≡ Why.Clause n = sym x.why ∙ (ap (λ (d : Entry). d.why) e ∙ y.why) in
    cc

abbrev IsSame : List (Lit × ℕ) → List (Lit × ℕ) → List Lit → List Lit → Type 0
IsSame ss ts end end' = (ss ≡ ts) × SameSet end end'

learnt_is_one : (cs : List (List Lit)) (es : List Entry) (a b : List Lit) (ss ts : List (Lit × ℕ)) (end end' : List Lit) (l l' : Lit) → HasOneEntry es → Explains cs es → AllFalse es a → SameSet a b → Derives 1 cs es a ss end → StandsAlone es end l → Derives 1 cs es b ts end' → StandsAlone es end' l' → IsSame ss ts end end'
learnt_is_one cs es a b [] [] end end' l l' once ex falses same d alone d' alone' = (refl, λ k. (λ h. (d' k).0 ((same k).0 ((d k).1 h)), λ h. (d k).0 ((same k).1 ((d' k).1 h))))
learnt_is_one cs es a b [] (t ∷ ts) end end' l l' once ex falses same d alone (next, step, rest) alone' = absurd (no_step cs es b end l t.0 t.1 next (λ k. (λ h. (d k).0 ((same k).1 h), λ h. (same k).0 ((d k).1 h))) alone step)
learnt_is_one cs es a b (s ∷ ss) [] end end' l l' once ex falses same (next, step, rest) alone d' alone' = absurd (no_step cs es a end' l' s.0 s.1 next (λ k. (λ h. (d' k).0 ((same k).0 h), λ h. (same k).1 ((d' k).1 h))) alone' step)
learnt_is_one cs es a b (s ∷ ss) (t ∷ ts) end end' l l' once ex falses same (next, step, rest) alone (next', step', rest') alone' =
    let is = step_literal cs es a b s.0 t.0 s.1 t.1 next next' falses same step step' in
    let number = step_number cs es a b s.0 t.0 s.1 t.1 next next' is step step' in
    let more = learnt_is_one cs es next next' ss ts end end' l l' once ex (falses_step 1 cs es a s.0 s.1 next once ex falses step) (step_set cs es a b s.0 t.0 s.1 t.1 next next' same is step step') rest alone rest' alone' in
    (λ i. (is i, number i) ∷ more.0 i, more.1)

pub determined : (cs : List (List Lit)) (es : List Entry) (start : List Lit) (steps steps' : List (Lit × ℕ)) (end end' : List Lit) → IsExplained cs es → are_false es start ≡ true → EndsAlone cs es start steps end → EndsAlone cs es start steps' end' → (steps ≡ steps') × SameSet end end'
determined cs es start steps steps' end end' t falses one other = learnt_is_one cs es start start steps steps' end end' one.lit other.lit t.once t.explained (λ k has. false_member es start k falses has) (λ k. (λ h. h, λ h. h)) one.derived one.alone other.derived other.alone
