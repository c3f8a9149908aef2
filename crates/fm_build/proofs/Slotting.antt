-- Slots are filled one after another, and say where a class stands.
use Rattle.std.proofs.Common.{◌≡◌, ℕ, zero, suc, ◌+◌, ◌<◌, ◌≤◌, Bool, true, false, not, cond, List, [], ◌∷◌, ◌++◌, length, take, get_or, Some, None, refl, sym, subst, ap, ◌∙◌, arith}
use Rattle.std.specs.Prelude.{◌==◌, Option, slice_get}
use Rattle.std.specs.List.{position_or_len}
use Rattle.std.proofs.lemmas.List.{take_more}
use Rattle.fm_base.specs.declared.ids.TermId.{TermId}
use Rattle.fm_build.specs.Marks.{class_at}
use Rattle.fm_build.specs.Slots.{IsPlacedBy, or_slot, slot_from, slot_of, slots_from}

or_none : (a : Option (ℕ × ℕ)) → or_slot a None ≡ a
or_none None = refl
or_none (Some x) = refl

or_assoc : (a b c : Option (ℕ × ℕ)) → or_slot (or_slot a b) c ≡ or_slot a (or_slot b c)
or_assoc None b c = refl
or_assoc (Some x) b c = refl

slot_push : (class : List ℕ) (k s a : ℕ) (xs : List TermId) (r : TermId) → slot_from class k s a (xs ++ r ∷ []) ≡ or_slot (slot_from class k s a xs) (slot_of (class_at class r.0) k (s, a + length xs))
slot_push class k s a [] r = or_none (slot_of (class_at class r.0) k (s, a)) ∙ let e : a ≡ a + 0 = omega arith in ap (λ (n : ℕ). slot_of (class_at class r.0) k (s, n)) e
slot_push class k s a (x ∷ xs) r =
    let e : a + 1 + length xs ≡ a + suc (length xs) = omega arith in
    let rest : slot_from class k s (a + 1) (xs ++ r ∷ []) ≡ or_slot (slot_from class k s (a + 1) xs) (slot_of (class_at class r.0) k (s, a + suc (length xs))) =
    slot_push class k s (a + 1) xs r ∙ ap (λ (n : ℕ). or_slot (slot_from class k s (a + 1) xs) (slot_of (class_at class r.0) k (s, n))) e in
    ap (or_slot (slot_of (class_at class x.0) k (s, a))) rest ∙ sym (or_assoc (slot_of (class_at class x.0) k (s, a)) (slot_from class k s (a + 1) xs) (slot_of (class_at class r.0) k (s, a + suc (length xs))))

slots_push : (class : List ℕ) (k s : ℕ) (xs : List (List TermId)) (ts : List TermId) → slots_from class k s (xs ++ ts ∷ []) ≡ or_slot (slots_from class k s xs) (slot_from class k (s + length xs) 0 ts)
slots_push class k s [] ts = or_none (slot_from class k s 0 ts) ∙ let e : s ≡ s + 0 = omega arith in ap (λ (n : ℕ). slot_from class k n 0 ts) e
slots_push class k s (x ∷ xs) ts =
    let e : s + 1 + length xs ≡ s + suc (length xs) = omega arith in
    let rest : slots_from class k (s + 1) (xs ++ ts ∷ []) ≡ or_slot (slots_from class k (s + 1) xs) (slot_from class k (s + suc (length xs)) 0 ts) =
    slots_push class k (s + 1) xs ts ∙ ap (λ (n : ℕ). or_slot (slots_from class k (s + 1) xs) (slot_from class k n 0 ts)) e in
    ap (or_slot (slot_from class k s 0 x)) rest ∙ sym (or_assoc (slot_from class k s 0 x) (slots_from class k (s + 1) xs) (slot_from class k (s + suc (length xs)) 0 ts))

length_take : {X : Type 0} (xs : List X) (i : ℕ) → i ≤ length xs → length (take i xs) ≡ i
length_take xs zero le = refl
length_take [] (suc i) le = absurd (omega (arith, le))
length_take (x ∷ xs) (suc i) le = ap suc (length_take xs i (omega (arith, le)))

-- the slots behind the first representatives of a sort
pub slot_next : (class : List ℕ) (old cs new : Option (ℕ × ℕ)) (k s i : ℕ) (reps : List TermId) (d : TermId) → i < length reps → new ≡ or_slot cs (slot_of (class_at class (get_or reps i d).0) k (s, i)) → cs ≡ or_slot old (slot_from class k s 0 (take i reps)) → new ≡ or_slot old (slot_from class k s 0 (take (i + 1) reps))
slot_next class old cs new k s i reps d lt e h =
    let r = get_or reps i d in
    let n : 0 + length (take i reps) ≡ i = let t = length_take reps i (omega (arith, lt)) in omega (arith, t) in
    let more : slot_from class k s 0 (take (i + 1) reps) ≡ or_slot (slot_from class k s 0 (take i reps)) (slot_of (class_at class r.0) k (s, i)) =
    ap (slot_from class k s 0) (take_more reps i d lt) ∙ (slot_push class k s 0 (take i reps) r ∙ ap (λ (m : ℕ). or_slot (slot_from class k s 0 (take i reps)) (slot_of (class_at class r.0) k (s, m))) n) in
    e ∙ (ap (λ o. or_slot o (slot_of (class_at class r.0) k (s, i))) h ∙ (or_assoc old (slot_from class k s 0 (take i reps)) (slot_of (class_at class r.0) k (s, i)) ∙ ap (or_slot old) (sym more)))

pub slots_next : (class : List ℕ) (cs new : Option (ℕ × ℕ)) (k i : ℕ) (all : List (List TermId)) → i < length all → new ≡ or_slot cs (slot_from class k i 0 (get_or all i [])) → cs ≡ slots_from class k 0 (take i all) → new ≡ slots_from class k 0 (take (i + 1) all)
slots_next class cs new k i all lt e h =
    let ts = get_or all i [] in
    let n : 0 + length (take i all) ≡ i = let t = length_take all i (omega (arith, lt)) in omega (arith, t) in
    let more : slots_from class k 0 (take (i + 1) all) ≡ or_slot (slots_from class k 0 (take i all)) (slot_from class k i 0 ts) =
    ap (slots_from class k 0) (take_more all i [] lt) ∙ (slots_push class k 0 (take i all) ts ∙ ap (λ (m : ℕ). or_slot (slots_from class k 0 (take i all)) (slot_from class k m 0 ts)) n) in
    e ∙ (ap (λ o. or_slot o (slot_from class k i 0 ts)) h ∙ sym more)

some_one : (x y : ℕ × ℕ) → Some x ≡ Some y → x ≡ y
some_one x y e = cc e

-- what the slots say of the place of a class among representatives of a sort
module _ (class : List ℕ) (k : ℕ) where
  abbrev of_class : TermId → Bool
  of_class r = class_at class r.0 == k

  abbrev place_of : List TermId → ℕ
  place_of ts = position_or_len of_class ts

  place_first : (r : TermId) (ts : List TermId) (b : Bool) → of_class r ≡ b → place_of (r ∷ ts) ≡ cond b 0 (1 + place_of ts)
  place_first r ts true e = ap (λ (b : Bool). cond (not b) (1 + place_of ts) 0) e
  place_first r ts false e = ap (λ (b : Bool). cond (not b) (1 + place_of ts) 0) e

  none_first : (r : TermId) (ts : List TermId) (s a : ℕ) (b : Bool) → of_class r ≡ b → or_slot (cond b (Some (s, a)) None) (slot_from class k s (a + 1) ts) ≡ None → (slot_from class k s (a + 1) ts ≡ None → place_of ts ≡ length ts) → place_of (r ∷ ts) ≡ suc (length ts)
  none_first r ts s a true e h rest = absurd cc
  none_first r ts s a false e h rest = let p = rest h in place_first r ts false e ∙ omega (arith, p)

  none_placed : (ts : List TermId) (s a : ℕ) → slot_from class k s a ts ≡ None → place_of ts ≡ length ts
  none_placed [] s a h = refl
  none_placed (r ∷ ts) s a h = none_first r ts s a (of_class r) refl h (none_placed ts s (a + 1))

  some_first : (r : TermId) (ts : List TermId) (s a t p : ℕ) (b : Bool) → of_class r ≡ b → or_slot (cond b (Some (s, a)) None) (slot_from class k s (a + 1) ts) ≡ Some (t, p) → (slot_from class k s (a + 1) ts ≡ Some (t, p) → (t ≡ s) × (p ≡ a + 1 + place_of ts)) → (t ≡ s) × (p ≡ a + place_of (r ∷ ts))
  some_first r ts s a t p true e h rest =
      let both = some_one (s, a) (t, p) h in
      let q : s ≡ t = ap (λ (x : ℕ × ℕ). x.0) both in
      let n : a ≡ p = ap (λ (x : ℕ × ℕ). x.1) both in
      (sym q, let z = place_first r ts true e in omega (arith, n, z))
  some_first r ts s a t p false e h rest = let w = rest h in (w.0, let z = place_first r ts false e in let n = w.1 in omega (arith, n, z))

  some_placed : (ts : List TermId) (s a t p : ℕ) → slot_from class k s a ts ≡ Some (t, p) → (t ≡ s) × (p ≡ a + place_of ts)
  some_placed [] s a t p h = absurd cc
  some_placed (r ∷ ts) s a t p h = some_first r ts s a t p (of_class r) refl h (some_placed ts s (a + 1) t p)

  or_parts : (a b : Option (ℕ × ℕ)) → or_slot a b ≡ None → (a ≡ None) × (b ≡ None)
  or_parts None b h = (refl, h)
  or_parts (Some x) b h = absurd cc

  pub none_of_class : (all : List (List TermId)) (o s : ℕ) (ts : List TermId) → slots_from class k o all ≡ None → slice_get all s ≡ Some ts → place_of ts ≡ length ts
  none_of_class [] o s ts h e = absurd cc
  none_of_class (x ∷ all) o zero ts h e =
      let p = or_parts (slot_from class k o 0 x) (slots_from class k (o + 1) all) h in
      let same : x ≡ ts = cc e in
      subst (λ (us : List TermId). place_of us ≡ length us) same (none_placed x o 0 p.0)
  none_of_class (x ∷ all) o (suc s) ts h e = none_of_class all (o + 1) s ts (or_parts (slot_from class k o 0 x) (slots_from class k (o + 1) all) h).1 e

  -- a slot from one sort on names a later one
  later : (all : List (List TermId)) (o t p : ℕ) → slots_from class k o all ≡ Some (t, p) → o ≤ t
  later [] o t p h = absurd cc
  later (x ∷ all) o t p h = walk (slot_from class k o 0 x) refl h (later all (o + 1) t p)
    where
      walk : (m : Option (ℕ × ℕ)) → slot_from class k o 0 x ≡ m → or_slot m (slots_from class k (o + 1) all) ≡ Some (t, p) → (slots_from class k (o + 1) all ≡ Some (t, p) → o + 1 ≤ t) → o ≤ t
      walk None e h rest = let le = rest h in omega (arith, le)
      walk (Some y) e h rest = let w = some_placed x o 0 t p (e ∙ h) in let q = w.0 in omega (arith, q)

  in_first : (x ts : List TermId) (all : List (List TermId)) (o p : ℕ) (m : Option (ℕ × ℕ)) → slot_from class k o 0 x ≡ m → or_slot m (slots_from class k (o + 1) all) ≡ Some (o, p) → x ≡ ts → p ≡ place_of ts
  in_first x ts all o p None e h same = let le = later all (o + 1) o p h in absurd (omega (arith, le))
  in_first x ts all o p (Some y) e h same =
      let w = some_placed x o 0 o p (e ∙ h) in
      let n : p ≡ place_of x = (let q = w.1 in omega (arith, q)) in
      subst (λ (us : List TermId). p ≡ place_of us) same n

  in_later : (x : List TermId) (all : List (List TermId)) (o t p : ℕ) (m : Option (ℕ × ℕ)) → slot_from class k o 0 x ≡ m → o + 1 ≤ t → or_slot m (slots_from class k (o + 1) all) ≡ Some (t, p) → slots_from class k (o + 1) all ≡ Some (t, p)
  in_later x all o t p None e le h = h
  in_later x all o t p (Some y) e le h = let w = some_placed x o 0 t p (e ∙ h) in let q = w.0 in absurd (omega (arith, q, le))

  pub place_of_class : (all : List (List TermId)) (o s p : ℕ) (ts : List TermId) → slots_from class k o all ≡ Some (o + s, p) → slice_get all s ≡ Some ts → p ≡ place_of ts
  place_of_class [] o s p ts h e = absurd cc
  place_of_class (x ∷ all) o zero p ts h e =
      let n : o + 0 ≡ o = omega arith in
      in_first x ts all o p (slot_from class k o 0 x) refl (subst (λ (j : ℕ). slots_from class k o (x ∷ all) ≡ Some (j, p)) n h) (cc e)
  place_of_class (x ∷ all) o (suc s) p ts h e =
      let n : o + suc s ≡ o + 1 + s = omega arith in
      place_of_class all (o + 1) s p ts (in_later x all o (o + 1 + s) p (slot_from class k o 0 x) refl (omega arith) (subst (λ (j : ℕ). slots_from class k o (x ∷ all) ≡ Some (j, p)) n h)) e

-- so the slot of a term's class says where it stands among the representatives of a sort
pub placed_by : (class : List ℕ) (all : List (List TermId)) (ts : List TermId) (n s : ℕ) (slot : Option (ℕ × ℕ)) → slot ≡ slots_from class (class_at class n) 0 all → slice_get all s ≡ Some ts → IsPlacedBy class n slot s ts
placed_by class all ts n s None e at = sym (none_of_class class (class_at class n) all 0 s ts (sym e) at)
placed_by class all ts n s (Some slot) e at = λ same.
    let zero_plus : slot.0 ≡ 0 + s = omega (arith, same) in
    let there : slots_from class (class_at class n) 0 all ≡ Some (0 + s, slot.1) = sym e ∙ λ i. Some (zero_plus i, slot.1) in
    place_of_class class (class_at class n) all 0 s slot.1 ts there at
