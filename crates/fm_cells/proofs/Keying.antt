-- Pairs and their keys: what is added stays, and nothing else becomes a key.
use Rattle.std.proofs.Common.{◌≡◌, ℕ, zero, suc, ◌+◌, ◌-◌, ◌<◌, ◌≤◌, ◌||◌, ◌⊎◌, Bool, true, false, cond, List, [], ◌∷◌, ◌++◌, length, take, drop, Option, Some, None, inl, inr, refl, sym, subst, ap, ◌∙◌, arith, length-append, get_or, get_or-set_same, get_or-set_other}
use Rattle.std.specs.Prelude.{◌==◌, ◌&&◌, nat_lt, slice_get, slice_set}
use Rattle.std.specs.List.{Contains, list_any}
use Rattle.std.proofs.lemmas.Bool.{cases_Bool, cases_lt, eqb-true, false_from_ne_true, false≢true, lt-ltb, ltb-true, or_cases, or_left, or_right}
use Rattle.std.proofs.lemmas.Bool.Decides.{eqb_tells}
use Rattle.std.proofs.lemmas.List.{get_or_past, take_more}
use Rattle.std.proofs.lemmas.List.Elements.{All-from_get_or, All-get_or, All-push, All-weaker, Contains-append_left, Contains-push, Contains-push_cases}
use Rattle.indexmap.specs.IndexSet.{insert_key}
use Rattle.fm_base.specs.declared.ids.TermId.{TermId}
use Rattle.fm_cells.specs.Apart.{AreEnteredAt, AreEnteredBehind, AreKeys, AreSides, AreSound, HasPopped, HasRoots, HasSides, IsEntered, IsKeyOr, IsLonger, KeepsCuts, KeepsPlaces, KeepsSound, StaysJoined, is_key, left_node, places_at, popped_from, right_node}
use Rattle.fm_cells.specs.Logs.{WereWritten}
use Rattle.fm_cells.specs.Rings.{own_or}
use Rattle.fm_cells.specs.contracts.apart.BetweenPartialEq.TheImpl.{eq-value}
use Rattle.fm_cells.specs.declared.apart.Apart.{Apart}
use Rattle.fm_cells.specs.declared.apart.Between.{Between}

and_both : (a b : Bool) → (a && b) ≡ true → (a ≡ true) × (b ≡ true)
and_both true b h = (refl, h)
and_both false b h = absurd (false≢true h)

-- keys

pub key_before : (ks ps : List Between) (c d : ℕ) → is_key ks c d ≡ true → is_key (ks ++ ps) c d ≡ true
key_before [] ps c d h = absurd (false≢true h)
key_before (k ∷ ks) ps c d h =
    let here = (c == k.left) && (d == k.right) in
    elim (or_cases here (is_key ks c d) h) [ inl a ↦ or_left here (is_key (ks ++ ps) c d) a | inr b ↦ or_right here (is_key (ks ++ ps) c d) (key_before ks ps c d b) ]

pub key_longer : (ks new : List Between) (c d : ℕ) → IsLonger ks new → is_key ks c d ≡ true → is_key new c d ≡ true
key_longer ks new c d l h = subst (λ (xs : List Between). is_key xs c d ≡ true) (sym l.is) (key_before ks l.more c d h)

key_last : (ks : List Between) (k : Between) (c d : ℕ) → is_key (ks ++ k ∷ []) c d ≡ true → (is_key ks c d ≡ true) ⊎ ((c ≡ k.left) × (d ≡ k.right))
key_last [] k c d h =
    elim (or_cases ((c == k.left) && (d == k.right)) false h) [
      | inl a ↦ let b = and_both (c == k.left) (d == k.right) a in inr (eqb-true c k.left b.0, eqb-true d k.right b.1)
      | inr b ↦ absurd (false≢true b)
    ]
key_last (x ∷ ks) k c d h =
    let here = (c == x.left) && (d == x.right) in
    elim (or_cases here (is_key (ks ++ k ∷ []) c d) h) [
      | inl a ↦ inl (or_left here (is_key ks c d) a)
      | inr b ↦ elim (key_last ks k c d b) [ inl o ↦ inl (or_right here (is_key ks c d) o) | inr n ↦ inr n ]
    ]

key_inserted : (ks : List Between) (k : Between) (b : Bool) (c d : ℕ) → is_key (cond b ks (ks ++ k ∷ [])) c d ≡ true → (is_key ks c d ≡ true) ⊎ ((c ≡ k.left) × (d ≡ k.right))
key_inserted ks k true c d h = inl h
key_inserted ks k false c d h = key_last ks k c d h

pub key_or : (ks new : List Between) (k : Between) → new ≡ insert_key eq-value.it ks k → (c d : ℕ) → is_key new c d ≡ true → (is_key ks c d ≡ true) ⊎ ((c ≡ k.left) × (d ≡ k.right))
key_or ks new k e c d h = key_inserted ks k (list_any (eq-value.it k) ks) c d (subst (λ (xs : List Between). is_key xs c d ≡ true) e h)

pub longer_none : (ks : List Between) → IsLonger ks ks
longer_none ks = record { more = []; is = sym (append_nil ks) }
  where
    append_nil : (xs : List Between) → xs ++ [] ≡ xs
    append_nil [] = refl
    append_nil (x ∷ xs) = ap (λ ys. x ∷ ys) (append_nil xs)

pub longer_more : (a b c : List Between) → IsLonger a b → IsLonger b c → IsLonger a c
longer_more a b c p q = record { more = p.more ++ q.more; is = q.is ∙ (ap (λ xs. xs ++ q.more) p.is ∙ append_over a p.more q.more) }
  where
    append_over : (xs ys zs : List Between) → (xs ++ ys) ++ zs ≡ xs ++ (ys ++ zs)
    append_over [] ys zs = refl
    append_over (x ∷ xs) ys zs = ap (λ ws. x ∷ ws) (append_over xs ys zs)

pub entered_longer : (class : ℕ → ℕ) (ks new : List Between) (j k : Bool) (p : TermId × TermId) → IsLonger ks new → (j ≡ true → k ≡ true) → IsEntered class ks j p → IsEntered class new k p
entered_longer class ks new j k p l up e = record { key = key_longer ks new (class (left_node p)) (class (right_node p)) l e.key; joins = λ same. up (e.joins same) }

-- a pair more

module _ (class : ℕ → ℕ) (pairs : List (TermId × TermId)) where
  pub sound_none : (ks new : List Between) → new ≡ ks → KeepsSound class pairs ks new
  sound_none ks new e roots h c d is = h c d (subst (λ (xs : List Between). is_key xs c d ≡ true) e is)

  pub sound_more : (a b c : List Between) → KeepsSound class pairs a b → KeepsSound class pairs b c → KeepsSound class pairs a c
  sound_more a b c p q roots h = q roots (p roots h)

  pub sound_pair : (ks new : List Between) (p : TermId × TermId) → Contains pairs p → ((c d : ℕ) → is_key new c d ≡ true → IsKeyOr class ks p c d) → KeepsSound class pairs ks new
  sound_pair ks new p there or roots h c d is =
      elim (or c d is) [
        | inl old ↦ h c d old
        | inr here ↦ record { pair = p; there = there; left = ap class here.0 ∙ roots (left_node p); right = ap class here.1 ∙ roots (right_node p) }
      ]

  pub entered_nothing : (ks : List Between) (j : Bool) (places : List ℕ) → length places ≡ 0 → AreEnteredAt class pairs ks j places
  entered_nothing ks j places none i h p at = absurd (omega (arith, h.1, none))

  pub entered_more : (ks new : List Between) (j k : Bool) (places : List ℕ) (i place : ℕ) → i < length places → place ≡ get_or places i 0 → IsLonger ks new → AreEnteredAt class pairs ks j (take i places) → AreEnteredAt class pairs new k (place ∷ []) → AreEnteredAt class pairs new (j || k) (take (i + 1) places)
  entered_more ks new j k places i place lt is l old here n h p at =
      let m : Contains (take i places ++ place ∷ []) n = subst (λ (xs : List ℕ). Contains xs n) (take_more places i 0 lt ∙ ap (λ x. take i places ++ x ∷ []) (sym is)) h in
      elim (Contains-push_cases (take i places) place n m) [
        | inl front ↦ entered_longer class ks new j (j || k) p l (or_left j k) (old n front p at)
        | inr last ↦ entered_longer class new new k (j || k) p (longer_none new) (or_right j k) (here n (0, omega arith, last) p at)
      ]

  pub entered_same : (ks new : List Between) (j k : Bool) (places : List ℕ) → IsLonger ks new → (j ≡ true → k ≡ true) → AreEnteredAt class pairs ks j places → AreEnteredAt class pairs new k places
  entered_same ks new j k places l up h n there p at = entered_longer class ks new j k p l up (h n there p at)

pub get_any : {X : Type 0} → (xs : List X) (k : ℕ) (d e : X) → k < length xs → get_or xs k d ≡ get_or xs k e
get_any [] k d e lt = absurd (omega (arith, lt))
get_any (x ∷ xs) zero d e lt = refl
get_any (x ∷ xs) (suc k) d e lt = get_any xs k d e (omega (arith, lt))

-- places

pub places_kept : (bound : ℕ) (us : List (List ℕ)) (node : ℕ) (list : List ℕ) → node < length us → ((i : ℕ) → i < bound → Contains (places_at us node) i → Contains list i) → KeepsPlaces bound us (slice_set us node list)
places_kept bound us node list lt keeps x i low h =
    elim (eqb_tells x node) [
      | inl same ↦ subst (λ y. Contains (places_at (slice_set us node list) y) i) (sym same.1) (subst (λ xs. Contains xs i) (sym (get_or-set_same us node list [] lt)) (keeps i low (subst (λ y. Contains (places_at us y) i) same.1 h)))
      | inr other ↦ subst (λ xs. Contains xs i) (sym (get_or-set_other us node x list [] other.1)) h
    ]

pub places_same : (us vs : List (List ℕ)) (x i : ℕ) → ((y : ℕ) → places_at vs y ≡ places_at us y) → Contains (places_at us x) i → Contains (places_at vs x) i
places_same us vs x i e h = subst (λ xs. Contains xs i) (sym (e x)) h

-- a list more has no place
pub empty_push : (us : List (List ℕ)) (x : ℕ) → places_at (us ++ [] ∷ []) x ≡ places_at us x
empty_push [] zero = refl
empty_push [] (suc x) = refl
empty_push (u ∷ us) zero = refl
empty_push (u ∷ us) (suc x) = empty_push us x

pub got : {X : Type 0} → (xs : List X) (k : ℕ) (d v : X) → slice_get xs k ≡ Some v → v ≡ get_or xs k d
got {X} [] k d v e = absurd (no_none e)
  where
    no_none : {X : Type 0} → {v : X} → None ≡ Some v → ⊥
    no_none h = cc
got {X} (x ∷ xs) zero d v e = some_same e
  where
    some_same : {X : Type 0} → {a b : X} → Some a ≡ Some b → b ≡ a
    some_same h = cc
got (x ∷ xs) (suc k) d v e = got xs k d v e

push_get : {X : Type 0} → (xs : List X) (y q : X) (i : ℕ) → slice_get (xs ++ y ∷ []) i ≡ Some q → (slice_get xs i ≡ Some q) ⊎ ((i ≡ length xs) × (y ≡ q))
push_get {X} [] y q zero e = inr (refl, some_is e)
  where
    some_is : {X : Type 0} → {a b : X} → Some a ≡ Some b → a ≡ b
    some_is h = cc
push_get [] y q (suc i) e = inl e
push_get (x ∷ xs) y q zero e = inl e
push_get (x ∷ xs) y q (suc i) e = elim (push_get xs y q i e) [ inl o ↦ inl o | inr n ↦ inr (ap suc n.0, n.1) ]

sides_at : (us vs : List (List ℕ)) (i : ℕ) (p : TermId × TermId) → ((x n : ℕ) → Contains (places_at us x) n → Contains (places_at vs x) n) → HasSides us i p → HasSides vs i p
sides_at us vs i p more h = (more (left_node p) i h.0, more (right_node p) i h.1)

sound_wider : (class : ℕ → ℕ) (ps qs : List (TermId × TermId)) (ks : List Between) → AreSound class ps ks → AreSound class (ps ++ qs) ks
sound_wider class ps qs ks h c d is = let r = h c d is in record { pair = r.pair; there = Contains-append_left ps qs r.pair r.there; left = r.left; right = r.right }

-- a pair is put in
module _ (class : ℕ → ℕ) (roots : HasRoots class) (ps : List (TermId × TermId)) (us vs : List (List ℕ)) (ks ls : List Between) (j k : Bool) (p : TermId × TermId) (more : (x n : ℕ) → Contains (places_at us x) n → Contains (places_at vs x) n) (sides : HasSides vs (length ps) p) (longer : IsLonger ks ls) (up : j ≡ true → k ≡ true) (here : IsEntered class ls k p) (or : (c d : ℕ) → is_key ls c d ≡ true → IsKeyOr class ks p c d) (h : AreKeys class ps us ks j) where
  placed_noted : AreSides (ps ++ p ∷ []) vs
  placed_noted i q at =
      elim (push_get ps p q i at) [
        | inl old ↦ sides_at us vs i q more (h.placed i q old)
        | inr new ↦ subst (λ (n : ℕ). HasSides vs n q) (sym new.0) (subst (HasSides vs (length ps)) new.1 sides)
      ]

  pub keys_noted : AreKeys class (ps ++ p ∷ []) vs ls k
  keys_noted = record {
    placed = placed_noted;
    entered = All-push (IsEntered class ls k) ps p (All-weaker (IsEntered class ks j) (IsEntered class ls k) (λ q e. entered_longer class ks ls j k q longer up e) ps h.entered) here;
    sound = sound_pair class (ps ++ p ∷ []) ks ls p (Contains-push ps p) or roots (sound_wider class ps (p ∷ []) ks h.sound);
  }

no_pair : TermId × TermId
no_pair = (record { 0 = 0 }, record { 0 = 0 })

-- what was written of the classes is followed
module _ (before cells : List ℕ) (log : List (ℕ × ℕ)) (written : WereWritten log before cells) (joins : StaysJoined (own_or before) (own_or cells)) (roots : HasRoots (own_or cells)) (ps : List (TermId × TermId)) (us : List (List ℕ)) (ks ls : List Between) (j k : Bool) (longer : IsLonger ks ls) (sound : KeepsSound (own_or cells) ps ks ls) (behind : AreEnteredBehind (own_or cells) ps us ls k log) (h : AreKeys (own_or before) ps us ks j) where
  late : (p : TermId × TermId) → IsEntered (own_or cells) ls k p → IsEntered (own_or cells) ls (j || k) p
  late p e = record { key = e.key; joins = λ same. or_right j k (e.joins same) }

  early : (p : TermId × TermId) → own_or before (left_node p) ≡ own_or cells (left_node p) → own_or before (right_node p) ≡ own_or cells (right_node p) → IsEntered (own_or before) ks j p → IsEntered (own_or cells) ls (j || k) p
  early p l r e = record {
    key = key_longer ks ls (own_or cells (left_node p)) (own_or cells (right_node p)) longer ((λ i. is_key ks (sym l i) (sym r i)) ∙ e.key);
    joins = λ same. or_left j k (e.joins (l ∙ (same ∙ sym r)));
  }

  one : (i : ℕ) (p : TermId × TermId) → slice_get ps i ≡ Some p → IsEntered (own_or before) ks j p → IsEntered (own_or cells) ls (j || k) p
  one i p at e =
      let s = h.placed i p at in
      elim (written (left_node p) (left_node p)) [
        | inr there ↦ late p (behind (left_node p) (own_or before (left_node p)) there i s.0 p at)
        | inl l ↦ elim (written (right_node p) (right_node p)) [
          | inr there ↦ late p (behind (right_node p) (own_or before (right_node p)) there i s.1 p at)
          | inl r ↦ early p l r e
        ]
      ]

  at_place : (i : ℕ) → i < length ps → IsEntered (own_or cells) ls (j || k) (get_or ps i no_pair)
  at_place i lt = one i (get_or ps i no_pair) (read ps i no_pair lt) (All-get_or (IsEntered (own_or before) ks j) ps i no_pair lt h.entered)
    where
      read : {X : Type 0} → (xs : List X) (i : ℕ) (d : X) → i < length xs → slice_get xs i ≡ Some (get_or xs i d)
      read [] i d lt = absurd (omega (arith, lt))
      read (x ∷ xs) zero d lt = refl
      read (x ∷ xs) (suc i) d lt = read xs i d (omega (arith, lt))

  pub keys_followed : AreKeys (own_or cells) ps us ls (j || k)
  keys_followed = record {
    placed = h.placed;
    entered = All-from_get_or (IsEntered (own_or cells) ls (j || k)) ps no_pair at_place;
    sound = sound roots (λ c d is. let r = h.sound c d is in record { pair = r.pair; there = r.there; left = joins c (left_node r.pair) r.left; right = joins d (right_node r.pair) r.right });
  }

-- going back

below_take : {X : Type 0} → (n : ℕ) (xs : List X) (i : ℕ) (x : X) → slice_get (take n xs) i ≡ Some x → i < n
below_take {X} zero xs i x e = absurd (no_none e)
  where
    no_none : {X : Type 0} → {v : X} → None ≡ Some v → ⊥
    no_none h = cc
below_take {X} (suc n) [] i x e = absurd (no_none e)
  where
    no_none : {X : Type 0} → {v : X} → None ≡ Some v → ⊥
    no_none h = cc
below_take (suc n) (y ∷ xs) zero x e = omega arith
below_take (suc n) (y ∷ xs) (suc i) x e = let b = below_take n xs i x e in omega (arith, b)

pub keys_cut : (class : ℕ → ℕ) (n : ℕ) (ps : List (TermId × TermId)) (us vs : List (List ℕ)) (ks : List Between) (j : Bool) → KeepsPlaces n us vs → AreKeys class (take n ps) us ks j → AreKeys class (take n ps) vs ks j
keys_cut class n ps us vs ks j kept h = record {
  placed = λ i p at. let b = below_take n ps i p at in let s = h.placed i p at in (kept (left_node p) i b s.0, kept (right_node p) i b s.1);
  entered = h.entered;
  sound = h.sound;
}

pub take_fewer : {X : Type 0} → (n m : ℕ) (xs : List X) → n ≤ m → take n (take m xs) ≡ take n xs
take_fewer zero m xs le = refl
take_fewer (suc n) zero xs le = absurd (omega (arith, le))
take_fewer (suc n) (suc m) [] le = refl
take_fewer (suc n) (suc m) (x ∷ xs) le = ap (λ ys. x ∷ ys) (take_fewer n m xs (omega (arith, le)))

pub take_all : {X : Type 0} → (n : ℕ) (xs : List X) → length xs ≤ n → take n xs ≡ xs
take_all zero [] le = refl
take_all zero (x ∷ xs) le = absurd (omega (arith, le))
take_all (suc n) [] le = refl
take_all (suc n) (x ∷ xs) le = ap (λ ys. x ∷ ys) (take_all n xs (omega (arith, le)))

pub take_length : {X : Type 0} → (n m : ℕ) (xs : List X) → n ≤ m → n ≤ length xs → n ≤ length (take m xs)
take_length zero m xs le lt = omega arith
take_length (suc n) zero xs le lt = absurd (omega (arith, le))
take_length (suc n) (suc m) [] le lt = absurd (omega (arith, lt))
take_length (suc n) (suc m) (x ∷ xs) le lt = let b = take_length n m xs (omega (arith, le)) (omega (arith, lt)) in omega (arith, b)

-- the pairs of the node that an entry of the log names
abbrev pub IsEnteredMove : (ℕ → ℕ) → List (TermId × TermId) → List (List ℕ) → List Between → Bool → List (ℕ × ℕ) → ℕ → Type 0
IsEnteredMove class pairs sides keys joined log place = (e : ℕ × ℕ) → slice_get log place ≡ Some e → AreEnteredAt class pairs keys joined (places_at sides e.0)

some_same : {X : Type 0} → (o : Option X) (a b : X) → o ≡ Some a → o ≡ Some b → a ≡ b
some_same o a b p q = cc

module _ (class : ℕ → ℕ) (pairs : List (TermId × TermId)) (sides : List (List ℕ)) (ks ls : List Between) (j k : Bool) (log : List (ℕ × ℕ)) (longer : IsLonger ks ls) where
  pub moves_later : (place : ℕ) → IsEnteredMove class pairs sides ks j log place → IsEnteredMove class pairs sides ls (j || k) log place
  moves_later place h e at = entered_same class pairs ks ls j (j || k) (places_at sides e.0) longer (or_left j k) (h e at)

  pub move_entered : (place : ℕ) (e : ℕ × ℕ) → slice_get log place ≡ Some e → AreEnteredAt class pairs ls k (places_at sides e.0) → IsEnteredMove class pairs sides ls (j || k) log place
  move_entered place e at h f is = subst (λ (g : ℕ × ℕ). AreEnteredAt class pairs ls (j || k) (places_at sides g.0)) (some_same (slice_get log place) e f at is) (entered_same class pairs ls ls k (j || k) (places_at sides e.0) (longer_none ls) (or_right j k) h)

pub places_set : (us : List (List ℕ)) (node : ℕ) (list : List ℕ) → node < length us → ((i : ℕ) → Contains (places_at us node) i → Contains list i) → (x i : ℕ) → Contains (places_at us x) i → Contains (places_at (slice_set us node list) x) i
places_set us node list lt keeps x i h = places_kept (suc i) us node list lt (λ n low k. keeps n k) x i (omega arith) h

pub set_there : (us : List (List ℕ)) (node : ℕ) (list : List ℕ) (place : ℕ) → node < length us → Contains list place → Contains (places_at (slice_set us node list) node) place
set_there us node list place lt h = subst (λ xs. Contains xs place) (sym (get_or-set_same us node list [] lt)) h

pub places_fewer : (n m : ℕ) (us vs : List (List ℕ)) → n ≤ m → KeepsPlaces m us vs → KeepsPlaces n us vs
places_fewer n m us vs le h x i lt there = h x i (omega (arith, lt, le)) there

pub taken_front : {X : Type 0} → (n : ℕ) (xs ys : List X) → n ≤ length xs → take n (xs ++ ys) ≡ take n xs
taken_front zero xs ys le = refl
taken_front (suc n) [] ys le = absurd (omega (arith, le))
taken_front (suc n) (x ∷ xs) ys le = ap (λ zs. x ∷ zs) (taken_front n xs ys (omega (arith, le)))

-- pairs, places and keys are added
pub cuts_kept : (a b : Apart) (more : List (TermId × TermId)) → b.pairs.items ≡ a.pairs.items ++ more → ((x n : ℕ) → Contains (places_at a.sides.items x) n → Contains (places_at b.sides.items x) n) → IsLonger a.keys.keys b.keys.keys → KeepsCuts a b
cuts_kept a b more pairs sides keys class c at =
    let front : take c.pairs b.pairs.items ≡ take c.pairs a.pairs.items = ap (take c.pairs) pairs ∙ taken_front c.pairs a.pairs.items more at.pairs in
    let first : take c.keys b.keys.keys ≡ take c.keys a.keys.keys = ap (take c.keys) keys.is ∙ taken_front c.keys a.keys.keys keys.more at.keys in
    record {
      pairs = omega (arith, at.pairs, ap length pairs, length-append a.pairs.items more);
      keys = omega (arith, at.keys, ap length keys.is, length-append a.keys.keys keys.more);
      right = λ whole.
          subst (λ (ks : List Between). AreKeys class (take c.pairs b.pairs.items) b.sides.items ks c.joined) (sym first)
          (subst (λ (ps : List (TermId × TermId)). AreKeys class ps b.sides.items (take c.keys a.keys.keys) c.joined) (sym front) (keys_cut class c.pairs a.pairs.items a.sides.items b.sides.items (take c.keys a.keys.keys) c.joined (λ x i lt h. sides x i h) (at.right whole)));
    }

-- one place more of those from `from` on
pub range_more : (P : ℕ → Type 0) (from i : ℕ) → ((k : ℕ) → from ≤ k → k < i → P k) → P i → (k : ℕ) → from ≤ k → k < i + 1 → P k
range_more P from i h here k le lt = elim (cases_lt k i) [ inl l ↦ h k le l | inr past ↦ let same : i ≡ k = omega (arith, past, lt) in subst P same here ]

-- what is behind a place of a list stands in the list
pub behind : {X : Type 0} → (xs : List X) (from : ℕ) (x : X) → Contains (drop from xs) x → (k : ℕ) × ((from ≤ k) × ((k < length xs) × (slice_get xs k ≡ Some x)))
behind xs zero x h = (h.0, (omega arith, (h.1, get_is xs h.0 x h.1 h.2)))
  where
    get_is : {X : Type 0} → (xs : List X) (k : ℕ) (x : X) → k < length xs → get_or xs k x ≡ x → slice_get xs k ≡ Some x
    get_is [] k x lt e = absurd (omega (arith, lt))
    get_is {X} (y ∷ xs) zero x lt e = ap (λ (z : X). Some z) e
    get_is (y ∷ xs) (suc k) x lt e = get_is xs k x (omega (arith, lt)) e
behind [] (suc from) x h = absurd (omega (arith, h.1))
behind (y ∷ xs) (suc from) x h = let r = behind xs from x h in (suc r.0, (omega (arith, r.1.0), (omega (arith, r.1.1.0), r.1.1.1)))

-- the last place goes, where it isn't below a bound

contains_cases : (x : ℕ) (xs : List ℕ) (i : ℕ) → Contains (x ∷ xs) i → (i ≡ x) ⊎ Contains xs i
contains_cases x xs i h = at h.0 h.1 h.2
  where
    at : (k : ℕ) → k < length (x ∷ xs) → get_or (x ∷ xs) k i ≡ i → (i ≡ x) ⊎ Contains xs i
    at zero lt e = inl (sym e)
    at (suc k) lt e = inr (k, omega (arith, lt), e)

contains_first : (x : ℕ) (xs : List ℕ) (i : ℕ) → i ≡ x → Contains (x ∷ xs) i
contains_first x xs i e = (0, omega arith, sym e)

contains_rest : (x : ℕ) (xs : List ℕ) (i : ℕ) → Contains xs i → Contains (x ∷ xs) i
contains_rest x xs i h = (suc h.0, omega (arith, h.1), h.2)

under : (b : Bool) (x : ℕ) (ys zs : List ℕ) → x ∷ cond b ys zs ≡ cond b (x ∷ ys) (x ∷ zs)
under true x ys zs = refl
under false x ys zs = refl

pub popped_end : (bound : ℕ) (xs : List ℕ) (v : ℕ) → popped_from bound (xs ++ v ∷ []) ≡ cond (nat_lt v bound) (xs ++ v ∷ []) xs
popped_end bound [] v = refl
popped_end bound (x ∷ []) v = ap (λ ys. x ∷ ys) (popped_end bound [] v) ∙ under (nat_lt v bound) x (v ∷ []) []
popped_end bound (x ∷ y ∷ ys) v = ap (λ zs. x ∷ zs) (popped_end bound (y ∷ ys) v) ∙ under (nat_lt v bound) x (y ∷ ys ++ v ∷ []) (y ∷ ys)

-- by the last place itself
last_split : (xs : List ℕ) (n v : ℕ) → length xs ≡ suc n → v ≡ get_or xs n v → xs ≡ take n xs ++ v ∷ []
last_split [] n v long e = absurd (omega (arith, long))
last_split (x ∷ []) zero v long e = ap (λ y. y ∷ []) (sym e)
last_split (x ∷ []) (suc n) v long e = absurd (omega (arith, long))
last_split (x ∷ y ∷ ys) zero v long e = absurd (omega (arith, long))
last_split (x ∷ y ∷ ys) (suc n) v long e = ap (λ zs. x ∷ zs) (last_split (y ∷ ys) n v (omega (arith, long)) e)

pub popped_high : (bound : ℕ) (xs : List ℕ) (n v : ℕ) → length xs ≡ suc n → v ≡ get_or xs n v → bound ≤ v → take n xs ≡ popped_from bound xs
popped_high bound xs n v long e high =
    let front = take n xs in
    let off = false_from_ne_true (nat_lt v bound) (λ t. let l = ltb-true v bound t in omega (arith, l, high)) in
    sym (ap (popped_from bound) (last_split xs n v long e) ∙ (popped_end bound front v ∙ ap (λ b. cond b (front ++ v ∷ []) front) off))

pub popped_low : (bound : ℕ) (xs : List ℕ) (n v : ℕ) → length xs ≡ suc n → v ≡ get_or xs n v → v < bound → xs ≡ popped_from bound xs
popped_low bound xs n v long e low =
    let front = take n xs in
    let split = last_split xs n v long e in
    sym (ap (popped_from bound) split ∙ (popped_end bound front v ∙ (ap (λ b. cond b (front ++ v ∷ []) front) (lt-ltb v bound low) ∙ sym split)))

pub popped_empty : (bound : ℕ) (xs : List ℕ) → length xs ≤ 0 → xs ≡ popped_from bound xs
popped_empty bound [] le = refl
popped_empty bound (x ∷ xs) le = absurd (omega (arith, le))

pub popped_keeps : (bound : ℕ) (xs : List ℕ) (i : ℕ) → i < bound → Contains xs i → Contains (popped_from bound xs) i
popped_keeps bound [] i lt h = h
popped_keeps bound (x ∷ []) i lt h =
    elim (cases_Bool (nat_lt x bound)) [
      | inl low ↦ subst (λ ys. Contains ys i) (sym (ap (λ b. cond b (x ∷ []) []) low)) h
      | inr high ↦ elim (contains_cases x [] i h) [
        | inl same ↦ absurd (false≢true (sym high ∙ lt-ltb x bound (omega (arith, lt, same))))
        | inr rest ↦ absurd (omega (arith, rest.1))
      ]
    ]
popped_keeps bound (x ∷ y ∷ ys) i lt h =
    elim (contains_cases x (y ∷ ys) i h) [
      | inl same ↦ contains_first x (popped_from bound (y ∷ ys)) i same
      | inr rest ↦ contains_rest x (popped_from bound (y ∷ ys)) i (popped_keeps bound (y ∷ ys) i lt rest)
    ]

pub pops_keep : (bound node : ℕ) (us vs : List (List ℕ)) → HasPopped bound node us vs → KeepsPlaces bound us vs
pops_keep bound node us vs h x i lt there =
    subst (λ ps. Contains ps i) (sym (h x)) (elim (cases_Bool (x == node)) [
      | inl here ↦ subst (λ ps. Contains ps i) (sym (ap (λ b. cond b (popped_from bound (places_at us x)) (places_at us x)) here)) (popped_keeps bound (places_at us x) i lt there)
      | inr other ↦ subst (λ ps. Contains ps i) (sym (ap (λ b. cond b (popped_from bound (places_at us x)) (places_at us x)) other)) there
    ])

pub popped_set : (bound : ℕ) (us : List (List ℕ)) (node : ℕ) (list : List ℕ) → node < length us → list ≡ popped_from bound (places_at us node) → HasPopped bound node us (slice_set us node list)
popped_set bound us node list lt is x =
    elim (eqb_tells x node) [
      | inl same ↦ ap (λ (y : ℕ). places_at (slice_set us node list) y) same.1 ∙ (get_or-set_same us node list [] lt ∙ (is ∙ (ap (λ (y : ℕ). popped_from bound (places_at us y)) (sym same.1) ∙ sym (ap (λ b. cond b (popped_from bound (places_at us x)) (places_at us x)) same.0))))
      | inr other ↦ get_or-set_other us node x list [] other.1 ∙ sym (ap (λ b. cond b (popped_from bound (places_at us x)) (places_at us x)) other.0)
    ]

-- a node past the end has no places
pub popped_none : (bound : ℕ) (us : List (List ℕ)) (node : ℕ) → length us ≤ node → HasPopped bound node us us
popped_none bound us node le x =
    elim (eqb_tells x node) [
      | inl same ↦
          let none : places_at us x ≡ [] = get_or_past us x [] (omega (arith, le, same.1)) in
          none ∙ sym (ap (λ b. cond b (popped_from bound (places_at us x)) (places_at us x)) same.0 ∙ ap (popped_from bound) none)
      | inr other ↦ sym (ap (λ b. cond b (popped_from bound (places_at us x)) (places_at us x)) other.0)
    ]
