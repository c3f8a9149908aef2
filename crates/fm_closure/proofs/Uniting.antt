-- The members of a class are moved one after another, and how many classes there are.
use Rattle.std.proofs.Common.{◌≡◌, ℕ, zero, suc, ◌+◌, ◌<◌, ◌≤◌, Bool, true, false, cond, List, [], ◌∷◌, ◌++◌, ◌||◌, length, map, take, set, get_or, Some, inl, inr, refl, sym, subst, ap, ◌∙◌, arith}
use Rattle.std.specs.Prelude.{◌==◌, Option, slice_get}
use Rattle.std.specs.List.{All, Contains, list_any, range_with_len}
use Rattle.std.proofs.lemmas.Bool.{cases_Bool, eq-eqb, eqb-false, false≢true, or_left, or_right}
use Rattle.std.proofs.lemmas.Bool.Decides.{eqb_tells}
use Rattle.std.proofs.lemmas.List.{get_or-set_same, get_or-set_other, length-map, length-set, take_more, take_all}
use Rattle.std.proofs.lemmas.List.Elements.{All-contains, All-nil, All-push, All-weaker, Contains-append_left, Contains-push}
use Rattle.std.proofs.lemmas.Option.{get_or_from_slice_get, slice_get-get_or, slice_get_within}
use Rattle.std.proofs.Math.Seq.{map-set_same}
use Rattle.fm_closure.specs.Classes.{AreOfClasses, class_at, number_of, relabelled}
use Rattle.fm_closure.specs.Members.{AreListed, AreUnited, IsEmptied, IsListed, kinds}
use Rattle.fm_closure.specs.declared.object.Object.{Object}

one_of : (b : Bool) (x : ℕ) → cond b x x ≡ x
one_of true x = refl
one_of false x = refl

module _ (from to : ℕ) where
  moved_there : (c : ℕ) → c ≡ from → relabelled from to c ≡ to
  moved_there c e = ap (λ (b : Bool). cond b to c) (eq-eqb c from e)

  twice : (c : ℕ) → relabelled from to (relabelled from to c) ≡ relabelled from to c
  twice c =
      elim (eqb_tells c from) [
        | inl p ↦ let e = moved_there c p.1 in ap (relabelled from to) e ∙ (one_of (to == from) to ∙ sym e)
        | inr p ↦ ap (relabelled from to) (ap (λ (b : Bool). cond b to c) p.0)
      ]

  module _ (differ : (from == to) ≡ false) where
    gone : (c : ℕ) → relabelled from to c ≡ from → ⊥
    gone c e =
        elim (eqb_tells c from) [
          | inl p ↦ eqb-false from to differ (sym e ∙ moved_there c p.1)
          | inr p ↦ p.1 (sym (ap (λ (b : Bool). cond b to c) p.0) ∙ e)
        ]

  abbrev moved_at : List ℕ → ℕ → List ℕ
  moved_at cs k = set cs k (relabelled from to (get_or cs k 0))

  abbrev noted_at : List (List ℕ) → ℕ → List (List ℕ)
  noted_at ms k = set ms to (get_or ms to [] ++ k ∷ [])

  noted_kept : (ms : List (List ℕ)) (k c j : ℕ) → to < length ms → Contains (get_or ms c []) j → Contains (get_or (noted_at ms k) c []) j
  noted_kept ms k c j lt h =
      elim (eqb_tells c to) [
        | inl p ↦
            let e : get_or (noted_at ms k) to [] ≡ get_or ms to [] ++ k ∷ [] = get_or-set_same ms to (get_or ms to [] ++ k ∷ []) [] lt in
            subst (λ (d : ℕ). Contains (get_or (noted_at ms k) d []) j) (sym p.1) (subst (λ (xs : List ℕ). Contains xs j) (sym e) (Contains-append_left (get_or ms to []) (k ∷ []) j (subst (λ (d : ℕ). Contains (get_or ms d []) j) p.1 h)))
        | inr p ↦ subst (λ (xs : List ℕ). Contains xs j) (sym (get_or-set_other ms to c (get_or ms to [] ++ k ∷ []) [] p.1)) h
      ]

  listed_kept : (ms : List (List ℕ)) (k c j : ℕ) → to < length ms → IsListed ms c j → IsListed (noted_at ms k) c j
  listed_kept ms k c j lt h = (
    omega (arith, length-set ms to (get_or ms to [] ++ k ∷ []), h.0),
    elim h.1 [
      | inl e ↦ inl e
      | inr m ↦ inr (noted_kept ms k c j lt m)
    ],
  )

  listed_here : (ms : List (List ℕ)) (k : ℕ) → to < length ms → IsListed (noted_at ms k) to k
  listed_here ms k lt =
      let e : get_or (noted_at ms k) to [] ≡ get_or ms to [] ++ k ∷ [] = get_or-set_same ms to (get_or ms to [] ++ k ∷ []) [] lt in
      (omega (arith, length-set ms to (get_or ms to [] ++ k ∷ []), lt), inr (subst (λ (xs : List ℕ). Contains xs k) (sym e) (Contains-push (get_or ms to []) k)))

  -- the class that is read where a place was moved
  read_moved : (cs : List ℕ) (k j c : ℕ) → slice_get (moved_at cs k) j ≡ Some c → j ≡ k → (c ≡ relabelled from to (get_or cs k 0)) × (slice_get cs k ≡ Some (get_or cs k 0))
  read_moved cs k j c e same =
      let y = relabelled from to (get_or cs k 0) in
      let lt : j < length cs = let l = slice_get_within (moved_at cs k) j c e in omega (arith, length-set cs k y) in
      let here : k < length cs = omega (arith, lt, same) in
      let e : slice_get (moved_at cs k) k ≡ Some c = subst (λ (n : ℕ). slice_get (moved_at cs k) n ≡ Some c) same e in
      (sym (get_or_from_slice_get (moved_at cs k) k c 0 e) ∙ get_or-set_same cs k y 0 here, slice_get-get_or cs k 0 here)

  read_other : (cs : List ℕ) (k j c y : ℕ) → slice_get (set cs k y) j ≡ Some c → (j ≡ k → ⊥) → slice_get cs j ≡ Some c
  read_other cs k j c y e other =
      let lt : j < length cs = let l = slice_get_within (set cs k y) j c e in omega (arith, length-set cs k y) in
      slice_get-get_or cs j 0 lt ∙ ap Some (sym (get_or-set_other cs k j y 0 other) ∙ get_or_from_slice_get (set cs k y) j c 0 e)

  listed_next : (cs : List ℕ) (ms : List (List ℕ)) (k : ℕ) → to < length ms → AreListed cs ms → AreListed (moved_at cs k) (noted_at ms k)
  listed_next cs ms k lt h j c e =
      elim (eqb_tells j k) [
        | inl p ↦
            let r = read_moved cs k j c e p.1 in
            subst (IsListed (noted_at ms k) c) (sym p.1) (subst (λ (d : ℕ). IsListed (noted_at ms k) d k) (sym r.0) (listed_moved (get_or cs k 0) (h k (get_or cs k 0) r.1)))
        | inr p ↦ listed_kept ms k c j lt (h j c (read_other cs k j c (relabelled from to (get_or cs k 0)) e p.1))
      ]
    where
      listed_moved : (x : ℕ) → IsListed ms x k → IsListed (noted_at ms k) (relabelled from to x) k
      listed_moved x l =
          elim (eqb_tells x from) [
            | inl p ↦ subst (λ (d : ℕ). IsListed (noted_at ms k) d k) (sym (moved_there x p.1)) (listed_here ms k lt)
            | inr p ↦ subst (λ (d : ℕ). IsListed (noted_at ms k) d k) (sym (ap (λ (b : Bool). cond b to x) p.0)) (listed_kept ms k x k lt l)
          ]

-- no place is of the class
emptied_next : (from to : ℕ) → (from == to) ≡ false → (cs : List ℕ) (k j : ℕ) → (slice_get cs j ≡ Some from → ⊥) → slice_get (moved_at from to cs k) j ≡ Some from → ⊥
emptied_next from to differ cs k j h e =
    elim (eqb_tells j k) [
      | inl p ↦ gone from to differ (get_or cs k 0) (sym (read_moved from to cs k j from e p.1).0)
      | inr p ↦ h (read_other from to cs k j from (relabelled from to (get_or cs k 0)) e p.1)
    ]

emptied_here : (from to : ℕ) → (from == to) ≡ false → (cs : List ℕ) (k : ℕ) → slice_get (moved_at from to cs k) k ≡ Some from → ⊥
emptied_here from to differ cs k e = gone from to differ (get_or cs k 0) (sym (read_moved from to cs k k from e refl).0)

-- in the midst of the move of a class, behind its first members
pub record IsMoving (from to : ℕ) (start cs : List ℕ) (base ms : List (List ℕ)) (count : ℕ) : Type 0 where
  pub listed : AreListed cs ms
  pub same : map (relabelled from to) cs ≡ map (relabelled from to) start
  pub own : slice_get cs from ≡ Some from → ⊥
  pub done : All (λ (k : ℕ). slice_get cs k ≡ Some from → ⊥) (take count (get_or base from []))
  pub members : get_or ms from [] ≡ get_or base from []
  pub many : length ms ≡ length base

module _ (from to : ℕ) (differ : (from == to) ≡ false) (start : List ℕ) (base : List (List ℕ)) where
  other_list : (ms : List (List ℕ)) (k : ℕ) → get_or (noted_at from to ms k) from [] ≡ get_or ms from []
  other_list ms k = get_or-set_other ms to from (get_or ms to [] ++ k ∷ []) [] (eqb-false from to differ)

  same_next : (cs : List ℕ) (k : ℕ) → map (relabelled from to) (moved_at from to cs k) ≡ map (relabelled from to) cs
  same_next cs k = map-set_same (relabelled from to) cs k (relabelled from to (get_or cs k 0)) 0 (twice from to (get_or cs k 0))

  pub moving_first : (cs : List ℕ) (ms : List (List ℕ)) → to < length base → AreListed start base → cs ≡ moved_at from to start from → ms ≡ noted_at from to base from → IsMoving from to start cs base ms 0
  moving_first cs ms lt h c m =
      subst (λ (l : List (List ℕ)). IsMoving from to start cs base l 0) (sym m)
      (subst (λ (l : List ℕ). IsMoving from to start l base (noted_at from to base from) 0) (sym c)
      (record {
        listed = listed_next from to start base from lt h;
        same = same_next start from;
        own = emptied_here from to differ start from;
        done = All-nil (λ (k : ℕ). slice_get (moved_at from to start from) k ≡ Some from → ⊥);
        members = other_list base from;
        many = length-set base to (get_or base to [] ++ from ∷ []);
      }))

  pub moving_next : (cs new : List ℕ) (ms more : List (List ℕ)) (i k : ℕ) → to < length base → i < length (get_or base from []) → slice_get (get_or ms from []) i ≡ Some k → new ≡ moved_at from to cs k → more ≡ noted_at from to ms k → IsMoving from to start cs base ms i → IsMoving from to start new base more (i + 1)
  moving_next cs new ms more i k lt il at c m h =
      let l = get_or base from [] in
      let Free : List ℕ → ℕ → Type 0 = λ (ds : List ℕ) (j : ℕ). slice_get ds j ≡ Some from → ⊥ in
      let read : get_or l i 0 ≡ k = get_or_from_slice_get l i k 0 (subst (λ (xs : List ℕ). slice_get xs i ≡ Some k) h.members at) in
      let room : to < length ms = omega (arith, lt, h.many) in
      let behind : All (Free (moved_at from to cs k)) (take i l) = All-weaker (Free cs) (Free (moved_at from to cs k)) (λ (j : ℕ) (f : Free cs j). emptied_next from to differ cs k j f) (take i l) h.done in
      subst (λ (xs : List (List ℕ)). IsMoving from to start new base xs (i + 1)) (sym m)
      (subst (λ (xs : List ℕ). IsMoving from to start xs base (noted_at from to ms k) (i + 1)) (sym c)
      (record {
        listed = listed_next from to cs ms k room h.listed;
        same = same_next cs k ∙ h.same;
        own = emptied_next from to differ cs k from h.own;
        done = subst (All (Free (moved_at from to cs k))) (sym (take_more l i 0 il)) (All-push (Free (moved_at from to cs k)) (take i l) (get_or l i 0) behind (subst (Free (moved_at from to cs k)) (sym read) (emptied_here from to differ cs k)));
        members = other_list ms k ∙ h.members;
        many = length-set ms to (get_or ms to [] ++ k ∷ []) ∙ h.many;
      }))

  pub moving_emptied : (cs : List ℕ) (ms : List (List ℕ)) (count : ℕ) → length (get_or base from []) ≤ count → IsMoving from to start cs base ms count → IsEmptied cs from
  moving_emptied cs ms count le h j e =
      elim (h.listed j from e).1 [
        | inl own ↦ h.own (subst (λ (k : ℕ). slice_get cs k ≡ Some from) own e)
        | inr member ↦
            All-contains (λ (k : ℕ). slice_get cs k ≡ Some from → ⊥) (get_or base from []) j (subst (All (λ (k : ℕ). slice_get cs k ≡ Some from → ⊥)) (take_all count (get_or base from []) le) h.done) (subst (λ (xs : List ℕ). Contains xs j) h.members member) e
      ]

  unmoved : (cs : List ℕ) → IsEmptied cs from → map (relabelled from to) cs ≡ cs
  unmoved [] h = refl
  unmoved (c ∷ cs) h =
      let first : relabelled from to c ≡ c = elim (eqb_tells c from) [
        | inl p ↦ absurd (h 0 (ap Some p.1))
        | inr p ↦ ap (λ (b : Bool). cond b to c) p.0
      ] in
      let rest : map (relabelled from to) cs ≡ cs = unmoved cs (λ (j : ℕ) e. h (suc j) e) in
      λ i. first i ∷ rest i

  pub moving_end : (cs : List ℕ) (ms : List (List ℕ)) (count : ℕ) → length (get_or base from []) ≤ count → IsMoving from to start cs base ms count → cs ≡ map (relabelled from to) start
  moving_end cs ms count le h = sym (unmoved cs (moving_emptied cs ms count le h)) ∙ h.same

-- the list of a class that nothing is of is emptied
pub listed_emptied : (cs : List ℕ) (ms new : List (List ℕ)) (from : ℕ) → IsEmptied cs from → new ≡ set ms from [] → AreListed cs ms → AreListed cs new
listed_emptied cs ms new from free put h =
    subst (AreListed cs) (sym put) (λ j c e.
    let l = h j c e in
    let other : c ≡ from → ⊥ = λ s. free j (subst (λ (d : ℕ). slice_get cs j ≡ Some d) s e) in (
      omega (arith, length-set ms from [], l.0),
      elim l.1 [
        | inl own ↦ inl own
        | inr member ↦ inr (subst (λ (xs : List ℕ). Contains xs j) (sym (get_or-set_other ms from c [] [] other)) member)
      ],
    ))

range_at : (a n k c : ℕ) → slice_get (range_with_len a n) k ≡ Some c → (c ≡ a + k) × (k < n)
range_at a zero k c e = absurd cc
range_at a (suc n) zero c e = let s : a ≡ c = cc e in (omega (arith, s), omega arith)
range_at a (suc n) (suc k) c e = let r = range_at (a + 1) n k c e in (omega (arith, r.0), omega (arith, r.1))

-- at first each class has its own place alone
pub listed_first : (n : ℕ) (cs : List ℕ) (ms : List (List ℕ)) → cs ≡ range_with_len 0 n → length ms ≡ n → AreListed cs ms
listed_first n cs ms e l j c h =
    let r = range_at 0 n j c (subst (λ (xs : List ℕ). slice_get xs j ≡ Some c) e h) in
    (omega (arith, r.0, r.1, l), inl (omega (arith, r.0)))

pub united_length : (c d : ℕ) (old new : List ℕ) → AreUnited c d old new → length new ≡ length old
united_length c d old new united =
    elim united [
      | inl is ↦ ap length is ∙ length-map old (relabelled c d)
      | inr is ↦ ap length is ∙ length-map old (relabelled d c)
    ]

contained_first : (d c : ℕ) (cs : List ℕ) (r : Option ℕ) (b : Bool) → (r ≡ Some c → Contains cs c) → cond b (Some d) r ≡ Some c → Contains (d ∷ cs) c
contained_first d c cs r true h e = (0, omega arith, cc e)
contained_first d c cs r false h e = let k = h e in (suc k.0, omega (arith, k.1), k.2)

-- a class is one of the list
pub class_contained : (os : List Object) (cs : List ℕ) (x c : ℕ) → class_at os cs x ≡ Some c → Contains cs c
class_contained [] cs x c e = absurd cc
class_contained (o ∷ os) [] x c e = absurd cc
class_contained (o ∷ os) (d ∷ cs) x c e = contained_first d c cs (class_at os cs x) (x == number_of o) (class_contained os cs x c) e

abbrev among : ℕ → List ℕ → Bool
among c cs = list_any (λ (d : ℕ). c == d) cs

among_at : (cs : List ℕ) (c k : ℕ) → k < length cs → get_or cs k c ≡ c → among c cs ≡ true
among_at [] c k lt e = absurd (omega (arith, lt))
among_at (d ∷ cs) c zero lt e = or_left (c == d) (among c cs) (eq-eqb c d (sym e))
among_at (d ∷ cs) c (suc k) lt e = or_right (c == d) (among c cs) (among_at cs c k (omega (arith, lt)) e)

module _ (f : ℕ → ℕ) where
  among_mapped : (c : ℕ) (cs : List ℕ) → among c cs ≡ true → among (f c) (map f cs) ≡ true
  among_mapped c [] e = absurd (false≢true e)
  among_mapped c (d ∷ cs) e =
      elim (eqb_tells c d) [
        | inl p ↦ or_left (f c == f d) (among (f c) (map f cs)) (eq-eqb (f c) (f d) (ap f p.1))
        | inr p ↦ or_right (f c == f d) (among (f c) (map f cs)) (among_mapped c cs (sym (ap (λ (b : Bool). b || among c cs) p.0) ∙ e))
      ]

  no_more_kinds : (a b : Bool) (k n : ℕ) → (a ≡ true → b ≡ true) → k ≤ n → cond b k (1 + k) ≤ cond a n (1 + n)
  no_more_kinds true true k n h le = le
  no_more_kinds true false k n h le = absurd (false≢true (h refl))
  no_more_kinds false true k n h le = omega (arith, le)
  no_more_kinds false false k n h le = omega (arith, le)

  fewer_kinds : (a b : Bool) (k n : ℕ) → (a ≡ true → b ≡ true) → k < n → cond b k (1 + k) < cond a n (1 + n)
  fewer_kinds true true k n h lt = lt
  fewer_kinds true false k n h lt = absurd (false≢true (h refl))
  fewer_kinds false true k n h lt = omega (arith, lt)
  fewer_kinds false false k n h lt = omega (arith, lt)

  one_kind : (a b : Bool) (k n : ℕ) → a ≡ false → b ≡ true → k ≤ n → cond b k (1 + k) < cond a n (1 + n)
  one_kind true b k n ea eb le = absurd (false≢true (sym ea))
  one_kind false true k n ea eb le = omega (arith, le)
  one_kind false false k n ea eb le = absurd (false≢true eb)

  kinds_mapped : (cs : List ℕ) → kinds (map f cs) ≤ kinds cs
  kinds_mapped [] = omega arith
  kinds_mapped (c ∷ cs) = no_more_kinds (among c cs) (among (f c) (map f cs)) (kinds (map f cs)) (kinds cs) (among_mapped c cs) (kinds_mapped cs)

  -- the first number isn't among the others, which have one with the same image
  kinds_first : (c d : ℕ) (cs : List ℕ) → f c ≡ f d → among c cs ≡ false → among d cs ≡ true → kinds (map f (c ∷ cs)) < kinds (c ∷ cs)
  kinds_first c d cs e last other = one_kind (among c cs) (among (f c) (map f cs)) (kinds (map f cs)) (kinds cs) last (subst (λ (n : ℕ). among n (map f cs) ≡ true) (sym e) (among_mapped d cs other)) (kinds_mapped cs)

  first_or : (b : Bool) (c d : ℕ) (cs : List ℕ) → among c cs ≡ b → b ≡ false → among c (d ∷ cs) ≡ true → c ≡ d
  first_or b c d cs e n h =
      elim (eqb_tells c d) [
        | inl p ↦ p.1
        | inr p ↦ absurd (false≢true (sym (e ∙ n) ∙ (sym (ap (λ (t : Bool). t || among c cs) p.0) ∙ h)))
      ]

  later_or : (c d : ℕ) (cs : List ℕ) → (c ≡ d → ⊥) → among c (d ∷ cs) ≡ true → among c cs ≡ true
  later_or c d cs other h =
      elim (eqb_tells c d) [
        | inl p ↦ absurd (other p.1)
        | inr p ↦ sym (ap (λ (t : Bool). t || among c cs) p.0) ∙ h
      ]

  -- two numbers with one image
  kinds_fewer : (c d : ℕ) (cs : List ℕ) → f c ≡ f d → (c ≡ d → ⊥) → among c cs ≡ true → among d cs ≡ true → kinds (map f cs) < kinds cs
  kinds_fewer c d [] e differ hc hd = absurd (false≢true hc)
  kinds_fewer c d (x ∷ cs) e differ hc hd =
      elim (cases_Bool (among c cs)) [
        | inl bc ↦ elim (cases_Bool (among d cs)) [
          | inl bd ↦ fewer_kinds (among x cs) (among (f x) (map f cs)) (kinds (map f cs)) (kinds cs) (among_mapped x cs) (kinds_fewer c d cs e differ bc bd)
          | inr bd ↦ first d c bd hd (sym e) (λ s. differ (sym s)) hc
        ]
        | inr bc ↦ first c d bc hc e differ hd
      ]
    where
      first : (c d : ℕ) → among c cs ≡ false → among c (x ∷ cs) ≡ true → f c ≡ f d → (c ≡ d → ⊥) → among d (x ∷ cs) ≡ true → kinds (map f (x ∷ cs)) < kinds (x ∷ cs)
      first c d last here e differ there =
          let s : c ≡ x = first_or false c x cs last refl here in
          let other : among d cs ≡ true = later_or d x cs (λ t. differ (s ∙ sym t)) there in
          subst (λ (n : ℕ). kinds (map f (n ∷ cs)) < kinds (n ∷ cs)) s (kinds_first c d cs e last other)

relabelled_fewer : (from to : ℕ) (cs : List ℕ) → (from ≡ to → ⊥) → Contains cs from → Contains cs to → kinds (map (relabelled from to) cs) < kinds cs
relabelled_fewer from to cs differ hf ht =
    kinds_fewer (relabelled from to) from to cs (moved_there from to from refl ∙ sym (one_of (to == from) to)) differ (among_at cs from hf.0 hf.1 hf.2) (among_at cs to ht.0 ht.1 ht.2)

pub united_fewer : (os : List Object) (cs new : List ℕ) (u v : ℕ) (p : ℕ × ℕ) → AreOfClasses os cs u v p → AreUnited p.0 p.1 cs new → kinds new < kinds cs
united_fewer os cs new u v p w united =
    let left = class_contained os cs u p.0 w.left in
    let right = class_contained os cs v p.1 w.right in
    let differ = eqb-false p.0 p.1 w.differ in
    elim united [
      | inl is ↦ subst (λ (ds : List ℕ). kinds ds < kinds cs) (sym is) (relabelled_fewer p.0 p.1 cs differ left right)
      | inr is ↦ subst (λ (ds : List ℕ). kinds ds < kinds cs) (sym is) (relabelled_fewer p.1 p.0 cs (λ e. differ (sym e)) right left)
    ]
