-- What a call has to show of the lists beside the state.
use Rattle.std.proofs.Common.{◌≡◌, ℕ, zero, suc, ◌+◌, ◌<◌, ◌&&◌, ◌⊎◌, Bool, true, false, List, [], ◌∷◌, ◌++◌, length, map, take, drop, Option, Some, None, inl, inr, refl, sym, subst, ap, ◌∙◌, arith, append-nil, get_or}
use Rattle.std.specs.Prelude.{◌==◌, slice_get}
use Rattle.std.specs.List.{All, Contains, cons_option}
use Rattle.std.proofs.lemmas.Bool.{and_from, and_parts, eq-eqb, eqb-true, false≢true, or_cases, or_left, or_right}
use Rattle.std.proofs.Math.Seq.{take-append_seam}
use Rattle.std.proofs.lemmas.List.{take-append-drop}
use Rattle.std.proofs.lemmas.List.Elements.{All-cons, All-head, All-nil, All-push, All-tail, All-weaker, Contains-append_left, Contains-push, Contains-push_cases, filter_map-append}
use Rattle.fm_base.specs.declared.ids.AtomId.{AtomId}
use Rattle.fm_base.specs.declared.ids.Lit.{Lit}
use Rattle.fm_base.specs.declared.ids.SortId.{SortId}
use Rattle.fm_base.specs.declared.ids.TermId.{TermId}
use Rattle.fm_base.specs.declared.signature.Ty.{Ty}
use Rattle.fm_bank.specs.Closure.{Shape}
use Rattle.fm_bank.specs.declared.atom.Atom.{Atom}
use Rattle.fm_cells.specs.Ascending.{is_in}
use Rattle.fm_cells.specs.Rings.{own_or}
use Rattle.fm_cells.specs.Sorts.{SaysTheSame, list_of, terms_of}
use Rattle.fm_cells.specs.declared.sorts.Sorts.{Sorts}
use Rattle.fm_cong.specs.Facts.{numbers_of_pair, unequal_by, unequal_of, unequal_sides}
use Rattle.fm_cong.specs.Faithful.{IsFaithful, IsWhole, held_in}
use Rattle.fm_cong.specs.Graphs.{Cells, cells_of}
use Rattle.fm_cong.specs.Held.{AreSidesRegistered, Held, IsReadable, IsRegistered, JoinsRegistered, is_registered}
use Rattle.fm_cong.specs.Levels.{HasSameClasses, IsInside}
use Rattle.fm_cong.specs.Tracked.{HasPairsOf, IsTracked}
use Rattle.fm_cong.specs.Types.{AreSorts, HasNoted}
use Rattle.fm_cong.specs.declared.egraph.Egraph.TheInside.{Inside}
use Rattle.fm_cong.specs.declared.fact.Fact.{Fact}
use Rattle.fm_cong.specs.declared.mark.Mark.{Mark}
use Rattle.fm_cong.specs.declared.state.State.{State}

abbrev pub AreRead : List Shape → List Fact → Type 0
AreRead shapes facts = All (λ (f : Fact). JoinsRegistered shapes f.atom) facts

pub sorts_same : (shapes shapes' : List Shape) (types types' : List (TermId × Ty)) (o o' : Sorts) → shapes' ≡ shapes → types' ≡ types → SaysTheSame o o' → AreSorts shapes types o → AreSorts shapes' types' o'
sorts_same shapes shapes' types types' o o' members same lists h = record {
  lists = λ t s. (
    (λ on. subst (λ (ts : List (TermId × Ty)). Contains ts (t, Ty.Of s)) (sym same) ((h.lists t s).0 (ap (λ xs. is_in xs t.0) (sym (lists s.0)) ∙ on))),
    (λ k. ap (λ xs. is_in xs t.0) (lists s.0) ∙ (h.lists t s).1 (subst (λ (ts : List (TermId × Ty)). Contains ts (t, Ty.Of s)) same k)),
  );
  typed = λ t ty k. subst (λ (ss : List Shape). IsRegistered ss t.0) (sym members) (h.typed t ty (subst (λ (ts : List (TermId × Ty)). Contains ts (t, ty)) same k));
}

pub classes_err : (s t : State) → cells_of t ≡ cells_of s → HasSameClasses s t
classes_err s t e = ap (λ (c : Cells). own_or c.class) e

-- each mark is within the logs
pub insides_of : (g : Inside) → IsWhole g → (i : ℕ) (d : Mark) → i < length g.marks.items → IsInside g.state (get_or g.marks.items i d)
insides_of g w i d lt = (w.sound.marks.kept i d lt).inside

-- nothing was read or registered
pub whole_room : (g h : Inside) → IsWhole g → IsFaithful h → h.members.items ≡ g.members.items → h.types.items ≡ g.types.items → HasPairsOf h.state.facts.items h.apart → IsTracked h.state h.apart h.marks.items h.cuts.items → h.state.facts.items ≡ g.state.facts.items → SaysTheSame g.sorts h.sorts → IsWhole h
whole_room g h w sound members types unequal tracked facts lists = record {
  sound = sound;
  unequal = unequal;
  tracked = tracked;
  read = subst (λ (ss : List Shape). AreRead ss h.state.facts.items) (sym members) (subst (AreRead g.members.items) (sym facts) w.read);
  sorts = sorts_same g.members.items h.members.items g.types.items h.types.items g.sorts h.sorts members types lists w.sorts;
}

pub unequal_read : (facts more : List Fact) (fact : Fact) → more ≡ facts ++ fact ∷ [] → unequal_of more ≡ unequal_of facts ++ cons_option (unequal_by fact) []
unequal_read facts more fact e = ap unequal_of e ∙ filter_map-append unequal_by facts (fact ∷ [])

pub cut_unequal : (facts : List Fact) (from k : ℕ) → k ≡ length (unequal_of (take from facts)) → take k (unequal_of facts) ≡ unequal_of (take from facts)
cut_unequal facts from k e =
    let first = unequal_of (take from facts) in
    let parts : unequal_of facts ≡ first ++ unequal_of (drop from facts) = ap unequal_of (sym (take-append-drop from facts)) ∙ filter_map-append unequal_by (take from facts) (drop from facts) in
    ap (λ n. take n (unequal_of facts)) e ∙ (ap (take (length first)) parts ∙ take-append_seam first (unequal_of (drop from facts)))

pub map_take : {X Y : Type 0} → (f : X → Y) (k : ℕ) (xs : List X) → map f (take k xs) ≡ take k (map f xs)
map_take f zero xs = refl
map_take f (suc k) [] = refl
map_take f (suc k) (x ∷ xs) = ap (λ ys. f x ∷ ys) (map_take f k xs)

pub long_map : {X Y : Type 0} → (f : X → Y) (xs : List X) (ys : List Y) → map f xs ≡ ys → length xs ≡ length ys
long_map f xs ys e = sym (mapped f xs) ∙ ap length e
  where
    mapped : {X Y : Type 0} → (f : X → Y) (xs : List X) → length (map f xs) ≡ length xs
    mapped f [] = refl
    mapped f (x ∷ xs) = ap suc (mapped f xs)

unequal_true : (a : Atom) → unequal_sides a true ≡ None
unequal_true (Atom.Equal a b) = refl
unequal_true (Atom.Pred t) = refl
unequal_true (Atom.Card s k) = refl
unequal_true (Atom.Bound n) = refl

pub unequal_merged : (facts more : List Fact) (fact : Fact) (atom : AtomId) → more ≡ facts ++ fact ∷ [] → fact.lit ≡ record { atom = atom; positive = true } → unequal_of more ≡ unequal_of facts
unequal_merged facts more fact atom e lit =
    let none : unequal_by fact ≡ None = ap (λ (l : Lit). unequal_sides fact.atom l.positive) lit ∙ unequal_true fact.atom in
    unequal_read facts more fact e ∙ (ap (λ o. unequal_of facts ++ cons_option o []) none ∙ append-nil (unequal_of facts))

pub read_more : (shapes : List Shape) (facts more : List Fact) (fact : Fact) → more ≡ facts ++ fact ∷ [] → JoinsRegistered shapes fact.atom → AreRead shapes facts → AreRead shapes more
read_more shapes facts more fact e here h = subst (AreRead shapes) (sym e) (All-push (λ (f : Fact). JoinsRegistered shapes f.atom) facts fact h here)

pub joins_in : (g : Inside) (h : Held) → held_in g ≡ h → (atoms : List Atom) (atom : AtomId) (a : Atom) → slice_get atoms atom.0 ≡ Some a → IsReadable h.shapes atoms atom → JoinsRegistered g.members.items a
joins_in g h view atoms atom a there r = subst (λ (k : Held). IsReadable k.shapes atoms atom) (sym view) r a there

-- the sides of the pairs
module _ (shapes : List Shape) where
  abbrev AreTermsRegistered : ℕ × ℕ → Type 0
  AreTermsRegistered p = IsRegistered shapes p.0 × IsRegistered shapes p.1

  sides_read : (a : Atom) (positive : Bool) (rest : List (ℕ × ℕ)) → JoinsRegistered shapes a → All AreTermsRegistered rest → All AreTermsRegistered (cons_option (unequal_sides a positive) rest)
  sides_read (Atom.Equal a b) true rest h all = all
  sides_read (Atom.Equal a b) false rest h all = All-cons AreTermsRegistered (a.0, b.0) rest h all
  sides_read (Atom.Pred t) positive rest h all = all
  sides_read (Atom.Card s k) positive rest h all = all
  sides_read (Atom.Bound n) positive rest h all = all

  all_read : (facts : List Fact) → AreRead shapes facts → All AreTermsRegistered (unequal_of facts)
  all_read [] h = All-nil AreTermsRegistered
  all_read (f ∷ facts) h =
      let P : Fact → Type 0 = λ (g : Fact). JoinsRegistered shapes g.atom in
      sides_read f.atom f.lit.positive (unequal_of facts) (All-head P f facts h) (all_read facts (All-tail P f facts h))

  from_numbers : (ps : List (TermId × TermId)) → All AreTermsRegistered (map numbers_of_pair ps) → All (AreSidesRegistered shapes) ps
  from_numbers [] h = All-nil (AreSidesRegistered shapes)
  from_numbers (p ∷ ps) h = All-cons (AreSidesRegistered shapes) p ps (All-head AreTermsRegistered (numbers_of_pair p) (map numbers_of_pair ps) h) (from_numbers ps (All-tail AreTermsRegistered (numbers_of_pair p) (map numbers_of_pair ps) h))

  pub sides_registered : (facts : List Fact) (pairs : List (TermId × TermId)) → map numbers_of_pair pairs ≡ unequal_of facts → AreRead shapes facts → All (AreSidesRegistered shapes) pairs
  sides_registered facts pairs of h = from_numbers pairs (subst (All AreTermsRegistered) (sym of) (all_read facts h))

-- a term that is registered

registered_more : (shapes : List Shape) (s : Shape) (n : ℕ) → is_registered shapes n ≡ true → is_registered (shapes ++ s ∷ []) n ≡ true
registered_more [] s n h = absurd (false≢true h)
registered_more (t ∷ shapes) s n h = elim (or_cases (n == t.number) (is_registered shapes n) h) [ inl a ↦ or_left (n == t.number) (is_registered (shapes ++ s ∷ []) n) a | inr b ↦ or_right (n == t.number) (is_registered (shapes ++ s ∷ []) n) (registered_more shapes s n b) ]

registered_new : (shapes : List Shape) (s : Shape) (n : ℕ) → n ≡ s.number → is_registered (shapes ++ s ∷ []) n ≡ true
registered_new [] s n e = or_left (n == s.number) false (eq-eqb n s.number e)
registered_new (t ∷ shapes) s n e = or_right (n == t.number) (is_registered (shapes ++ s ∷ []) n) (registered_new shapes s n e)

joins_more : (shapes : List Shape) (s : Shape) (a : Atom) → JoinsRegistered shapes a → JoinsRegistered (shapes ++ s ∷ []) a
joins_more shapes s (Atom.Equal a b) h = (registered_more shapes s a.0 h.0, registered_more shapes s b.0 h.1)
joins_more shapes s (Atom.Pred t) h = registered_more shapes s t.0 h
joins_more shapes s (Atom.Card k n) h = h
joins_more shapes s (Atom.Bound n) h = h

pub read_with : (shapes : List Shape) (s : Shape) (facts : List Fact) → AreRead shapes facts → AreRead (shapes ++ s ∷ []) facts
read_with shapes s facts h = All-weaker (λ (f : Fact). JoinsRegistered shapes f.atom) (λ (f : Fact). JoinsRegistered (shapes ++ s ∷ []) f.atom) (λ f j. joins_more shapes s f.atom j) facts h

pair_number : (p q : TermId × Ty) → p ≡ q → (p.0.0 ≡ q.0.0) × (p.1 ≡ q.1)
pair_number p q e = (ap (λ (p : TermId × Ty). p.0.0) e, ap (λ (p : TermId × Ty). p.1) e)

module _ (shapes : List Shape) (s : Shape) (types : List (TermId × Ty)) (o o' : Sorts) (t : TermId) (number : s.number ≡ t.0) (h : AreSorts shapes types o) where
  listed_still : (ty : Ty) → HasNoted o o' t.0 ty → (k n : ℕ) → is_in (list_of o k) n ≡ true → is_in (list_of o' k) n ≡ true
  listed_still Ty.Bool m k n on = ap (λ xs. is_in xs n) (m k) ∙ on
  listed_still (Ty.Of sort) m k n on = m k n ∙ or_left (is_in (list_of o k) n) (k == sort.0 && n == t.0) on

  -- the term itself
  listed_new : (sort : SortId) → HasNoted o o' t.0 (Ty.Of sort) → is_in (list_of o' sort.0) t.0 ≡ true
  listed_new sort m = m sort.0 t.0 ∙ or_right (is_in (list_of o sort.0) t.0) (sort.0 == sort.0 && t.0 == t.0) (and_from (sort.0 == sort.0) (t.0 == t.0) (eq-eqb sort.0 sort.0 refl) (eq-eqb t.0 t.0 refl))

  -- what is listed was, or it is the term
  listed_from : (ty : Ty) → HasNoted o o' t.0 ty → (sort : SortId) (n : ℕ) → is_in (list_of o' sort.0) n ≡ true → (is_in (list_of o sort.0) n ≡ true) ⊎ ((ty ≡ Ty.Of sort) × (n ≡ t.0))
  listed_from Ty.Bool m sort n on = inl (ap (λ xs. is_in xs n) (sym (m sort.0)) ∙ on)
  listed_from (Ty.Of k) m sort n on =
      elim (or_cases (is_in (list_of o sort.0) n) (sort.0 == k.0 && n == t.0) (sym (m sort.0 n) ∙ on)) [
        | inl old ↦ inl old
        | inr new ↦
            let both = and_parts (sort.0 == k.0) (n == t.0) new in
            let e = eqb-true sort.0 k.0 both.0 in
            inr (λ i. Ty.Of (record { 0 = sym e i }), eqb-true n t.0 both.1)
      ]

  pub sorts_with : (ty : Ty) → HasNoted o o' t.0 ty → AreSorts (shapes ++ s ∷ []) (types ++ (t, ty) ∷ []) o'
  sorts_with ty m = record {
    lists = λ u sort. (
      (λ on. elim (listed_from ty m sort u.0 on) [
        | inl old ↦ Contains-append_left types ((t, ty) ∷ []) (u, Ty.Of sort) ((h.lists u sort).0 old)
        | inr new ↦ subst (λ (p : TermId × Ty). Contains (types ++ (t, ty) ∷ []) p) (λ i. (record { 0 = sym new.1 i }, new.0 i)) (Contains-push types (t, ty))
      ]),
      (λ k. elim (Contains-push_cases types (t, ty) (u, Ty.Of sort) k) [
        | inl old ↦ listed_still ty m sort.0 u.0 ((h.lists u sort).1 old)
        | inr new ↦ let p = pair_number (t, ty) (u, Ty.Of sort) new in ap (is_in (list_of o' sort.0)) (sym p.0) ∙ listed_new sort (subst (HasNoted o o' t.0) p.1 m)
      ]),
    );
    typed = λ u uty k. elim (Contains-push_cases types (t, ty) (u, uty) k) [
      | inl old ↦ registered_more shapes s u.0 (h.typed u uty old)
      | inr new ↦ registered_new shapes s u.0 (sym (pair_number (t, ty) (u, uty) new).0 ∙ sym number)
    ];
  }

-- where nothing is registered

pub sorts_empty : (types : List (TermId × Ty)) (o : Sorts) (shapes : List Shape) → types ≡ [] → o.lists.items ≡ [] → AreSorts shapes types o
sorts_empty types o shapes p q = record {
  lists = λ t s. (
    (λ on. absurd (false≢true (sym (ap (λ ls. is_in (terms_of (slice_get ls s.0)) t.0) q) ∙ on))),
    (λ k. absurd (nothing_in (t, Ty.Of s) (subst (λ (ts : List (TermId × Ty)). Contains ts (t, Ty.Of s)) p k))),
  );
  typed = λ t ty k. absurd (nothing_in (t, ty) (subst (λ (ts : List (TermId × Ty)). Contains ts (t, ty)) p k));
}
  where
    nothing_in : (p : TermId × Ty) → Contains [] p → ⊥
    nothing_in p h = omega (arith, h.1)
