-- From merge to merge.
use Rattle.std.proofs.Common.{◌≡◌, ℕ, zero, suc, ◌-◌, ◌<◌, ◌⊎◌, Bool, true, List, [], ◌∷◌, length, take, Some, inl, inr, refl, sym, subst, ap, ◌∙◌, arith, get_or}
use Rattle.std.specs.Prelude.{◌==◌, slice_get}
use Rattle.std.specs.List.{All, Contains}
use Rattle.std.proofs.lemmas.Bool.{and_from, cases_lt, eq-eqb}
use Rattle.std.proofs.lemmas.List.{get_or-take}
use Rattle.std.proofs.lemmas.List.Elements.{All-contains, Contains-get_or}
use Rattle.std.proofs.lemmas.Option.{get_or_from_slice_get}
use Rattle.fm_bank.specs.Closure.{Follows, IsClosed, Shape, are_congruent, are_related, object}
use Rattle.fm_cells.specs.Forest.{link_of}
use Rattle.fm_cells.specs.Rings.{own_or}
use Rattle.fm_cells.specs.declared.edge.Cause.{Cause}
use Rattle.fm_cells.proofs.Logging.{logged_more}
use Rattle.fm_cong.specs.Graphs.{Cells, Extends, IsPairBelow, IsWorking, pairs_of}
use Rattle.fm_cong.specs.Paths.{HaveOneClass, IsJustified}
use Rattle.fm_cong.specs.Tables.{AreCongruent, IsKnown, IsLeft}
use Rattle.fm_cong.specs.declared.state.State.{State}
use Rattle.fm_cong.proofs.Entering.{grown_more}
use Rattle.fm_cong.proofs.Forests.{congruence_justified}
use Rattle.fm_cong.proofs.Merging.{follows_back, follows_chain, follows_same}

pub extends_more : (a b c : State) → Extends a b → Extends b c → Extends a c
extends_more a b c p q =
    record {
      class = logged_more a.classes.class.log.items b.classes.class.log.items c.classes.class.log.items a.classes.class.cells.items b.classes.class.cells.items c.classes.class.cells.items p.class q.class;
      next = logged_more a.classes.next.log.items b.classes.next.log.items c.classes.next.log.items a.classes.next.cells.items b.classes.next.cells.items c.classes.next.cells.items p.next q.next;
      size = logged_more a.classes.size.log.items b.classes.size.log.items c.classes.size.log.items a.classes.size.cells.items b.classes.size.cells.items c.classes.size.cells.items p.size q.size;
      links = logged_more a.links.log.items b.links.log.items c.links.log.items a.links.cells.items b.links.cells.items c.links.cells.items p.links q.links;
      table = grown_more a.table.entries b.table.entries c.table.entries p.table q.table;
      facts = q.facts ∙ p.facts;
      entered = q.entered ∙ p.entered;
    }

all_from : {X : Type 0} → (P : X → Type 0) (xs : List X) → ((x : X) → Contains xs x → P x) → All P xs
all_from P xs f k d lt = f (get_or xs k d) (Contains-get_or xs k d lt)

pub all_left : {X : Type 0} → (P : X → Type 0) (xs ys : List X) → ((x : X) → Contains ys x → Contains xs x) → All P xs → All P ys
all_left P xs ys kept all = all_from P ys (λ x h. All-contains P xs x all (kept x h))

-- what is gone needs no waiting
pub working_left : (shapes : List Shape) (c : Cells) (old new : List (ℕ × ℕ)) → IsWorking shapes c old → IsLeft (own_or c.class) old new → IsWorking shapes c new
working_left shapes c old new w l =
    record {
      nexts = w.nexts;
      sizes = w.sizes;
      linked = w.linked;
      known = w.known;
      below = w.below;
      rings = w.rings;
      sound = w.sound;
      forest = w.forest;
      within = w.within;
      entering = record { roots = w.entering.roots; stored = w.entering.stored; waits = all_left (AreCongruent shapes (own_or c.class)) old new l.kept w.entering.waits };
      table = λ k d lt. let e = w.table k d lt in (e.0, e.1, elim e.2 [ inl same ↦ inl same | inr h ↦ l.gone e.0 (object (get_or (take c.entered shapes) k d).number) h ]);
    }

pop_cases : {X : Type 0} → (old new : List X) (last : X) → slice_get old (length old - 1) ≡ Some last → new ≡ take (length old - 1) old → (p : X) → Contains old p → (p ≡ last) ⊎ Contains new p
pop_cases old new last at rest p h =
    elim (cases_lt h.0 (length old - 1)) [
      | inl lt ↦ inr (subst (λ xs. Contains xs p) (sym rest) (h.0, in_take old (length old - 1) h.0 lt h.1, get_or-take (length old - 1) old h.0 p lt ∙ h.2))
      | inr past ↦
          let k : h.0 ≡ length old - 1 = omega (arith, past, h.1) in
          inl (sym h.2 ∙ get_or_from_slice_get old h.0 last p (ap (slice_get old) k ∙ at))
    ]
  where
    in_take : {X : Type 0} → (xs : List X) (n k : ℕ) → k < n → k < length xs → k < length (take n xs)
    in_take [] n k a b = absurd (omega (arith, b))
    in_take (x ∷ xs) zero k a b = absurd (omega (arith, a))
    in_take (x ∷ xs) (suc n) zero a b = omega arith
    in_take (x ∷ xs) (suc n) (suc k) a b = let r = in_take xs n k (omega (arith, a)) (omega (arith, b)) in omega (arith, r)

contains_take : {X : Type 0} → (xs : List X) (n : ℕ) (p : X) → Contains (take n xs) p → Contains xs p
contains_take xs n p h = let b = bounds xs n h.0 h.1 in (h.0, b.1, sym (get_or-take n xs h.0 p b.0) ∙ h.2)
  where
    bounds : {X : Type 0} → (xs : List X) (n k : ℕ) → k < length (take n xs) → (k < n) × (k < length xs)
    bounds [] zero k a = absurd (omega (arith, a))
    bounds [] (suc n) k a = absurd (omega (arith, a))
    bounds (x ∷ xs) zero k a = absurd (omega (arith, a))
    bounds (x ∷ xs) (suc n) zero a = (omega arith, omega arith)
    bounds (x ∷ xs) (suc n) (suc k) a = let r = bounds xs n k (omega (arith, a)) in (omega (arith, r.0), omega (arith, r.1))

pub left_none : (class : ℕ → ℕ) (xs : List (ℕ × ℕ)) → IsLeft class xs xs
left_none class xs = record { kept = λ p h. h; gone = λ u v h. inr h }

-- the last pair goes, its nodes being of one class
pub left_pop : (class : ℕ → ℕ) (first old new : List (ℕ × ℕ)) (last : ℕ × ℕ) → IsLeft class first old → slice_get old (length old - 1) ≡ Some last → new ≡ take (length old - 1) old → class last.0 ≡ class last.1 → IsLeft class first new
left_pop class first old new last l at rest same =
    record {
      kept = λ p h. l.kept p (contains_take old (length old - 1) p (subst (λ xs. Contains xs p) rest h));
      gone = λ u v h. elim (l.gone u v h) [
        | inl e ↦ inl e
        | inr there ↦ elim (pop_cases old new last at rest (u, v) there) [
          | inl e ↦ inl (ap (λ (p : ℕ × ℕ). class p.0) e ∙ (same ∙ ap (λ (p : ℕ × ℕ). class p.1) (sym e)))
          | inr k ↦ inr k
        ]
      ];
    }

pub below_pop : (count : ℕ) (old new : List (ℕ × ℕ)) → new ≡ take (length old - 1) old → All (IsPairBelow count) old → All (IsPairBelow count) new
below_pop count old new rest all = all_left (IsPairBelow count) old new (λ p h. contains_take old (length old - 1) p (subst (λ xs. Contains xs p) rest h)) all

module _ (shapes : List Shape) (c : Cells) (waiting : List (ℕ × ℕ)) (w : IsWorking shapes c waiting) where
  pair_below : (p : ℕ × ℕ) → AreCongruent shapes (own_or c.class) p → IsPairBelow (length c.class) p
  pair_below p g =
      let a = (All-contains (IsKnown (length c.class)) shapes g.left w.known g.left_in).node in
      let b = (All-contains (IsKnown (length c.class)) shapes g.right w.known g.right_in).node in
      (subst (λ (z : ℕ). z < length c.class) (sym g.left_is) a, subst (λ (z : ℕ). z < length c.class) (sym g.right_is) b)

  pub waiting_below : All (IsPairBelow (length c.class)) waiting
  waiting_below = λ k d lt. pair_below (get_or waiting k d) (w.entering.waits k d lt)

  module _ (p : ℕ × ℕ) (there : Contains waiting p) where
    congruent : AreCongruent shapes (own_or c.class) p
    congruent = All-contains (AreCongruent shapes (own_or c.class)) waiting p w.entering.waits there

    pub pair_is_below : IsPairBelow (length c.class) p
    pair_is_below = pair_below p congruent

    pub pair_justified : IsJustified shapes c.facts (link_of c.links) Cause.Congruence c.time p.0 p.1
    pair_justified =
        let g = congruent in
        let j = congruence_justified shapes c.facts (link_of c.links) (own_or c.class) c.time w.forest g.left g.right g.left_in g.right_in g.symbols g.args in
        subst (λ (z : ℕ). IsJustified shapes c.facts (link_of c.links) Cause.Congruence c.time z p.1) (sym g.left_is) (subst (λ (z : ℕ). IsJustified shapes c.facts (link_of c.links) Cause.Congruence c.time (object g.left.number) z) (sym g.right_is) j)

    related : (R : ℕ → ℕ → Bool) → IsClosed shapes (pairs_of c.facts) R → (xs ys : List ℕ) → HaveOneClass (own_or c.class) xs ys → are_related R xs ys ≡ true
    related R r [] [] h = refl
    related R r [] (y ∷ ys) h = absurd h
    related R r (x ∷ xs) [] h = absurd h
    related R r (x ∷ xs) (y ∷ ys) h =
        let ps = pairs_of c.facts in
        let one = follows_chain shapes ps (object x) (own_or c.class (object x)) (object y) (w.sound (object x)) (follows_chain shapes ps (own_or c.class (object x)) (own_or c.class (object y)) (object y) (follows_same shapes ps (own_or c.class (object x)) (own_or c.class (object y)) h.0) (follows_back shapes ps (object y) (own_or c.class (object y)) (w.sound (object y)))) in
        and_from (R (object x) (object y)) (are_related R xs ys) (one R r) (related R r xs ys h.1)

    pub pair_follows : Follows shapes (pairs_of c.facts) p.0 p.1
    pair_follows = λ R r.
        let g = congruent in
        let alike = and_from (g.left.symbol == g.right.symbol) (are_related R g.left.args g.right.args) (eq-eqb g.left.symbol g.right.symbol g.symbols) (related R r g.left.args g.right.args g.args) in
        let inner = All-contains (λ (a : Shape). All (λ (b : Shape). are_congruent R a b ≡ true → R (object a.number) (object b.number) ≡ true) shapes) shapes g.left r.congruent g.left_in in
        let one = All-contains (λ (b : Shape). are_congruent R g.left b ≡ true → R (object g.left.number) (object b.number) ≡ true) shapes g.right inner g.right_in alike in
        subst (λ (z : ℕ). R z p.1 ≡ true) (sym g.left_is) (subst (λ (z : ℕ). R (object g.left.number) z ≡ true) (sym g.right_is) one)
