-- What the first clash by the classes of a settled state says.
use Rattle.std.proofs.Common.{◌≡◌, ◌↔◌, ℕ, zero, suc, ◌<◌, ◌⊎◌, Bool, true, false, cond, List, [], ◌∷◌, length, Option, Some, None, inl, inr, refl, sym, subst, ap, ◌∙◌, arith, get_or}
use Rattle.std.specs.Prelude.{◌==◌, IfSome, IfNone}
use Rattle.std.specs.List.{All, Contains, cons_option}
use Rattle.std.proofs.lemmas.Bool.{cases_Bool, eq-eqb, eqb-true, false≢true, ne_eqb}
use Rattle.std.proofs.lemmas.List.Elements.{All-contains, All-head, All-tail}
use Rattle.fm_base.specs.declared.ids.AtomId.{AtomId}
use Rattle.fm_base.specs.declared.ids.TermId.{TermId}
use Rattle.fm_bank.specs.Closure.{no as the_no, object, yes as the_yes}
use Rattle.fm_bank.specs.declared.atom.Atom.{Atom}
use Rattle.fm_cells.specs.Rings.{own_or}
use Rattle.fm_cong.specs.Clashes.{AreHeld, HasEqualSides, HasNoClash, HaveTwoTruths, IsClash, IsRead, clash_else, first_clash, first_equal, first_term, is_joined, term_by, term_else, term_read, truths_by, two_truths}
use Rattle.fm_cong.specs.Facts.{AreAtomsBelow, IsAtomBelow, joined_by, pairs_of, sides, unequal_by}
use Rattle.fm_cong.specs.Held.{AreEqual, Held}
use Rattle.fm_cong.specs.declared.clash.Clash.{Clash}
use Rattle.fm_cong.specs.declared.fact.Fact.{Fact}

contains_more : (f : Fact) (facts : List Fact) (x : Fact) → Contains facts x → Contains (f ∷ facts) x
contains_more f facts x h = (suc h.0, omega (arith, h.1), h.2)

cons_cases : (f : Fact) (facts : List Fact) (x : Fact) → Contains (f ∷ facts) x → (f ≡ x) ⊎ Contains facts x
cons_cases f facts x c = at_place c.0 c.1 c.2
  where
    at_place : (k : ℕ) → k < length (f ∷ facts) → get_or (f ∷ facts) k x ≡ x → (f ≡ x) ⊎ Contains facts x
    at_place zero lt e = inl e
    at_place (suc k) lt e = inr (k, omega (arith, lt), e)

none_some : {X : Type 0} → (o : Option X) (x : X) → o ≡ None → o ≡ Some x → ⊥
none_some o x p q = absurd cc

some_one : {X : Type 0} → (o : Option X) (x y : X) → o ≡ Some x → o ≡ Some y → x ≡ y
some_one o x y p q = cc

-- the first false equality with equal sides
record IsFound (cells : List ℕ) (facts : List Fact) (k : AtomId) : Type 0 where
  pub fact : Fact
  pub read : Contains facts fact
  pub atom_is : fact.lit.atom ≡ k
  pub joined : is_joined cells (unequal_by fact) ≡ true

found_equal : (cells : List ℕ) (facts : List Fact) (k : AtomId) → first_equal cells facts ≡ Some k → IsFound cells facts k
found_equal cells [] k h = absurd (none_some None k refl h)
found_equal cells (f ∷ facts) k h =
    elim (cases_Bool (is_joined cells (unequal_by f))) [
      | inl t ↦
          let same : Some f.lit.atom ≡ Some k = ap (λ b. cond b (Some f.lit.atom) (first_equal cells facts)) (sym t) ∙ h in
          record { fact = f; read = (zero, omega arith, refl); atom_is = some_one (Some f.lit.atom) f.lit.atom k refl same; joined = t }
      | inr n ↦
          let r = found_equal cells facts k (ap (λ b. cond b (Some f.lit.atom) (first_equal cells facts)) (sym n) ∙ h) in
          record { fact = r.fact; read = contains_more f facts r.fact r.read; atom_is = r.atom_is; joined = r.joined }
    ]

no_equal : (cells : List ℕ) (facts : List Fact) → first_equal cells facts ≡ None → (x : Fact) → Contains facts x → is_joined cells (unequal_by x) ≡ true → ⊥
no_equal cells [] h x c j = omega (arith, c.1)
no_equal cells (f ∷ facts) h x c j =
    elim (cases_Bool (is_joined cells (unequal_by f))) [
      | inl t ↦ none_some (first_equal cells (f ∷ facts)) f.lit.atom h (ap (λ b. cond b (Some f.lit.atom) (first_equal cells facts)) t)
      | inr n ↦ elim (cons_cases f facts x c) [
        | inl e ↦ false≢true (sym n ∙ (ap (λ (y : Fact). is_joined cells (unequal_by y)) e ∙ j))
        | inr rest ↦ no_equal cells facts (ap (λ b. cond b (Some f.lit.atom) (first_equal cells facts)) (sym n) ∙ h) x rest j
      ]
    ]

pair_of : (cells : List ℕ) (o : Option (ℕ × ℕ)) → is_joined cells o ≡ true → (p : ℕ × ℕ) × (o ≡ Some p) × (own_or cells (object p.0) ≡ own_or cells (object p.1))
pair_of cells None h = absurd (false≢true h)
pair_of cells (Some p) h = (p, refl, eqb-true (own_or cells (object p.0)) (own_or cells (object p.1)) h)

joined_pair : (cells : List ℕ) (o : Option (ℕ × ℕ)) (p : ℕ × ℕ) → o ≡ Some p → own_or cells (object p.0) ≡ own_or cells (object p.1) → is_joined cells o ≡ true
joined_pair cells o p e same = ap (is_joined cells) e ∙ eq-eqb (own_or cells (object p.0)) (own_or cells (object p.1)) same

-- the first term read with a sign

record IsTermRead (sign : Bool) (facts : List Fact) (t : TermId) : Type 0 where
  pub fact : Fact
  pub read : Contains facts fact
  pub term_is : term_read sign fact ≡ Some t

found_term : (sign : Bool) (facts : List Fact) (t : TermId) → first_term sign facts ≡ Some t → IsTermRead sign facts t
found_term sign [] t h = absurd (none_some None t refl h)
found_term sign (f ∷ facts) t h = by_term (found_term sign facts t) (term_read sign f) refl h
  where
    by_term : (first_term sign facts ≡ Some t → IsTermRead sign facts t) → (o : Option TermId) → term_read sign f ≡ o → term_else o (first_term sign facts) ≡ Some t → IsTermRead sign (f ∷ facts) t
    by_term rest None e k = let r = rest k in record { fact = r.fact; read = contains_more f facts r.fact r.read; term_is = r.term_is }
    by_term rest (Some u) e k = record { fact = f; read = (zero, omega arith, refl); term_is = e ∙ k }

no_term : (sign : Bool) (facts : List Fact) (t : TermId) → first_term sign facts ≡ None → IsTermRead sign facts t → ⊥
no_term sign [] t h r = omega (arith, r.read.1)
no_term sign (f ∷ facts) t h r = by_term (no_term sign facts t) (term_read sign f) refl h
  where
    by_term : (first_term sign facts ≡ None → IsTermRead sign facts t → ⊥) → (o : Option TermId) → term_read sign f ≡ o → term_else o (first_term sign facts) ≡ None → ⊥
    by_term rest None e k =
        elim (cons_cases f facts r.fact r.read) [
          | inl same ↦ none_some (term_read sign f) t e (ap (term_read sign) same ∙ r.term_is)
          | inr there ↦ rest k (record { fact = r.fact; read = there; term_is = r.term_is })
        ]
    by_term rest (Some u) e k = none_some (Some u) u k refl

-- the object with which a literal of this sign joins its term
abbrev truth_object : Bool → ℕ
truth_object sign = cond sign the_yes the_no

joins_truth : (sign : Bool) (a : Atom) (positive : Bool) (t : TermId) → term_by sign a positive ≡ Some t → sides a positive ≡ Some (object t.0, truth_object sign)
joins_truth true (Atom.Pred u) true t h = ap (λ (o : Option TermId). with_object o) h
  where
    with_object : Option TermId → Option (ℕ × ℕ)
    with_object None = None
    with_object (Some x) = Some (object x.0, the_yes)
joins_truth true (Atom.Pred u) false t h = absurd (none_some None t refl h)
joins_truth false (Atom.Pred u) true t h = absurd (none_some None t refl h)
joins_truth false (Atom.Pred u) false t h = ap (λ (o : Option TermId). with_object o) h
  where
    with_object : Option TermId → Option (ℕ × ℕ)
    with_object None = None
    with_object (Some x) = Some (object x.0, the_no)
joins_truth sign (Atom.Equal a b) positive t h = absurd (none_some None t refl h)
joins_truth sign (Atom.Card s k) positive t h = absurd (none_some None t refl h)
joins_truth sign (Atom.Bound n) positive t h = absurd (none_some None t refl h)

module _ (P : ℕ × ℕ → Type 0) where
  pair_head : (o : Option (ℕ × ℕ)) (rest : List (ℕ × ℕ)) (p : ℕ × ℕ) → o ≡ Some p → All P (cons_option o rest) → P p
  pair_head None rest p e h = absurd (none_some None p refl e)
  pair_head (Some q) rest p e h = subst P (some_one (Some q) q p refl e) (All-head P q rest h)

  pair_tail : (o : Option (ℕ × ℕ)) (rest : List (ℕ × ℕ)) → All P (cons_option o rest) → All P rest
  pair_tail None rest h = h
  pair_tail (Some q) rest h = All-tail P q rest h

  -- what holds of each pair that the facts join holds of the pair of each fact
  pub held_by : (facts : List Fact) → All P (pairs_of facts) → (f : Fact) → Contains facts f → (p : ℕ × ℕ) → joined_by f ≡ Some p → P p
  held_by [] h f c p e = absurd (omega (arith, c.1))
  held_by (g ∷ facts) h f c p e =
      elim (cons_cases g facts f c) [
        | inl same ↦ pair_head (joined_by g) (pairs_of facts) p (ap joined_by same ∙ e) h
        | inr there ↦ held_by facts (pair_tail (joined_by g) (pairs_of facts) h) f there p e
      ]

-- the node of such a term is one of those that have a class
below_by : (sign : Bool) (count : ℕ) (a : Atom) (positive : Bool) (t : TermId) → term_by sign a positive ≡ Some t → IsAtomBelow count a → object t.0 < count
below_by true count (Atom.Pred u) true t h b = subst (λ (x : TermId). object x.0 < count) (some_one (Some u) u t refl h) b
below_by true count (Atom.Pred u) false t h b = absurd (none_some None t refl h)
below_by false count (Atom.Pred u) true t h b = absurd (none_some None t refl h)
below_by false count (Atom.Pred u) false t h b = subst (λ (x : TermId). object x.0 < count) (some_one (Some u) u t refl h) b
below_by sign count (Atom.Equal c d) positive t h b = absurd (none_some None t refl h)
below_by sign count (Atom.Card s k) positive t h b = absurd (none_some None t refl h)
below_by sign count (Atom.Bound n) positive t h b = absurd (none_some None t refl h)

term_below : (sign : Bool) (count : ℕ) (facts : List Fact) (t : TermId) → AreAtomsBelow count facts → first_term sign facts ≡ Some t → object t.0 < count
term_below sign count facts t all h =
    let r = found_term sign facts t h in
    below_by sign count r.fact.atom r.fact.lit.positive t r.term_is (All-contains (λ (f : Fact). IsAtomBelow count f.atom) facts r.fact all r.read)

pub terms_below : (sign : Bool) (count : ℕ) (facts : List Fact) (o : Option TermId) → o ≡ first_term sign facts → AreAtomsBelow count facts → IfSome o (λ (t : TermId). object t.0 < count)
terms_below sign count facts None e all = tt
terms_below sign count facts (Some t) e all = term_below sign count facts t all (sym e)

module _ (cells : List ℕ) (facts : List Fact) (holds : AreHeld cells facts) where
  truth_of_term : (sign : Bool) (t : TermId) → first_term sign facts ≡ Some t → own_or cells (object t.0) ≡ own_or cells (truth_object sign)
  truth_of_term sign t e =
      let r = found_term sign facts t e in
      held_by (λ p. own_or cells p.0 ≡ own_or cells p.1) facts holds r.fact r.read (object t.0, truth_object sign) (joins_truth sign r.fact.atom r.fact.lit.positive t r.term_is)

  -- where yes and no are of two classes, so are a true and a false term
  pub apart_truths : (own_or cells the_yes ≡ own_or cells the_no → ⊥) → truths_by cells facts ≡ None
  apart_truths ne = go (first_term true facts) (first_term false facts) refl refl
    where
      go : (o r : Option TermId) → first_term true facts ≡ o → first_term false facts ≡ r → two_truths cells o r ≡ None
      go None r e k = refl
      go (Some p) None e k = refl
      go (Some p) (Some q) e k =
          ap (λ b. cond b (Some (Clash.Truth p q)) None) (ne_eqb (own_or cells (object p.0)) (own_or cells (object q.0)) (λ same. ne (sym (truth_of_term true p e) ∙ (same ∙ truth_of_term false q k))))

module _ (g : Held) (cells : List ℕ) (exact : (x y : ℕ) → (own_or cells x ≡ own_or cells y) ↔ AreEqual g x y) (holds : All (λ (p : ℕ × ℕ). own_or cells p.0 ≡ own_or cells p.1) (pairs_of g.facts)) where
  with_truth : (sign : Bool) (t : TermId) → IsTermRead sign g.facts t → own_or cells (object t.0) ≡ own_or cells (truth_object sign)
  with_truth sign t r = held_by (λ p. own_or cells p.0 ≡ own_or cells p.1) g.facts holds r.fact r.read (object t.0, truth_object sign) (joins_truth sign r.fact.atom r.fact.lit.positive t r.term_is)

  equal_clash : (k : AtomId) → first_equal cells g.facts ≡ Some k → HasEqualSides g k
  equal_clash k h =
      let r = found_equal cells g.facts k h in
      let p = pair_of cells (unequal_by r.fact) r.joined in
      record { fact = r.fact; read = r.read; atom_is = r.atom_is; left = p.0.0; right = p.0.1; sides = p.1; equal = (exact (object p.0.0) (object p.0.1)).0 p.2 }

  no_equal_clash : (k : AtomId) → first_equal cells g.facts ≡ None → HasEqualSides g k → ⊥
  no_equal_clash k h r = no_equal cells g.facts h r.fact r.read (joined_pair cells (unequal_by r.fact) (r.left, r.right) r.sides ((exact (object r.left) (object r.right)).1 r.equal))

  read_in : (sign : Bool) (t : TermId) → IsRead g sign t → IsTermRead sign g.facts t
  read_in sign t r = record { fact = r.fact; read = r.read; term_is = r.term_is }

  told : (sign : Bool) (t : TermId) → first_term sign g.facts ≡ Some t → IsRead g sign t
  told sign t h = let r = found_term sign g.facts t h in record { fact = r.fact; read = r.read; term_is = r.term_is }

  abbrev ClashIs : Option Clash → Type 0
  ClashIs o = IfSome o (IsClash g) × (o ≡ None → (p q : TermId) → HaveTwoTruths g p q → ⊥)

  truths : (o r : Option TermId) → first_term true g.facts ≡ o → first_term false g.facts ≡ r → ClashIs (two_truths cells o r)
  truths None r e k = (tt, λ none p q h. no_term true g.facts p e (read_in true p h.holds))
  truths (Some p) None e k = (tt, λ none u v h. no_term false g.facts v k (read_in false v h.fails))
  truths (Some p) (Some q) e k =
      elim (cases_Bool (own_or cells (object p.0) == own_or cells (object q.0))) [
        | inl t ↦
            let is : two_truths cells (Some p) (Some q) ≡ Some (Clash.Truth p q) = ap (λ b. cond b (Some (Clash.Truth p q)) None) t in
            subst ClashIs (sym is) (record { holds = told true p e; fails = told false q k; equal = (exact (object p.0) (object q.0)).0 (eqb-true (own_or cells (object p.0)) (own_or cells (object q.0)) t) }, λ none u v h. none_some (Some (Clash.Truth p q)) (Clash.Truth p q) none refl)
        | inr n ↦
            let is : two_truths cells (Some p) (Some q) ≡ None = ap (λ b. cond b (Some (Clash.Truth p q)) None) n in
            subst ClashIs (sym is) (tt, λ none u v h. apart n u v h)
      ]
    where
      apart : (own_or cells (object p.0) == own_or cells (object q.0)) ≡ false → (u v : TermId) → HaveTwoTruths g u v → ⊥
      apart n u v h =
          let pu = with_truth true p (found_term true g.facts p e) ∙ sym (with_truth true u (read_in true u h.holds)) in
          let qv = with_truth false q (found_term false g.facts q k) ∙ sym (with_truth false v (read_in false v h.fails)) in
          false≢true (sym n ∙ eq-eqb (own_or cells (object p.0)) (own_or cells (object q.0)) (pu ∙ ((exact (object u.0) (object v.0)).1 h.equal ∙ sym qv)))

  pub record ClashTold (o : Option Clash) : Type 0 where
    pub some : IfSome o (IsClash g)
    pub none : IfNone o (HasNoClash g)

  either : (o : Option AtomId) (rest : Option Clash) → first_equal cells g.facts ≡ o → ClashIs rest → ClashTold (clash_else o rest)
  either (Some k) rest e h = record { some = equal_clash k e; none = tt }
  either None None e h = record { some = tt; none = no_clash e (h.1 refl) }
    where
      no_clash : first_equal cells g.facts ≡ None → ((p q : TermId) → HaveTwoTruths g p q → ⊥) → HasNoClash g
      no_clash e n (Clash.Facts k) c = no_equal_clash k e c
      no_clash e n (Clash.Truth p q) c = n p q c
  either None (Some c) e h = record { some = h.0; none = tt }

  pub clash_told : (o : Option Clash) → o ≡ first_clash cells g.facts → ClashTold o
  clash_told o e = subst ClashTold (sym e) (either (first_equal cells g.facts) (truths_by cells g.facts) refl (truths (first_term true g.facts) (first_term false g.facts) refl refl))
