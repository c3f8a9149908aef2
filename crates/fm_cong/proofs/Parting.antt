-- What the index of the false equalities says of two classes.
use Rattle.std.proofs.Common.{◌≡◌, ℕ, zero, suc, ◌<◌, ◌||◌, ◌⊎◌, Bool, true, false, List, [], ◌∷◌, length, map, Option, Some, None, inl, inr, refl, sym, subst, ap, ◌∙◌, arith, cond, get_or}
use Rattle.std.specs.Prelude.{◌==◌, ◌&&◌}
use Rattle.std.specs.List.{Contains, cons_option}
use Rattle.std.proofs.lemmas.Bool.{cases_Bool, eq-eqb, eqb-true, false≢true, or_cases, or_left, or_right}
use Rattle.std.proofs.lemmas.List.Elements.{All-contains}
use Rattle.fm_base.specs.declared.ids.TermId.{TermId}
use Rattle.fm_bank.specs.Closure.{object}
use Rattle.fm_cells.specs.Apart.{AreKeys, HasRoots, IsEntered, IsIndexed, is_key, left_node, right_node}
use Rattle.fm_cells.specs.Rings.{own_or}
use Rattle.fm_cells.specs.declared.apart.Apart.{Apart}
use Rattle.fm_cong.specs.Clashes.{first_equal, is_joined}
use Rattle.fm_cong.specs.Facts.{are_parted, is_between, is_parted, numbers_of_pair, unequal_by, unequal_of}
use Rattle.fm_cong.specs.Tracked.{HasPairsOf}
use Rattle.fm_cong.specs.declared.fact.Fact.{Fact}

and_both : (a b : Bool) → (a && b) ≡ true → (a ≡ true) × (b ≡ true)
and_both true b h = (refl, h)
and_both false b h = absurd (false≢true h)

and_made : (a b : Bool) → a ≡ true → b ≡ true → (a && b) ≡ true
and_made true b p q = q
and_made false b p q = absurd (false≢true p)

bool_same : (a b : Bool) → (a ≡ true → b ≡ true) → (b ≡ true → a ≡ true) → a ≡ b
bool_same true true p q = refl
bool_same true false p q = sym (p refl)
bool_same false true p q = q refl
bool_same false false p q = refl

contains_next : {X : Type 0} → (y : X) (xs : List X) (x : X) → Contains xs x → Contains (y ∷ xs) x
contains_next y xs x h = (suc h.0, omega (arith, h.1), h.2)

-- a pair of the list, and what is known of it
record HasOne (P : ℕ × ℕ → Type 0) (ps : List (ℕ × ℕ)) : Type 0 where
  pub pair : ℕ × ℕ
  pub there : Contains ps pair
  pub is : P pair

one_next : (P : ℕ × ℕ → Type 0) (o : Option (ℕ × ℕ)) (ps : List (ℕ × ℕ)) → HasOne P ps → HasOne P (cons_option o ps)
one_next P None ps h = h
one_next P (Some q) ps h = record { pair = h.pair; there = contains_next q ps h.pair h.there; is = h.is }

module _ (cells : List ℕ) (x y : ℕ) where
  abbrev IsBetweenEither : ℕ × ℕ → Type 0
  IsBetweenEither p = (is_between (own_or cells) x y p ≡ true) ⊎ (is_between (own_or cells) y x p ≡ true)

  parted_one : (o : Option (ℕ × ℕ)) (ps : List (ℕ × ℕ)) (rest : Bool) → (rest ≡ true → HasOne IsBetweenEither ps) → (is_parted cells x y o || rest) ≡ true → HasOne IsBetweenEither (cons_option o ps)
  parted_one None ps rest f h = f h
  parted_one (Some p) ps rest f h =
      elim (or_cases (is_parted cells x y (Some p)) rest h) [
        | inl here ↦ record { pair = p; there = (zero, omega arith, refl); is = or_cases (is_between (own_or cells) x y p) (is_between (own_or cells) y x p) here }
        | inr there ↦ one_next IsBetweenEither (Some p) ps (f there)
      ]

  parted_has : (facts : List Fact) → are_parted cells x y facts ≡ true → HasOne IsBetweenEither (unequal_of facts)
  parted_has [] h = absurd (false≢true h)
  parted_has (f ∷ facts) h = parted_one (unequal_by f) (unequal_of facts) (are_parted cells x y facts) (parted_has facts) h

  one_parted : (o : Option (ℕ × ℕ)) (ps : List (ℕ × ℕ)) (rest : Bool) → (HasOne IsBetweenEither ps → rest ≡ true) → HasOne IsBetweenEither (cons_option o ps) → (is_parted cells x y o || rest) ≡ true
  one_parted None ps rest f h = f h
  one_parted (Some p) ps rest f h = at_place h.there.0 h.there.1 h.there.2
    where
      at_place : (k : ℕ) → k < length (p ∷ ps) → get_or (p ∷ ps) k h.pair ≡ h.pair → (is_parted cells x y (Some p) || rest) ≡ true
      at_place zero lt e =
          let left = is_between (own_or cells) x y p in
          let right = is_between (own_or cells) y x p in
          let here : IsBetweenEither p = subst IsBetweenEither (sym e) h.is in
          or_left (left || right) rest (elim here [ inl a ↦ or_left left right a | inr b ↦ or_right left right b ])
      at_place (suc k) lt e = or_right (is_parted cells x y (Some p)) rest (f (record { pair = h.pair; there = (k, omega (arith, lt), e); is = h.is }))

  has_parted : (facts : List Fact) → HasOne IsBetweenEither (unequal_of facts) → are_parted cells x y facts ≡ true
  has_parted [] h = absurd (omega (arith, h.there.1))
  has_parted (f ∷ facts) h = one_parted (unequal_by f) (unequal_of facts) (are_parted cells x y facts) (has_parted facts) h

record HasNumbers (ps : List (TermId × TermId)) (p : ℕ × ℕ) : Type 0 where
  pub pair : TermId × TermId
  pub there : Contains ps pair
  pub is : numbers_of_pair pair ≡ p

numbers_there : (ps : List (TermId × TermId)) (p : ℕ × ℕ) → Contains (map numbers_of_pair ps) p → HasNumbers ps p
numbers_there [] p h = absurd (omega (arith, h.1))
numbers_there (q ∷ ps) p h = at_place (numbers_there ps p) h.0 h.1 h.2
  where
    at_place : (Contains (map numbers_of_pair ps) p → HasNumbers ps p) → (k : ℕ) → k < length (map numbers_of_pair (q ∷ ps)) → get_or (map numbers_of_pair (q ∷ ps)) k p ≡ p → HasNumbers (q ∷ ps) p
    at_place rest zero lt e = record { pair = q; there = (zero, omega arith, refl); is = e }
    at_place rest (suc k) lt e = let r = rest (k, omega (arith, lt), e) in record { pair = r.pair; there = contains_next q ps r.pair r.there; is = r.is }

there_numbers : (ps : List (TermId × TermId)) (q : TermId × TermId) → Contains ps q → Contains (map numbers_of_pair ps) (numbers_of_pair q)
there_numbers [] q h = absurd (omega (arith, h.1))
there_numbers (p ∷ ps) q h = at_place (there_numbers ps q) h.0 h.1 h.2
  where
    at_place : (Contains ps q → Contains (map numbers_of_pair ps) (numbers_of_pair q)) → (k : ℕ) → k < length (p ∷ ps) → get_or (p ∷ ps) k q ≡ q → Contains (map numbers_of_pair (p ∷ ps)) (numbers_of_pair q)
    at_place rest zero lt e = (zero, omega arith, ap numbers_of_pair e)
    at_place rest (suc k) lt e = contains_next (numbers_of_pair p) (map numbers_of_pair ps) (numbers_of_pair q) (rest (k, omega (arith, lt), e))

module _ (cells : List ℕ) (facts : List Fact) (a : Apart) (of : HasPairsOf facts a) (keys : AreKeys (own_or cells) a.pairs.items a.sides.items a.keys.keys a.joined) where
  abbrev class : ℕ → ℕ
  class = own_or cells

  module _ (roots : HasRoots (own_or cells)) where
    key_between : (x y : ℕ) → is_key a.keys.keys (class x) (class y) ≡ true → (p : ℕ × ℕ) × Contains (unequal_of facts) p × (is_between class x y p ≡ true)
    key_between x y h =
        let r = keys.sound (class x) (class y) h in
        (numbers_of_pair r.pair, subst (λ (ps : List (ℕ × ℕ)). Contains ps (numbers_of_pair r.pair)) of (there_numbers a.pairs.items r.pair r.there), and_made (class x == class (left_node r.pair)) (class y == class (right_node r.pair)) (eq-eqb (class x) (class (left_node r.pair)) (sym (roots x) ∙ r.left)) (eq-eqb (class y) (class (right_node r.pair)) (sym (roots y) ∙ r.right)))

    between_key : (x y : ℕ) (p : ℕ × ℕ) → Contains (unequal_of facts) p → is_between class x y p ≡ true → is_key a.keys.keys (class x) (class y) ≡ true
    between_key x y p there h =
        let r = numbers_there a.pairs.items p (subst (λ (ps : List (ℕ × ℕ)). Contains ps p) (sym of) there) in
        let b = and_both (class x == class (object p.0)) (class y == class (object p.1)) h in
        let e = All-contains (IsEntered class a.keys.keys a.joined) a.pairs.items r.pair keys.entered r.there in
        let left : class (left_node r.pair) ≡ class x = ap (λ (q : ℕ × ℕ). class (object q.0)) r.is ∙ sym (eqb-true (class x) (class (object p.0)) b.0) in
        let right : class (right_node r.pair) ≡ class y = ap (λ (q : ℕ × ℕ). class (object q.1)) r.is ∙ sym (eqb-true (class y) (class (object p.1)) b.1) in
        (λ i. is_key a.keys.keys (sym left i) (sym right i)) ∙ e.key

    pub parted_by_keys : (x y : ℕ) → (is_key a.keys.keys (class x) (class y) || is_key a.keys.keys (class y) (class x)) ≡ are_parted cells x y facts
    parted_by_keys x y =
        let here = is_key a.keys.keys (class x) (class y) in
        let there = is_key a.keys.keys (class y) (class x) in
        bool_same (here || there) (are_parted cells x y facts)
        (λ h. has_parted cells x y facts (elim (or_cases here there h) [
          | inl k ↦ let r = key_between x y k in record { pair = r.0; there = r.1; is = inl r.2 }
          | inr k ↦ let r = key_between y x k in record { pair = r.0; there = r.1; is = inr r.2 }
        ]))
        (λ h. let r = parted_has cells x y facts h in elim r.is [
          | inl k ↦ or_left here there (between_key x y r.pair r.there k)
          | inr k ↦ or_right here there (between_key y x r.pair r.there k)
        ])

  -- where no sides are told to be joined, none are
  module _ (off : a.joined ≡ false) where
    not_joined : (p : ℕ × ℕ) → Contains (unequal_of facts) p → class (object p.0) ≡ class (object p.1) → ⊥
    not_joined p there same =
        let r = numbers_there a.pairs.items p (subst (λ (ps : List (ℕ × ℕ)). Contains ps p) (sym of) there) in
        let e = All-contains (IsEntered class a.keys.keys a.joined) a.pairs.items r.pair keys.entered r.there in
        false≢true (sym off ∙ e.joins (ap (λ (q : ℕ × ℕ). class (object q.0)) r.is ∙ (same ∙ ap (λ (q : ℕ × ℕ). class (object q.1)) (sym r.is))))

none_equal : (cells : List ℕ) (facts : List Fact) → ((p : ℕ × ℕ) → Contains (unequal_of facts) p → own_or cells (object p.0) ≡ own_or cells (object p.1) → ⊥) → first_equal cells facts ≡ None
none_equal cells [] h = refl
none_equal cells (f ∷ facts) h = by_sides (unequal_by f) (unequal_of facts) (none_equal cells facts) h
  where
    by_sides : (o : Option (ℕ × ℕ)) (ps : List (ℕ × ℕ)) → (((p : ℕ × ℕ) → Contains ps p → own_or cells (object p.0) ≡ own_or cells (object p.1) → ⊥) → first_equal cells facts ≡ None) → ((p : ℕ × ℕ) → Contains (cons_option o ps) p → own_or cells (object p.0) ≡ own_or cells (object p.1) → ⊥) → cond (is_joined cells o) (Some f.lit.atom) (first_equal cells facts) ≡ None
    by_sides None ps rest h = rest h
    by_sides (Some p) ps rest h =
        elim (cases_Bool (own_or cells (object p.0) == own_or cells (object p.1))) [
          | inl t ↦ absurd (h p (zero, omega arith, refl) (eqb-true (own_or cells (object p.0)) (own_or cells (object p.1)) t))
          | inr n ↦ ap (λ b. cond b (Some f.lit.atom) (first_equal cells facts)) n ∙ rest (λ q k. h q (contains_next p ps q k))
        ]

pub none_joined : (cells : List ℕ) (facts : List Fact) (a : Apart) → HasPairsOf facts a → IsIndexed (own_or cells) a → a.whole ≡ true → a.joined ≡ false → first_equal cells facts ≡ None
none_joined cells facts a of h whole off = none_equal cells facts (not_joined cells facts a of (h whole) off)
