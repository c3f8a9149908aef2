-- A graph has a clash exactly where the literals that it has read have one.
use Rattle.std.proofs.Common.{◌≡◌, ℕ, ◌⊎◌, Bool, true, false, not, ◌&&◌, ◌||◌, if◌then◌else◌, List, Some, inl, inr, refl, sym, ap, subst, ◌∙◌, arith}
use Rattle.std.specs.Prelude.{◌==◌}
use Rattle.std.specs.List.{All, list_any}
use Rattle.std.proofs.lemmas.Bool.{and_from, and_parts, cases_Bool, eq-eqb, eqb-true, false_from_ne_true, false≢true, ne_eqb, or_cases, or_left, or_right}
use Rattle.fm_base.specs.Resolution.{Has}
use Rattle.fm_base.specs.declared.ids.TermId.{TermId}
use Rattle.fm_bank.specs.Closure.{AreMerged, Follows, IsClosed, Shape, no, object, yes}
use Rattle.fm_bank.specs.Interning.{Held}
use Rattle.fm_bank.specs.Tests.{Tests}
use Rattle.fm_bank.specs.declared.atom.Atom.{Atom}
use Rattle.fm_bank.specs.declared.literal.Literal.{Literal}
use Rattle.fm_cong.specs.Clashes.{HasNoClash, HaveTwoTruths, IsClash, IsRead, term_by}
use Rattle.fm_cong.specs.Facts.{joined_by, pairs_of, sides, unequal_by}
use Rattle.fm_cong.specs.Held.{AreEqual}
use Rattle.fm_cong.specs.Held.{Held as Graph}
use Rattle.fm_cong.specs.Tests.{AreTestsOf}
use Rattle.fm_cong.specs.declared.clash.Clash.{Clash}
use Rattle.fm_rounds.proofs.Members.{any_in, in_any}
use Rattle.fm_steps.specs.Content.{ground_literals_of, has_clash, pairs_in}
use Rattle.fm_steps.proofs.Lists.{Has-contains, all_from, all_has}
use Rattle.fm_trail.specs.declared.entry.Entry.{Entry}
use Rattle.fm_readers.specs.Agreeing.{ClashesAgree}
use Rattle.fm_readers.specs.Graphs.{IsGraphOf}
use Rattle.fm_readers.proofs.Agreeing.{filter_map_in, unequal_from, unequal_to}
use Rattle.fm_readers.proofs.Reasons.{contains_has, in_filter_map}

-- An object that no fact joins is equal to itself alone.
module _ (z : ℕ) (small : z ≡ yes ⊎ (z ≡ no)) where
  abbrev apart_from : ℕ → ℕ → Bool
  apart_from x y = x == y || (not (x == z) && not (y == z))

  both_by : (x y w : ℕ) (a b : Bool) → (x == z) ≡ a → (y == z) ≡ b → apart_from x y ≡ true → apart_from y w ≡ true → apart_from x w ≡ true
  both_by x y w a b p q h k =
      elim (or_cases (x == y) (not (x == z) && not (y == z)) h) [
        | inl same ↦ (let e = eqb-true x y same in subst (λ n. apart_from n w ≡ true) (sym e) k)
        | inr far ↦ elim (or_cases (y == w) (not (y == z) && not (w == z)) k) [
          | inl same ↦ (let e = eqb-true y w same in subst (λ n. apart_from x n ≡ true) e h)
          | inr near ↦ or_right (x == w) _ (and_from (not (x == z)) (not (w == z)) (and_parts (not (x == z)) (not (y == z)) far).0 (and_parts (not (y == z)) (not (w == z)) near).1)
        ]
      ]

  turned : (x y : ℕ) → apart_from x y ≡ true → apart_from y x ≡ true
  turned x y h = elim (or_cases (x == y) (not (x == z) && not (y == z)) h) [
    | inl same ↦ or_left (y == x) _ (eq-eqb y x (sym (eqb-true x y same)))
    | inr far ↦ (let p = and_parts (not (x == z)) (not (y == z)) far in or_right (y == x) _ (and_from (not (y == z)) (not (x == z)) p.1 p.0))
  ]

  object_no : (n : ℕ) → not (object n == z) ≡ true
  object_no n = elim small [
    | inl e ↦ ap not (ne_eqb (object n) z (λ s. omega (arith, s, e)))
    | inr e ↦ ap not (ne_eqb (object n) z (λ s. omega (arith, s, e)))
  ]

  objects : (m n : ℕ) → apart_from (object m) (object n) ≡ true
  objects m n = or_right (object m == object n) _ (and_from (not (object m == z)) (not (object n == z)) (object_no m) (object_no n))

  abbrev touches : ℕ × ℕ → Bool
  touches p = p.0 == z || p.1 == z

  untouched : (p : ℕ × ℕ) → touches p ≡ false → apart_from p.0 p.1 ≡ true
  untouched p f =
      let left = false_from_ne_true (p.0 == z) (λ e. false≢true (sym f ∙ or_left (p.0 == z) (p.1 == z) e)) in
      let right = false_from_ne_true (p.1 == z) (λ e. false≢true (sym f ∙ or_right (p.0 == z) (p.1 == z) e)) in
      or_right (p.0 == p.1) _ (and_from (not (p.0 == z)) (not (p.1 == z)) (ap not left) (ap not right))

  alone : (shapes : List Shape) (facts : List (ℕ × ℕ)) → ((p : ℕ × ℕ) → Has facts p → touches p ≡ false) → IsClosed shapes facts apart_from
  alone shapes facts none = record {
    reflexive = λ x. or_left (x == x) _ (eq-eqb x x refl);
    symmetric = turned;
    transitive = λ x y w h k. both_by x y w (x == z) (y == z) refl refl h k;
    facts_hold = all_from (λ (p : ℕ × ℕ). apart_from p.0 p.1 ≡ true) facts (λ p h. untouched p (none p h));
    congruent = all_from (λ (a : Shape). All (AreMerged apart_from a) shapes) shapes (λ a h. all_from (AreMerged apart_from a) shapes (λ b k e. objects a.number b.number));
  }

  -- so what is equal to another is joined by a fact
  pub joined : (shapes : List Shape) (facts : List (ℕ × ℕ)) (x y : ℕ) → x ≡ z ⊎ (y ≡ z) → (x ≡ y → ⊥) → Follows shapes facts x y → (p : ℕ × ℕ) × Has facts p × (touches p ≡ true)
  joined shapes facts x y ends ne f =
      elim (cases_Bool (list_any touches facts)) [
        | inl some ↦ any_in touches facts some
        | inr none ↦
            let closed = alone shapes facts (λ p h. false_from_ne_true (touches p) (λ e. false≢true (sym none ∙ in_any touches facts p h e))) in
            let r = f apart_from closed in
            absurd (elim (or_cases (x == y) (not (x == z) && not (y == z)) r) [
              | inl same ↦ ne (eqb-true x y same)
              | inr far ↦
                  let p = and_parts (not (x == z)) (not (y == z)) far in
                  elim ends [
                    | inl e ↦ false≢true (sym (ap not (eq-eqb x z e)) ∙ p.0)
                    | inr e ↦ false≢true (sym (ap not (eq-eqb y z e)) ∙ p.1)
                  ]
            ])
      ]

-- A fact that joins yes, or no, is on a predicate term.
touch_none : (a b : ℕ) (p : ℕ × ℕ) (z : ℕ) → ◌≡◌ {A = ℕ × ℕ} (a, b) p → (a ≡ z → ⊥) → (b ≡ z → ⊥) → (p.0 == z || p.1 == z) ≡ true → ⊥
touch_none a b p z s na nb h = elim (or_cases (p.0 == z) (p.1 == z) h) [
  | inl q ↦ na (ap (λ (x : ℕ × ℕ). x.0) s ∙ eqb-true p.0 z q)
  | inr q ↦ nb (ap (λ (x : ℕ × ℕ). x.1) s ∙ eqb-true p.1 z q)
]

touch_true : (a : Atom) (positive : Bool) (p : ℕ × ℕ) → sides a positive ≡ Some p → (p.0 == yes || p.1 == yes) ≡ true → (t : TermId) × (term_by true a positive ≡ Some t)
touch_true (Atom.Pred t) true p e h = (t, refl)
touch_true (Atom.Pred t) false p e h = absurd (touch_none (object t.0) no p yes (cc e) (λ q. omega (arith, q)) (λ q. omega (arith, q)) h)
touch_true (Atom.Equal a b) true p e h = absurd (touch_none (object a.0) (object b.0) p yes (cc e) (λ q. omega (arith, q)) (λ q. omega (arith, q)) h)
touch_true (Atom.Equal a b) false p e h = cc e
touch_true (Atom.Card s k) positive p e h = cc e
touch_true (Atom.Bound n) positive p e h = cc e

touch_false : (a : Atom) (positive : Bool) (p : ℕ × ℕ) → sides a positive ≡ Some p → (p.0 == no || p.1 == no) ≡ true → (t : TermId) × (term_by false a positive ≡ Some t)
touch_false (Atom.Pred t) false p e h = (t, refl)
touch_false (Atom.Pred t) true p e h = absurd (touch_none (object t.0) yes p no (cc e) (λ q. omega (arith, q)) (λ q. omega (arith, q)) h)
touch_false (Atom.Equal a b) true p e h = absurd (touch_none (object a.0) (object b.0) p no (cc e) (λ q. omega (arith, q)) (λ q. omega (arith, q)) h)
touch_false (Atom.Equal a b) false p e h = cc e
touch_false (Atom.Card s k) positive p e h = cc e
touch_false (Atom.Bound n) positive p e h = cc e

-- a predicate term that was read is joined
term_joined : (sign : Bool) (a : Atom) (positive : Bool) (t : TermId) → term_by sign a positive ≡ Some t → sides a positive ≡ Some (object t.0, if sign then yes else no)
term_joined true (Atom.Pred u) true t e = (let s : u ≡ t = cc e in ap (λ (x : TermId). Some (object x.0, yes)) s)
term_joined true (Atom.Pred u) false t e = cc e
term_joined false (Atom.Pred u) true t e = cc e
term_joined false (Atom.Pred u) false t e = (let s : u ≡ t = cc e in ap (λ (x : TermId). Some (object x.0, no)) s)
term_joined sign (Atom.Equal a b) positive t e = cc e
term_joined sign (Atom.Card s k) positive t e = cc e
term_joined sign (Atom.Bound n) positive t e = cc e

module _ (g : Graph) where
  equal_sym : (x y : ℕ) → AreEqual g x y → AreEqual g y x
  equal_sym x y h R c = c.symmetric x y (h R c)

  equal_trans : (x y w : ℕ) → AreEqual g x y → AreEqual g y w → AreEqual g x w
  equal_trans x y w h k R c = c.transitive x y w (h R c) (k R c)

  truth_equal : (sign : Bool) (t : TermId) → IsRead g sign t → AreEqual g (object t.0) (if sign then yes else no)
  truth_equal sign t h R c =
      let z = if sign then yes else no in
      let pair = filter_map_in joined_by g.facts h.fact (object t.0, z) (contains_has g.facts h.fact h.read) (term_joined sign h.fact.atom h.fact.lit.positive t h.term_is) in
      all_has (λ (p : ℕ × ℕ). R p.0 p.1 ≡ true) (pairs_of g.facts) (object t.0, z) c.facts_hold pair

  some_true : AreEqual g yes no → (t : TermId) × IsRead g true t
  some_true e =
      let w = joined yes (inl refl) g.shapes (pairs_of g.facts) yes no (inl refl) (λ q. omega (arith, q)) e in
      let f = in_filter_map joined_by g.facts w.0 w.1 in
      let t = touch_true f.0.atom f.0.lit.positive w.0 f.2 w.2 in
      (t.0, record { fact = f.0; read = Has-contains g.facts f.0 f.1; term_is = t.1 })

  some_false : AreEqual g yes no → (t : TermId) × IsRead g false t
  some_false e =
      let w = joined no (inr refl) g.shapes (pairs_of g.facts) yes no (inr refl) (λ q. omega (arith, q)) e in
      let f = in_filter_map joined_by g.facts w.0 w.1 in
      let t = touch_false f.0.atom f.0.lit.positive w.0 f.2 w.2 in
      (t.0, record { fact = f.0; read = Has-contains g.facts f.0 f.1; term_is = t.1 })

  two_truths : AreEqual g yes no → (p : TermId) × (q : TermId) × HaveTwoTruths g p q
  two_truths e =
      let p = some_true e in
      let q = some_false e in
      let to_yes = truth_equal true p.0 p.1 in
      let to_no = truth_equal false q.0 q.1 in
      (p.0, q.0, record { holds = p.1; fails = q.1; equal = equal_trans (object p.0.0) yes (object q.0.0) to_yes (equal_trans yes no (object q.0.0) e (equal_sym (object q.0.0) no to_no)) })

module _ (held : Held) (es : List Entry) (g : Graph) (t : Tests) (h : IsGraphOf held es g) (tests : AreTestsOf g t) where
  abbrev read : List Literal
  read = ground_literals_of held.atoms es

  abbrev is_same : ℕ × ℕ → Bool
  is_same p = t.same (object p.0) (object p.1)

  clash_there : (c : Clash) → IsClash g c → has_clash read t ≡ true
  clash_there (Clash.Facts k) s =
      let pair = unequal_to held es g h (s.left, s.right) (filter_map_in unequal_by g.facts s.fact (s.left, s.right) (contains_has g.facts s.fact s.read) s.sides) in
      or_right (t.same yes no) _ (in_any is_same (pairs_in false read) (s.left, s.right) pair ((tests.same_is (object s.left) (object s.right)).1 s.equal))
  clash_there (Clash.Truth p q) s =
      let to_yes = truth_equal g true p s.holds in
      let to_no = truth_equal g false q s.fails in
      or_left (t.same yes no) _ ((tests.same_is yes no).1 (equal_trans g yes (object p.0) no (equal_sym g (object p.0) yes to_yes) (equal_trans g (object p.0) (object q.0) no s.equal to_no)))

  no_clash : HasNoClash g → has_clash read t ≡ false
  no_clash none = false_from_ne_true (has_clash read t) (λ e. elim (or_cases (t.same yes no) (list_any is_same (pairs_in false read)) e) [
    | inl q ↦ (let w = two_truths g ((tests.same_is yes no).0 q) in none (Clash.Truth w.0 w.1) w.2)
    | inr q ↦
        let w = any_in is_same (pairs_in false read) q in
        let f = in_filter_map unequal_by g.facts w.0 (unequal_from held es g h w.0 w.1) in
        none (Clash.Facts f.0.lit.atom) (record { fact = f.0; read = Has-contains g.facts f.0 f.1; atom_is = refl; left = w.0.0; right = w.0.1; sides = f.2; equal = (tests.same_is (object w.0.0) (object w.0.1)).0 w.2 })
  ])

pub clashes_agree : ClashesAgree
clashes_agree held es g t h tests = (clash_there held es g t h tests, no_clash held es g t h tests)
