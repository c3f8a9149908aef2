-- In a settled state the first terms of the classes by their cells are the oldest.
use Rattle.std.proofs.Common.{◌≡◌, ◌↔◌, ℕ, zero, suc, ◌+◌, ◌-◌, ◌<◌, ◌≤◌, ◌||◌, ◌&&◌, ◌⊎◌, Bool, true, false, cond, List, [], ◌∷◌, length, inl, inr, refl, sym, subst, ap, ◌∙◌, arith, get_or}
use Rattle.std.specs.Prelude.{◌==◌, nat_lt}
use Rattle.std.specs.List.{All, Contains, cons_option, filter}
use Rattle.std.proofs.lemmas.Bool.{and_from, and_parts, cases_lt, eq-eqb, eqb-true, false_from_ne_true, false≢true, lt-ltb, ltb-true, or_cases, or_left, or_right}
use Rattle.std.proofs.lemmas.List.Elements.{All-cons, All-head, All-nil, All-tail}
use Rattle.fm_base.specs.declared.ids.SortId.{SortId}
use Rattle.fm_base.specs.declared.ids.TermId.{TermId}
use Rattle.fm_base.specs.declared.signature.Ty.{Ty}
use Rattle.fm_bank.specs.Closure.{Follows, IsClosed, Shape, no, object, yes}
use Rattle.fm_bank.specs.declared.atom.Atom.{Atom}
use Rattle.fm_cells.specs.Rings.{IsLeast, is_least, own_or, rank}
use Rattle.fm_cells.specs.Sorts.{AreNodes, is_first, list_of}
use Rattle.fm_cells.proofs.Firsts.{filter_from, filter_in}
use Rattle.fm_cells.proofs.Placing.{found_at, found_where}
use Rattle.fm_cong.specs.Facts.{pairs_of, sides}
use Rattle.fm_cong.specs.Faithful.{IsWhole, held_in}
use Rattle.fm_cong.specs.Graphs.{cells_of}
use Rattle.fm_cong.specs.Held.{AreEqual, IsRegistered, JoinsRegistered, is_registered}
use Rattle.fm_cong.specs.Levels.{IsComplete}
use Rattle.fm_cong.specs.States.{class_in, root_in}
use Rattle.fm_cong.specs.Types.{IsOldest, IsOldestOf}
use Rattle.fm_cong.specs.declared.egraph.Egraph.TheInside.{Inside}
use Rattle.fm_cong.specs.declared.fact.Fact.{Fact}
use Rattle.fm_cong.proofs.Holding.{registered_node}
use Rattle.fm_cong.proofs.Reading.{follows_one_class, one_class_follows}
use Rattle.fm_cong.proofs.Whole.{AreRead}

rank_high : (x : ℕ) → 2 ≤ x → rank x ≡ x
rank_high x le = ap (λ b. cond b 18446744073709551615 x) (false_from_ne_true (nat_lt x 2) (λ t. let l = ltb-true x 2 t in omega (arith, l, le)))

rank_low : (x : ℕ) → nat_lt x 2 ≡ true → rank x ≡ 18446744073709551615
rank_low x t = ap (λ b. cond b 18446744073709551615 x) t

-- yes, no and the nodes of registered terms
abbrev is_object : List Shape → ℕ → Bool
is_object shapes x = nat_lt x 2 || is_registered shapes (x - 2)

abbrev alike : List Shape → ℕ → ℕ → Bool
alike shapes x y = (x == y) || (is_object shapes x && is_object shapes y)

object_term : (shapes : List Shape) (n : ℕ) → is_registered shapes n ≡ true → is_object shapes (object n) ≡ true
object_term shapes n r =
    let back : n + 2 - 2 ≡ n = omega arith in
    or_right (nat_lt (n + 2) 2) (is_registered shapes (n + 2 - 2)) (ap (is_registered shapes) back ∙ r)

registered_at : (shapes : List Shape) (k : ℕ) (d : Shape) → k < length shapes → is_registered shapes (get_or shapes k d).number ≡ true
registered_at [] k d lt = absurd (omega (arith, lt))
registered_at (s ∷ shapes) zero d lt = or_left (s.number == s.number) (is_registered shapes s.number) (eq-eqb s.number s.number refl)
registered_at (s ∷ shapes) (suc k) d lt = or_right ((get_or shapes k d).number == s.number) (is_registered shapes (get_or shapes k d).number) (registered_at shapes k d (omega (arith, lt)))

module _ (shapes : List Shape) where
  both_alike : (x y : ℕ) → is_object shapes x ≡ true → is_object shapes y ≡ true → alike shapes x y ≡ true
  both_alike x y p q = or_right (x == y) (is_object shapes x && is_object shapes y) (and_from (is_object shapes x) (is_object shapes y) p q)

  abbrev Alike : ℕ × ℕ → Type 0
  Alike p = alike shapes p.0 p.1 ≡ true

  sides_alike : (a : Atom) (positive : Bool) (xs : List (ℕ × ℕ)) → JoinsRegistered shapes a → All Alike xs → All Alike (cons_option (sides a positive) xs)
  sides_alike (Atom.Equal a b) true xs h all = All-cons Alike (object a.0, object b.0) xs (both_alike (object a.0) (object b.0) (object_term shapes a.0 h.0) (object_term shapes b.0 h.1)) all
  sides_alike (Atom.Equal a b) false xs h all = all
  sides_alike (Atom.Pred t) true xs h all = All-cons Alike (object t.0, yes) xs (both_alike (object t.0) yes (object_term shapes t.0 h) refl) all
  sides_alike (Atom.Pred t) false xs h all = All-cons Alike (object t.0, no) xs (both_alike (object t.0) no (object_term shapes t.0 h) refl) all
  sides_alike (Atom.Card s k) positive xs h all = absurd h
  sides_alike (Atom.Bound n) positive xs h all = absurd h

  facts_alike : (facts : List Fact) → AreRead shapes facts → All Alike (pairs_of facts)
  facts_alike [] h = All-nil Alike
  facts_alike (f ∷ facts) h =
      let P : Fact → Type 0 = λ f. JoinsRegistered shapes f.atom in
      sides_alike f.atom f.lit.positive (pairs_of facts) (All-head P f facts h) (facts_alike facts (All-tail P f facts h))

  alike_back : (x y : ℕ) → alike shapes x y ≡ true → alike shapes y x ≡ true
  alike_back x y h =
      elim (or_cases (x == y) (is_object shapes x && is_object shapes y) h) [
        | inl e ↦ or_left (y == x) (is_object shapes y && is_object shapes x) (eq-eqb y x (sym (eqb-true x y e)))
        | inr b ↦ let p = and_parts (is_object shapes x) (is_object shapes y) b in both_alike y x p.1 p.0
      ]

  alike_chain : (x y z : ℕ) → alike shapes x y ≡ true → alike shapes y z ≡ true → alike shapes x z ≡ true
  alike_chain x y z h k =
      elim (or_cases (x == y) (is_object shapes x && is_object shapes y) h) [
        | inl e ↦ subst (λ (w : ℕ). alike shapes w z ≡ true) (sym (eqb-true x y e)) k
        | inr b ↦ elim (or_cases (y == z) (is_object shapes y && is_object shapes z) k) [
          | inl e ↦ subst (λ (w : ℕ). alike shapes x w ≡ true) (eqb-true y z e) h
          | inr c ↦ both_alike x z (and_parts (is_object shapes x) (is_object shapes y) b).0 (and_parts (is_object shapes y) (is_object shapes z) c).1
        ]
      ]

  closed_alike : (facts : List Fact) → AreRead shapes facts → IsClosed shapes (pairs_of facts) (alike shapes)
  closed_alike facts h = record {
    reflexive = λ x. or_left (x == x) (is_object shapes x && is_object shapes x) (eq-eqb x x refl);
    symmetric = alike_back;
    transitive = alike_chain;
    facts_hold = facts_alike facts h;
    congruent = λ k d lt j e lj same. both_alike (object (get_or shapes k d).number) (object (get_or shapes j e).number) (object_term shapes (get_or shapes k d).number (registered_at shapes k d lt)) (object_term shapes (get_or shapes j e).number (registered_at shapes j e lj));
  }

  -- what is equal to another node is an object
  only_objects : (facts : List Fact) → AreRead shapes facts → (x y : ℕ) → Follows shapes (pairs_of facts) x y → (x ≡ y) ⊎ (is_object shapes y ≡ true)
  only_objects facts h x y f =
      elim (or_cases (x == y) (is_object shapes x && is_object shapes y) (f (alike shapes) (closed_alike facts h))) [
        | inl e ↦ inl (eqb-true x y e)
        | inr b ↦ inr (and_parts (is_object shapes x) (is_object shapes y) b).1
      ]

term_same : (a b : TermId) → a.0 ≡ b.0 → a ≡ b
term_same a b e = λ i. record { 0 = e i }

module _ (g : Inside) (w : IsWhole g) (complete : IsComplete g.members.items (cells_of g.state)) where
  least_at : (x : ℕ) → IsLeast (class_in g.state) (class_in g.state x) (root_in g.state (class_in g.state x)).least
  least_at x = let r = w.sound.steady.working.rings in (r.rings (class_in g.state x) (r.root x)).least_is

  least_to : (n m : ℕ) → is_least (class_in g.state) (root_in g.state) (n + 2) ≡ true → AreEqual (held_in g) (object n) (object m) → n ≤ m
  least_to n m t h =
      let same = follows_one_class g.members.items (cells_of g.state) complete (n + 2) (m + 2) h in
      let f = (least_at (n + 2)).first (m + 2) (sym same) in
      let e = eqb-true (root_in g.state (class_in g.state (n + 2))).least (rank (n + 2)) t in
      omega (arith, f, e, rank_high (n + 2) (omega arith), rank_high (m + 2) (omega arith))

  module _ (n : ℕ) (here : IsRegistered g.members.items n) (first : (m : ℕ) → IsRegistered g.members.items m → AreEqual (held_in g) (object n) (object m) → n ≤ m) where
    from_object : (x : ℕ) → AreEqual (held_in g) (object n) x → is_object g.members.items x ≡ true → n + 2 ≤ rank x
    from_object x h o =
        elim (or_cases (nat_lt x 2) (is_registered g.members.items (x - 2)) o) [
          | inl low ↦
              let b = registered_node g.members.items (length g.state.classes.class.cells.items) n w.sound.steady.working.known here in
              omega (arith, b, rank_low x low, g.state.classes.class.cells.ok.0, g.state.classes.class.cells.small)
          | inr r ↦ elim (cases_lt x 2) [
            | inl low ↦
                let b = registered_node g.members.items (length g.state.classes.class.cells.items) n w.sound.steady.working.known here in
                omega (arith, b, rank_low x (lt-ltb x 2 low), g.state.classes.class.cells.ok.0, g.state.classes.class.cells.small)
            | inr high ↦
                let back : x ≡ object (x - 2) = omega (arith, high) in
                let l = first (x - 2) r (subst (λ (y : ℕ). AreEqual (held_in g) (object n) y) back h) in
                omega (arith, l, high, rank_high x high)
          ]
        ]

    least_from : is_least (class_in g.state) (root_in g.state) (n + 2) ≡ true
    least_from =
        let l = least_at (n + 2) in
        let upper = l.first (n + 2) refl in
        let equal = one_class_follows g.members.items (cells_of g.state) complete (n + 2) l.member (sym l.here) in
        let lower : n + 2 ≤ rank l.member = elim (only_objects g.members.items g.state.facts.items w.read (n + 2) l.member equal) [
          | inl e ↦ let k : rank (n + 2) ≡ rank l.member = ap rank e in omega (arith, k, rank_high (n + 2) (omega arith))
          | inr o ↦ from_object l.member equal o
        ] in
        eq-eqb (root_in g.state (class_in g.state (n + 2))).least (rank (n + 2)) (omega (arith, upper, lower, l.is, rank_high (n + 2) (omega arith)))

  pub listed : (sort : SortId) (t : TermId) → Contains (filter (is_first g.state.classes) (list_of g.sorts sort.0)) t ↔ IsOldest (held_in g) sort t
  listed sort t =
      let all = list_of g.sorts sort.0 in
      let firsts = filter (is_first g.state.classes) all in (
        (λ h.
            let both = filter_from (is_first g.state.classes) all t (found_at firsts t.0 h.0 t h.1 (ap (λ (u : TermId). u.0) h.2)) in
            let typed = (w.sorts.lists t sort).0 both.0 in
            record { registered = w.sorts.typed t (Ty.Of sort) typed; typed = typed; first = λ m _ e. least_to t.0 m both.1 e }),
        (λ h.
            let on = filter_in (is_first g.state.classes) all t ((w.sorts.lists t sort).1 h.typed) (least_from t.0 h.registered h.first) in
            let r = found_where firsts t.0 on in
            (r.0, r.1.0, term_same (get_or firsts r.0 t) t (r.1.1 t))),
      )

  pub root_within : (x : ℕ) → x < length g.state.classes.class.cells.items → own_or g.state.classes.class.cells.items x < length g.state.classes.size.cells.items
  root_within x lt = let l = w.sound.steady.working.below x lt in omega (arith, l, w.sound.steady.working.sizes)

  -- the terms of a sort have their nodes
  pub nodes_of : (sort : SortId) → AreNodes g.state.classes (list_of g.sorts sort.0)
  nodes_of sort = record {
    below = root_within;
    known = λ i d lt.
        let t = get_or (list_of g.sorts sort.0) i d in
        let typed = (w.sorts.lists t sort).0 (found_at (list_of g.sorts sort.0) t.0 i d lt refl) in
        registered_node g.members.items (length g.state.classes.class.cells.items) t.0 w.sound.steady.working.known (w.sorts.typed t (Ty.Of sort) typed);
  }

  -- the least rank in the class of a registered term is that of the oldest
  module _ (n : ℕ) (here : IsRegistered g.members.items n) where
    abbrev least : ℕ
    least = (root_in g.state (class_in g.state (n + 2))).least

    l : IsLeast (class_in g.state) (class_in g.state (n + 2)) least
    l = least_at (n + 2)

    member_high : 2 ≤ l.member
    member_high = elim (cases_lt l.member 2) [
      | inl low ↦
          let b = registered_node g.members.items (length g.state.classes.class.cells.items) n w.sound.steady.working.known here in
          let upper = l.first (n + 2) refl in
          let r = rank_low l.member (lt-ltb l.member 2 low) in
          absurd (omega (arith, b, upper, l.is, r, rank_high (n + 2) (omega arith), g.state.classes.class.cells.ok.0, g.state.classes.class.cells.small))
      | inr high ↦ high
    ]

    equal_member : AreEqual (held_in g) (object n) l.member
    equal_member = one_class_follows g.members.items (cells_of g.state) complete (n + 2) l.member (sym l.here)

    member_registered : is_registered g.members.items (l.member - 2) ≡ true
    member_registered = elim (only_objects g.members.items g.state.facts.items w.read (n + 2) l.member equal_member) [
      | inl e ↦ let same : n ≡ l.member - 2 = omega (arith, e) in subst (λ (m : ℕ). is_registered g.members.items m ≡ true) same here
      | inr o ↦ elim (or_cases (nat_lt l.member 2) (is_registered g.members.items (l.member - 2)) o) [
        | inl low ↦ let b = ltb-true l.member 2 low in absurd (omega (arith, b, member_high))
        | inr r ↦ r
      ]
    ]

    least_is : least ≡ l.member
    least_is = sym l.is ∙ rank_high l.member member_high

    pub oldest_is : (t o : TermId) → t.0 ≡ n → o.0 ≡ least - 2 → IsOldestOf (held_in g) t o
    oldest_is t o t_is o_is =
        let e : o.0 ≡ l.member - 2 = o_is ∙ ap (λ (m : ℕ). m - 2) least_is in
        let node : l.member ≡ o.0 + 2 = omega (arith, e, member_high) in
        record {
          registered = subst (λ (m : ℕ). IsRegistered g.members.items m) (sym e) member_registered;
          equal = subst (λ (m : ℕ). AreEqual (held_in g) (object m) (object o.0)) (sym t_is) (subst (λ (x : ℕ). AreEqual (held_in g) (object n) x) node equal_member);
          first = λ m _ h.
              let same = follows_one_class g.members.items (cells_of g.state) complete (n + 2) (m + 2) (subst (λ (k : ℕ). AreEqual (held_in g) (object k) (object m)) t_is h) in
              let f = l.first (m + 2) (sym same) in
              omega (arith, f, least_is, node, rank_high (m + 2) (omega arith));
        }
