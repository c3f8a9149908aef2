-- The literals that a lemma puts together show what they should.
use Rattle.std.proofs.Common.{◌≡◌, ℕ, ◌<◌, ◌⊎◌, Bool, true, false, not, List, [], ◌++◌, length, map, Option, Some, inl, inr, refl, sym, ap, subst, ◌∙◌}
use Rattle.std.specs.Prelude.{slice_get}
use Rattle.std.specs.List.{All, Contains}
use Rattle.std.proofs.lemmas.Bool.{false≢true}
use Rattle.std.proofs.lemmas.List.{map-append}
use Rattle.std.proofs.lemmas.List.Elements.{All-append, All-contains}
use Rattle.fm_base.specs.Resolution.{AreDistinct, Has}
use Rattle.fm_base.proofs.Resolution.{has_mapped, mapped_has}
use Rattle.fm_base.specs.declared.ids.AtomId.{AtomId}
use Rattle.fm_base.specs.declared.ids.TermId.{TermId}
use Rattle.fm_bank.specs.Closure.{Follows, Shape, no, object, shapes_of, yes}
use Rattle.fm_bank.specs.Interning.{Held, IsHeld, with_literal}
use Rattle.fm_bank.specs.Terms.{numbers}
use Rattle.fm_bank.specs.Tests.{Tests}
use Rattle.fm_bank.specs.declared.atom.Atom.{Atom}
use Rattle.fm_bank.specs.declared.literal.Literal.{Literal}
use Rattle.fm_bank.proofs.Closures.{more_follows}
use Rattle.fm_cert.specs.Lines.{is_on_terms}
use Rattle.fm_cong.specs.Clashes.{HasEqualSides, HaveTwoTruths, IsRead, term_by}
use Rattle.fm_cong.specs.Facts.{unequal_by, unequal_of, unequal_sides}
use Rattle.fm_cong.specs.Held.{AreEqual, AreUnequal}
use Rattle.fm_cong.specs.Held.{Held as Graph}
use Rattle.fm_cong.specs.Tests.{AreTestsOf}
use Rattle.fm_cong.specs.declared.fact.Fact.{Fact}
use Rattle.fm_explain.specs.Explanations.{IsKnownBy, truth_node}
use Rattle.fm_rounds.proofs.Members.{flat_in, in_either, in_filter, in_flat, in_left, in_right}
use Rattle.fm_steps.specs.Content.{decides, equal_pair, facts_in, ground_literals_of, is_size, literal_at, literals_of, opposites, pairs_in, predicate_term, terms_in}
use Rattle.fm_steps.specs.Lemmas.{AllRead, OthersRead}
use Rattle.fm_steps.specs.Sizes.{lit}
use Rattle.fm_steps.proofs.Guarded.{places_from, read_ground}
use Rattle.fm_steps.proofs.Lists.{Has-contains, all_has}
use Rattle.fm_trail.specs.declared.entry.Entry.{Entry}
use Rattle.fm_readers.specs.Graphs.{HasRead, facts_read}
use Rattle.fm_readers.specs.Shown.{IsAtom, IsWitness, PutsReasons, ShowsClash, ShowsValue}
use Rattle.fm_readers.specs.declared.due.Unequal.{Unequal}
use Rattle.fm_readers.proofs.Conflicts.{Closes, conflict_by, follows_over, on_terms, shown_by}
use Rattle.fm_readers.proofs.Nodes.{atom_at, equality_below, fact_atom, predicate_below}
use Rattle.fm_readers.proofs.Reasons.{contains_has, fact_read, in_filter_map, lit_fact, named_is}
use Rattle.fm_readers.proofs.Sets.{all_placed, distinct_places, distinct_with, has_opposite, kept_there, opposite, opposite_has, opposites_part, put_there, stays, twice, with_from}

-- The facts of more literals.
facts_part : (xs ys : List Literal) → ((l : Literal) → Has xs l → Has ys l) → (p : ℕ × ℕ) → Has (facts_in xs) p → Has (facts_in ys) p
facts_part xs ys part p h =
    let f : ℕ × ℕ → ℕ × ℕ = λ q. (object q.0, object q.1) in
    let g : ℕ → ℕ × ℕ = λ t. (object t, yes) in
    let j : ℕ → ℕ × ℕ = λ t. (object t, no) in
    elim (in_either p (map f (pairs_in true xs)) _ h) [
      | inl q ↦
          let w = mapped_has f (pairs_in true xs) p q in
          let l = in_flat (λ (l : Literal). equal_pair true l.positive l.atom) w.lit xs w.has in
          in_left p (map f (pairs_in true ys)) _ (subst (Has (map f (pairs_in true ys))) w.is (has_mapped f (pairs_in true ys) w.lit (flat_in (λ (l : Literal). equal_pair true l.positive l.atom) w.lit ys l.0 (part l.0 l.1) l.2)))
      | inr r ↦ in_right p (map f (pairs_in true ys)) _ (elim (in_either p (map g (terms_in true xs)) _ r) [
        | inl q ↦
            let w = mapped_has g (terms_in true xs) p q in
            let l = in_flat (λ (l : Literal). predicate_term true l.positive l.atom) w.lit xs w.has in
            in_left p (map g (terms_in true ys)) _ (subst (Has (map g (terms_in true ys))) w.is (has_mapped g (terms_in true ys) w.lit (flat_in (λ (l : Literal). predicate_term true l.positive l.atom) w.lit ys l.0 (part l.0 l.1) l.2)))
        | inr q ↦
            let w = mapped_has j (terms_in false xs) p q in
            let l = in_flat (λ (l : Literal). predicate_term false l.positive l.atom) w.lit xs w.has in
            in_right p (map g (terms_in true ys)) _ (subst (Has (map j (terms_in false ys))) w.is (has_mapped j (terms_in false ys) w.lit (flat_in (λ (l : Literal). predicate_term false l.positive l.atom) w.lit ys l.0 (part l.0 l.1) l.2)))
      ])
    ]

follows_sym : (shapes : List Shape) (facts : List (ℕ × ℕ)) (x y : ℕ) → Follows shapes facts x y → Follows shapes facts y x
follows_sym shapes facts x y h R c = c.symmetric x y (h R c)

follows_trans : (shapes : List Shape) (facts : List (ℕ × ℕ)) (x y z : ℕ) → Follows shapes facts x y → Follows shapes facts y z → Follows shapes facts x z
follows_trans shapes facts x y z h k R c = c.transitive x y z (h R c) (k R c)

fact_follows : (shapes : List Shape) (facts : List (ℕ × ℕ)) (x y : ℕ) → Has facts (x, y) → Follows shapes facts x y
fact_follows shapes facts x y h R c = all_has (λ (p : ℕ × ℕ). R p.0 p.1 ≡ true) facts (x, y) c.facts_hold h

pub sides_are : (a : Atom) (positive : Bool) (x y : ℕ) → ◌≡◌ {A = Option (ℕ × ℕ)} (unequal_sides a positive) (Some (x, y)) → (a ≡ Atom.Equal (record { 0 = x }) (record { 0 = y })) × (positive ≡ false)
sides_are (Atom.Equal a b) true x y e = cc e
sides_are (Atom.Equal a b) false x y e = (let p : ◌≡◌ {A = ℕ × ℕ} (a.0, b.0) (x, y) = cc e in (λ i. Atom.Equal (record { 0 = (p i).0 }) (record { 0 = (p i).1 }), refl))
sides_are (Atom.Pred t) positive x y e = cc e
sides_are (Atom.Card s k) positive x y e = cc e
sides_are (Atom.Bound n) positive x y e = cc e

pub term_is : (sign : Bool) (a : Atom) (positive : Bool) (t : TermId) → term_by sign a positive ≡ Some t → (a ≡ Atom.Pred t) × (positive ≡ sign)
term_is true (Atom.Pred u) true t e = (let s : u ≡ t = cc e in (ap Atom.Pred s, refl))
term_is true (Atom.Pred u) false t e = cc e
term_is false (Atom.Pred u) true t e = cc e
term_is false (Atom.Pred u) false t e = (let s : u ≡ t = cc e in (ap Atom.Pred s, refl))
term_is sign (Atom.Equal a b) positive t e = cc e
term_is sign (Atom.Card s k) positive t e = cc e
term_is sign (Atom.Bound n) positive t e = cc e

-- the terms of two supports
left_numbers : (xs ys : List TermId) (n : ℕ) → Has (numbers xs) n → Has (numbers (xs ++ ys)) n
left_numbers xs ys n h = subst (λ ns. Has ns n) (sym (map-append (λ (t : TermId). t.0) xs ys)) (in_left n (numbers xs) (numbers ys) h)

right_numbers : (xs ys : List TermId) (n : ℕ) → Has (numbers ys) n → Has (numbers (xs ++ ys)) n
right_numbers xs ys n h = subst (λ ns. Has ns n) (sym (map-append (λ (t : TermId). t.0) xs ys)) (in_right n (numbers xs) (numbers ys) h)

both_numbers : (P : ℕ → Type 0) (xs ys : List TermId) → All P (numbers xs) → All P (numbers ys) → All P (numbers (xs ++ ys))
both_numbers P xs ys left right = subst (All P) (sym (map-append (λ (t : TermId). t.0) xs ys)) (All-append P (numbers xs) (numbers ys) left right)

module _ (held : Held) (es : List Entry) (good : IsHeld held.sig held.terms held.atoms) where
  abbrev read : List Literal
  read = ground_literals_of held.atoms es

  abbrev Below : List TermId → Type 0
  Below support = All (λ n. n < length held.terms) (numbers support)

  -- what follows from the opposites of a lemma by a support
  abbrev Against : List TermId → List Literal → ℕ → ℕ → Type 0
  Against support ls x y = Follows (shapes_of held.terms (numbers support)) (facts_in (opposites ls)) x y

  abbrev IsClosed : List TermId → List Literal → Type 0
  IsClosed support ls = Closes (shapes_of held.terms (numbers support)) ls

  -- literals read are on terms
  read_on : (k : Literal) → Has (opposites read) k → is_on_terms held.sig held.terms k.atom ≡ true
  read_on k h =
      let e = in_filter (λ (l : Literal). not (is_size l.atom)) (opposite k) (literals_of held.atoms es) (has_opposite read k h) in
      let w = in_flat (λ (e : Entry). literal_at e.lit.positive (slice_get held.atoms e.lit.atom.0)) (opposite k) es e.0 in
      let is = named_is w.0.lit.positive (slice_get held.atoms w.0.lit.atom.0) (opposite k) w.2 in
      on_terms held k.atom (read_ground held.atoms es k h) (atom_at held good w.0.lit.atom.0 k.atom is.0)

  clash_by : (ls : List Literal) (support : List TermId) → AllRead read ls → AreDistinct ls → Below support → IsClosed support ls → ShowsClash held es ls support
  clash_by ls support from once low closes = record {
    read = from;
    shows = shown_by held (numbers support) ls low closes;
    once = once;
    conflict = conflict_by held (numbers support) ls low good.terms_good (λ l h. read_on l (from l h)) closes;
  }

  value_by : (a : Atom) (positive : Bool) (ls : List Literal) (support : List TermId) → is_on_terms held.sig held.terms a ≡ true → Has ls (lit positive a) → OthersRead read ls (lit positive a) → AreDistinct ls → Below support → IsClosed support ls → ShowsValue held es a positive ls support
  value_by a positive ls support on has from once low closes = record {
    has = has;
    read = from;
    shows = shown_by held (numbers support) ls low closes;
    once = once;
    conflict = conflict_by held (numbers support) ls low good.terms_good (λ l h. elim (from l h) [
      | inl s ↦ subst (λ (k : Literal). is_on_terms held.sig held.terms k.atom ≡ true) (sym s) on
      | inr q ↦ read_on l q
    ]) closes;
  }

  module _ (a b : ℕ) (old new : List Literal) (support : List TermId) (r : PutsReasons held es a b old new support) where
    pub reasons_kept : (k : Literal) → Has old k → Has new k
    reasons_kept k h = subst (λ (ls : List Literal). Has ls k) (sym r.put) (stays (opposites r.because) old k h)

    pub reasons_from : (k : Literal) → Has new k → Has old k ⊎ Has (opposites read) k
    reasons_from k h = elim (places_from old (opposites r.because) k (subst (λ (ls : List Literal). Has ls k) r.put h)) [
      | inl q ↦ inl q
      | inr q ↦ inr (opposites_part r.because read (λ l i. r.read l i) k q)
    ]

    pub reasons_once : AreDistinct old → AreDistinct new
    reasons_once d = subst AreDistinct (sym r.put) (distinct_places (opposites r.because) old d)

    there : (k : Literal) → Has r.because k → Has (opposites new) k
    there k h =
        let placed = subst (λ (ls : List Literal). Has ls (opposite k)) (sym r.put) (all_placed (opposites r.because) old (opposite k) (opposite_has r.because k h)) in
        subst (Has (opposites new)) (twice k) (opposite_has new (opposite k) placed)

    -- with more literals, and a greater support
    pub reasons_follow : (ls : List Literal) (more : List TermId) → ((k : Literal) → Has new k → Has ls k) → ((n : ℕ) → Has (numbers support) n → Has (numbers more) n) → Against more ls a b
    reasons_follow ls more part terms_part =
        let shapes = shapes_of held.terms (numbers support) in
        follows_over held.terms (numbers support) (numbers more) terms_part (facts_in (opposites ls)) a b
        (more_follows shapes (facts_in r.because) shapes (facts_in (opposites ls)) (λ z c. c)
        (λ p c. Has-contains (facts_in (opposites ls)) p (facts_part r.because (opposites ls) (λ k i. opposites_part new ls part k (there k i)) p (contains_has (facts_in r.because) p c))) a b r.shows)

    pub reasons_show : Against support new a b
    reasons_show = reasons_follow new support (λ k h. h) (λ n h. h)

  -- A true equality.
  pub equality_shown : (a b : TermId) (lits : List Literal) (support : List TermId) → IsAtom held (Atom.Equal a b) → PutsReasons held es (object a.0) (object b.0) (with_literal [] (lit true (Atom.Equal a b))) lits support → ShowsValue held es (Atom.Equal a b) true lits support
  equality_shown a b lits support is r =
      let l = lit true (Atom.Equal a b) in
      let first = with_literal [] l in
      let has = reasons_kept (object a.0) (object b.0) first lits support r l (put_there [] l) in
      value_by (Atom.Equal a b) true lits support is has
      (λ k h. elim (reasons_from (object a.0) (object b.0) first lits support r k h) [
        | inl q ↦ elim (with_from [] l k q) [ inl f ↦ absurd f | inr s ↦ inl (sym s) ]
        | inr q ↦ inr q
      ])
      (reasons_once (object a.0) (object b.0) first lits support r (distinct_with [] l tt)) r.there
      (inr (record { left = a; right = b; has = has; follows = reasons_show (object a.0) (object b.0) first lits support r }))

  -- A predicate atom.
  by_truth : (t : TermId) (truth : Bool) (support : List TermId) (ls : List Literal) → Has ls (lit truth (Atom.Pred t)) → Against support ls (object t.0) (truth_node truth) → Against support ls yes no
  by_truth t true support ls h f =
      let shapes = shapes_of held.terms (numbers support) in
      let facts = facts_in (opposites ls) in
      let to_no = fact_follows shapes facts (object t.0) no (lit_fact (opposites ls) false (Atom.Pred t) (object t.0, no) (opposite_has ls (lit true (Atom.Pred t)) h) refl) in
      follows_trans shapes facts yes (object t.0) no (follows_sym shapes facts (object t.0) yes f) to_no
  by_truth t false support ls h f =
      let shapes = shapes_of held.terms (numbers support) in
      let facts = facts_in (opposites ls) in
      let to_yes = fact_follows shapes facts (object t.0) yes (lit_fact (opposites ls) true (Atom.Pred t) (object t.0, yes) (opposite_has ls (lit false (Atom.Pred t)) h) refl) in
      follows_trans shapes facts yes (object t.0) no (follows_sym shapes facts (object t.0) yes to_yes) f

  pub truth_shown : (t : TermId) (truth : Bool) (lits : List Literal) (support : List TermId) → IsAtom held (Atom.Pred t) → PutsReasons held es (object t.0) (truth_node truth) (with_literal [] (lit truth (Atom.Pred t))) lits support → ShowsValue held es (Atom.Pred t) truth lits support
  truth_shown t truth lits support is r =
      let l = lit truth (Atom.Pred t) in
      let first = with_literal [] l in
      let has = reasons_kept (object t.0) (truth_node truth) first lits support r l (put_there [] l) in
      value_by (Atom.Pred t) truth lits support is has
      (λ k h. elim (reasons_from (object t.0) (truth_node truth) first lits support r k h) [
        | inl q ↦ elim (with_from [] l k q) [ inl f ↦ absurd f | inr s ↦ inl (sym s) ]
        | inr q ↦ inr q
      ])
      (reasons_once (object t.0) (truth_node truth) first lits support r (distinct_with [] l tt)) r.there
      (inl (by_truth t truth support lits has (reasons_show (object t.0) (truth_node truth) first lits support r)))

  -- What was read, as literals.
  module _ (g : Graph) (r : HasRead held.atoms es g) where
    pub fact_there : (f : Fact) (positive : Bool) (a : Atom) → Contains g.facts f → f.atom ≡ a → f.lit.positive ≡ positive → Has read (lit positive a)
    fact_there f positive a c e s =
        let has : Has (facts_read held.atoms es) f = subst (λ (fs : List Fact). Has fs f) r.facts (contains_has g.facts f c) in
        subst (Has read) (λ i. record { positive = s i; atom = e i }) (fact_read held.atoms es f has)

    truth_there : (sign : Bool) (t : TermId) → IsRead g sign t → Has read (lit sign (Atom.Pred t))
    truth_there sign t h = (let p = term_is sign h.fact.atom h.fact.lit.positive t h.term_is in fact_there h.fact sign (Atom.Pred t) h.read p.0 p.1)

    pub unequal_there : (c d : TermId) → Contains (unequal_of g.facts) (c.0, d.0) → Has read (lit false (Atom.Equal c d))
    unequal_there c d h =
        let w = in_filter_map unequal_by g.facts (c.0, d.0) (contains_has (unequal_of g.facts) (c.0, d.0) h) in
        let p = sides_are w.0.atom w.0.lit.positive c.0 d.0 w.2 in
        fact_there w.0 false (Atom.Equal c d) (Has-contains g.facts w.0 w.1) p.0 p.1

    -- A clash of two truths.
    pub truths_shown : (p q : TermId) (lits : List Literal) (support : List TermId) → HaveTwoTruths g p q → PutsReasons held es (object p.0) (object q.0) (with_literal (with_literal [] (lit false (Atom.Pred p))) (lit true (Atom.Pred q))) lits support → ShowsClash held es lits support
    truths_shown p q lits support truths rs =
        let one = lit false (Atom.Pred p) in
        let two = lit true (Atom.Pred q) in
        let first = with_literal [] one in
        let second = with_literal first two in
        let kept = reasons_kept (object p.0) (object q.0) second lits support rs in
        let has_one = kept one (kept_there first two one (put_there [] one)) in
        let has_two = kept two (put_there first two) in
        let shapes = shapes_of held.terms (numbers support) in
        let facts = facts_in (opposites lits) in
        let yes_p = fact_follows shapes facts (object p.0) yes (lit_fact (opposites lits) true (Atom.Pred p) (object p.0, yes) (opposite_has lits one has_one) refl) in
        let q_no = fact_follows shapes facts (object q.0) no (lit_fact (opposites lits) false (Atom.Pred q) (object q.0, no) (opposite_has lits two has_two) refl) in
        let p_q = reasons_show (object p.0) (object q.0) second lits support rs in
        clash_by lits support
        (λ k h. elim (reasons_from (object p.0) (object q.0) second lits support rs k h) [
          | inl i ↦ elim (with_from first two k i) [
            | inl j ↦ elim (with_from [] one k j) [
              | inl f ↦ absurd f
              | inr s ↦ subst (Has (opposites read)) s (opposite_has read (lit true (Atom.Pred p)) (truth_there true p truths.holds))
            ]
            | inr s ↦ subst (Has (opposites read)) s (opposite_has read (lit false (Atom.Pred q)) (truth_there false q truths.fails))
          ]
          | inr i ↦ i
        ])
        (reasons_once (object p.0) (object q.0) second lits support rs (distinct_with first two (distinct_with [] one tt))) rs.there
        (inl (follows_trans shapes facts yes (object p.0) no (follows_sym shapes facts (object p.0) yes yes_p) (follows_trans shapes facts (object p.0) (object q.0) no p_q q_no)))

    -- A false equality whose sides are equal.
    pub clash_shown : (a b : TermId) (lits : List Literal) (support : List TermId) → Has read (lit false (Atom.Equal a b)) → ShowsValue held es (Atom.Equal a b) true lits support → ShowsClash held es lits support
    clash_shown a b lits support there h = record {
      read = λ k i. elim (h.read k i) [
        | inl s ↦ subst (Has (opposites read)) (sym s) (opposite_has read (lit false (Atom.Equal a b)) there)
        | inr q ↦ q
      ];
      shows = h.shows;
      once = h.once;
      conflict = h.conflict;
    }

    -- Sides that are apart.
    pub difference_shown : (a b c d near far : TermId) (mid lits : List Literal) (left right : List TermId) → IsAtom held (Atom.Equal a b) → Has read (lit false (Atom.Equal c d))
        → ((near ≡ c) × (far ≡ d)) ⊎ ((near ≡ d) × (far ≡ c))
        → PutsReasons held es (object a.0) (object near.0) (with_literal (with_literal [] (lit false (Atom.Equal a b))) (lit true (Atom.Equal c d))) mid left
        → PutsReasons held es (object b.0) (object far.0) mid lits right → ShowsValue held es (Atom.Equal a b) false lits (left ++ right)
    difference_shown a b c d near far mid lits left right is seen ways one two =
        let support = left ++ right in
        let l = lit false (Atom.Equal a b) in
        let m = lit true (Atom.Equal c d) in
        let first = with_literal [] l in
        let second = with_literal first m in
        let kept : (k : Literal) → Has second k → Has lits k = λ k h. reasons_kept (object b.0) (object far.0) mid lits right two k (reasons_kept (object a.0) (object near.0) second mid left one k h) in
        let has_l = kept l (kept_there first m l (put_there [] l)) in
        let has_m = kept m (put_there first m) in
        let shapes = shapes_of held.terms (numbers support) in
        let facts = facts_in (opposites lits) in
        let a_b = fact_follows shapes facts (object a.0) (object b.0) (lit_fact (opposites lits) true (Atom.Equal a b) (object a.0, object b.0) (opposite_has lits l has_l) refl) in
        let a_near = reasons_follow (object a.0) (object near.0) second mid left one lits support (λ k h. reasons_kept (object b.0) (object far.0) mid lits right two k h) (left_numbers left right) in
        let b_far = reasons_follow (object b.0) (object far.0) mid lits right two lits support (λ k h. h) (right_numbers left right) in
        let near_far : Against support lits (object near.0) (object far.0) =
        follows_trans shapes facts (object near.0) (object a.0) (object far.0) (follows_sym shapes facts (object a.0) (object near.0) a_near) (follows_trans shapes facts (object a.0) (object b.0) (object far.0) a_b b_far) in
        let c_d : Against support lits (object c.0) (object d.0) = elim ways [
          | inl s ↦ subst (λ (x : TermId). Against support lits (object x.0) (object d.0)) s.0 (subst (λ (x : TermId). Against support lits (object near.0) (object x.0)) s.1 near_far)
          | inr s ↦ follows_sym shapes facts (object d.0) (object c.0) (subst (λ (x : TermId). Against support lits (object x.0) (object c.0)) s.0 (subst (λ (x : TermId). Against support lits (object near.0) (object x.0)) s.1 near_far))
        ] in
        value_by (Atom.Equal a b) false lits support is has_l
        (λ k h. elim (reasons_from (object b.0) (object far.0) mid lits right two k h) [
          | inl i ↦ elim (reasons_from (object a.0) (object near.0) second mid left one k i) [
            | inl j ↦ elim (with_from first m k j) [
              | inl n ↦ elim (with_from [] l k n) [ inl f ↦ absurd f | inr s ↦ inl (sym s) ]
              | inr s ↦ inr (subst (Has (opposites read)) s (opposite_has read (lit false (Atom.Equal c d)) seen))
            ]
            | inr j ↦ inr j
          ]
          | inr i ↦ inr i
        ])
        (reasons_once (object b.0) (object far.0) mid lits right two (reasons_once (object a.0) (object near.0) second mid left one (distinct_with first m (distinct_with [] l tt))))
        (both_numbers (λ n. n < length held.terms) left right one.there two.there)
        (inr (record { left = c; right = d; has = has_m; follows = c_d }))

-- By the tests of a graph.
module _ (g : Graph) (t : Tests) (tests : AreTestsOf g t) where
  pub equal_by : (a b : TermId) (positive : Bool) → positive ≡ true → decides t (Atom.Equal a b) positive ≡ true → AreEqual g (object a.0) (object b.0)
  equal_by a b true p e = (tests.same_is (object a.0) (object b.0)).0 e
  equal_by a b false p e = absurd (false≢true p)

  pub unequal_at : (a b : TermId) (positive : Bool) → positive ≡ false → decides t (Atom.Equal a b) positive ≡ true → AreUnequal g a.0 b.0
  unequal_at a b false p e = (tests.apart_is a.0 b.0).0 e
  unequal_at a b true p e = absurd (false≢true (sym p))

  pub truth_by : (n : TermId) (positive : Bool) → decides t (Atom.Pred n) positive ≡ true → AreEqual g (object n.0) (truth_node positive)
  truth_by n true e = (tests.same_is (object n.0) yes).0 e
  truth_by n false e = (tests.same_is (object n.0) no).0 e

-- A false equality that was read, whose sides are equal, is on its atom.
module _ (held : Held) (g : Graph) (k : AtomId) (known : IsKnownBy g held) (h : HasEqualSides g k) where
  atom_there : (x : Atom) → slice_get held.atoms k.0 ≡ Some x → h.fact.atom ≡ x
  atom_there x at =
      let there = All-contains (λ (f : Fact). slice_get held.atoms f.lit.atom.0 ≡ Some f.atom) g.facts h.fact known.atoms h.read in
      let same : Some h.fact.atom ≡ Some x = sym there ∙ ap (λ (y : AtomId). slice_get held.atoms y.0) h.atom_is ∙ at in
      cc same

  pub sides_equal : (a b : TermId) → slice_get held.atoms k.0 ≡ Some (Atom.Equal a b) → AreEqual g (object a.0) (object b.0)
  sides_equal a b at =
      let atom = atom_there (Atom.Equal a b) at in
      let sides = sides_are h.fact.atom h.fact.lit.positive h.left h.right h.sides in
      let same : Atom.Equal (record { 0 = h.left }) (record { 0 = h.right }) ≡ Atom.Equal a b = sym sides.0 ∙ atom in
      let left : h.left ≡ a.0 = cc same in
      let right : h.right ≡ b.0 = cc same in
      subst (λ n. AreEqual g (object n) (object b.0)) left (subst (λ n. AreEqual g (object h.left) (object n)) right h.equal)

  pub others_none : (x : Atom) → slice_get held.atoms k.0 ≡ Some x → ((a b : TermId) → x ≡ Atom.Equal a b → ⊥) → ⊥
  others_none x at none = (let sides = sides_are h.fact.atom h.fact.lit.positive h.left h.right h.sides in none (record { 0 = h.left }) (record { 0 = h.right }) (sym (atom_there x at) ∙ sides.0))

  pub false_there : (es : List Entry) → IsHeld held.sig held.terms held.atoms → (a b : TermId) → HasRead held.atoms es g → slice_get held.atoms k.0 ≡ Some (Atom.Equal a b) → Has (ground_literals_of held.atoms es) (lit false (Atom.Equal a b))
  false_there es good a b r at =
      let sides = sides_are h.fact.atom h.fact.lit.positive h.left h.right h.sides in
      fact_there held es good g r h.fact false (Atom.Equal a b) h.read (atom_there (Atom.Equal a b) at) sides.1

-- The terms of what was read are terms of the bank.
module _ (held : Held) (good : IsHeld held.sig held.terms held.atoms) (g : Graph) (known : IsKnownBy g held) where
  pub truth_below : (sign : Bool) (t : TermId) → IsRead g sign t → t.0 < length held.terms
  truth_below sign t h = predicate_below held t (subst (IsAtom held) (term_is sign h.fact.atom h.fact.lit.positive t h.term_is).0 (fact_atom held good g known h.fact h.read))

  pub witness_below : (a b : TermId) (w : Unequal) → IsWitness g a b w → (w.near.0 < length held.terms) × (w.far.0 < length held.terms)
  witness_below a b w h =
      let f = in_filter_map unequal_by g.facts (w.left.0, w.right.0) (contains_has (unequal_of g.facts) (w.left.0, w.right.0) h.read) in
      let p = sides_are f.0.atom f.0.lit.positive w.left.0 w.right.0 f.2 in
      let low = equality_below held w.left w.right (subst (IsAtom held) p.0 (fact_atom held good g known f.0 (Has-contains g.facts f.0 f.1))) in
      elim h.between.ways [
        | inl s ↦ (subst (λ (t : TermId). t.0 < length held.terms) (sym s.0) low.0, subst (λ (t : TermId). t.0 < length held.terms) (sym s.1) low.1)
        | inr s ↦ (subst (λ (t : TermId). t.0 < length held.terms) (sym s.0) low.1, subst (λ (t : TermId). t.0 < length held.terms) (sym s.1) low.0)
      ]
