-- What shows an equality over a support is a line of a certificate by that support.
use Rattle.std.proofs.Common.{◌≡◌, ℕ, zero, suc, ◌<◌, ◌≤◌, ◌⊎◌, Bool, true, false, not, ◌&&◌, ◌||◌, nat_lt, List, [], ◌∷◌, ◌++◌, length, Option, Some, None, inl, inr, refl, sym, subst, arith}
use Rattle.std.specs.Prelude.{◌==◌, slice_get}
use Rattle.std.specs.List.{All, filter, list_any, range_with_len}
use Rattle.std.proofs.lemmas.Bool.{and_from, and_parts, eq-eqb, eqb-true, false≢true, lt-ltb, ltb-true, or_cases, or_left, or_right}
use Rattle.fm_base.specs.Resolution.{Has}
use Rattle.fm_base.specs.declared.ids.TermId.{TermId}
use Rattle.fm_base.specs.declared.signature.Sig.{Sig}
use Rattle.fm_bank.specs.Closure.{Clashes, Follows, Shape, facts_of, no, object, shape_at, shapes_of, yes}
use Rattle.fm_bank.specs.Interning.{Held}
use Rattle.fm_bank.specs.Subterms.{AreSubterms, IsSubtermSet}
use Rattle.fm_bank.specs.Terms.{Term, are_terms}
use Rattle.fm_bank.specs.declared.atom.Atom.{Atom}
use Rattle.fm_bank.specs.declared.literal.Literal.{Literal}
use Rattle.fm_bank.proofs.Closures.{more_follows}
use Rattle.fm_cert.specs.Lines.{IsConflict, Joins, JoinsSome, facts_against, falses_against, falses_of, is_on_terms, pairs_against, pairs_of, terms_of_atom, terms_of_clause, trues_against, trues_of}
use Rattle.fm_explain.specs.Meant.{args_of}
use Rattle.fm_rounds.proofs.Members.{any_in, filter_in, flat_in, in_any, in_either, in_filter, in_flat, in_right, range_in}
use Rattle.fm_steps.specs.Content.{ShowsEquality, equal_pair, facts_in, is_size, opposites, pairs_in, predicate_term, terms_in}
use Rattle.fm_steps.specs.Sizes.{lit}
use Rattle.fm_steps.proofs.Due.{in_all}
use Rattle.fm_steps.proofs.Lists.{Has-contains, all_from, all_has}
use Rattle.fm_readers.specs.Shown.{IsAtom}
use Rattle.fm_readers.proofs.Nodes.{args_before, equality_below, predicate_below}
use Rattle.fm_readers.proofs.Reasons.{contains_has}
use Rattle.fm_readers.proofs.Sets.{opposite_has}

-- Whether a term is a subterm of another, down to a depth.
is_part : List Term → ℕ → ℕ → ℕ → Bool
is_part terms zero n r = n == r
is_part terms (suc d) n r = n == r || list_any (is_part terms d n) (args_of (slice_get terms r))

itself : (terms : List Term) (d n : ℕ) → is_part terms d n n ≡ true
unfolding is_part
itself terms zero n = eq-eqb n n refl
itself terms (suc d) n = or_left (n == n) _ (eq-eqb n n refl)

module _ (sig : Sig) (terms : List Term) (good : are_terms sig terms ≡ true) where
  -- an argument of a part is one, where the depth is enough
  args_parts : (d n r a : ℕ) → r ≤ d → is_part terms d n r ≡ true → Has (args_of (slice_get terms n)) a → is_part terms d a r ≡ true
  unfolding is_part
  args_parts zero n r a le e h =
      let is = eqb-true n r e in
      let lt = (args_before sig terms n a good h).0 in
      absurd (omega (arith, is, lt, le))
  args_parts (suc d) n r a le e h = elim (or_cases (n == r) (list_any (is_part terms d n) (args_of (slice_get terms r))) e) [
    | inl same ↦ or_right (a == r) _ (in_any (is_part terms d a) (args_of (slice_get terms r)) a (subst (λ k. Has (args_of (slice_get terms k)) a) (eqb-true n r same) h) (itself terms d a))
    | inr some ↦
        let w = any_in (is_part terms d n) (args_of (slice_get terms r)) some in
        let lt = (args_before sig terms r w.0 good w.1).0 in
        or_right (a == r) _ (in_any (is_part terms d a) (args_of (slice_get terms r)) w.0 w.1 (args_parts d n w.0 a (omega (arith, lt, le)) w.2 h))
  ]

  some_args : (o : Option Term) (k : ℕ) → Has (args_of o) k → (t : Term) × (o ≡ Some t) × Has t.args k
  some_args None k h = absurd h
  some_args (Some t) k h = (t, refl, h)

  -- a set that has a term and arguments has its parts
  part_has : (roots : List ℕ) (S : ℕ → Bool) → IsSubtermSet terms roots S → (d n r : ℕ) → S r ≡ true → is_part terms d n r ≡ true → S n ≡ true
  unfolding is_part
  part_has roots S s zero n r h e = subst (λ k. S k ≡ true) (sym (eqb-true n r e)) h
  part_has roots S s (suc d) n r h e = elim (or_cases (n == r) (list_any (is_part terms d n) (args_of (slice_get terms r))) e) [
    | inl same ↦ subst (λ k. S k ≡ true) (sym (eqb-true n r same)) h
    | inr some ↦
        let w = any_in (is_part terms d n) (args_of (slice_get terms r)) some in
        let t = some_args (slice_get terms r) w.0 w.1 in
        part_has roots S s d n w.0 (all_has (λ a. S a ≡ true) t.0.args w.0 (s.has_args r t.0 h t.1) t.2) w.2
  ]

  module _ (roots : List ℕ) (low : (n : ℕ) → Has roots n → n < length terms) where
    abbrev is_sub : ℕ → Bool
    is_sub n = list_any (is_part terms (length terms) n) roots

    abbrev subterms : List ℕ
    subterms = filter is_sub (range_with_len 0 (length terms))

    sub_there : (n : ℕ) → n < length terms → is_sub n ≡ true → Has subterms n
    sub_there n lt e = filter_in is_sub n (range_with_len 0 (length terms)) (range_in n 0 (length terms) (omega arith) (omega (arith, lt))) e

    root_there : (n : ℕ) → Has roots n → Has subterms n
    root_there n h = sub_there n (low n h) (in_any (is_part terms (length terms) n) roots n h (itself terms (length terms) n))

    abbrev is_there : ℕ → Bool
    is_there n = nat_lt n (length terms) && is_sub n

    closed : IsSubtermSet terms roots is_there
    closed = record {
      has_roots = all_from (λ n. is_there n ≡ true) roots (λ n h. and_from (nat_lt n (length terms)) (is_sub n) (lt-ltb n (length terms) (low n h)) (in_any (is_part terms (length terms) n) roots n h (itself terms (length terms) n)));
      has_args = λ n t e at. all_from (λ a. is_there a ≡ true) t.args (λ a h.
          let w = any_in (is_part terms (length terms) n) roots (and_parts (nat_lt n (length terms)) (is_sub n) e).1 in
          let here : Has (args_of (slice_get terms n)) a = subst (λ (o : Option Term). Has (args_of o) a) (sym at) h in
          let p = args_before sig terms n a good here in
          let before = p.0 in
          let within = p.1 in
          let root = low w.0 w.1 in
          and_from (nat_lt a (length terms)) (is_sub a) (lt-ltb a (length terms) (omega (arith, before, within))) (in_any (is_part terms (length terms) a) roots w.0 w.1 (args_parts (length terms) n w.0 a (omega (arith, root)) w.2 here)));
    }

    are_subterms : AreSubterms terms roots subterms
    are_subterms n = (
      λ c S s.
          let f = in_filter is_sub n (range_with_len 0 (length terms)) (contains_has subterms n c) in
          let w = any_in (is_part terms (length terms) n) roots f.1 in
          part_has roots S s (length terms) n w.0 (all_has (λ k. S k ≡ true) roots w.0 s.has_roots w.1) w.2,
      λ h.
          let p = and_parts (nat_lt n (length terms)) (is_sub n) (h is_there closed) in
          Has-contains subterms n (sub_there n (ltb-true n (length terms) p.0) p.1),
    )

-- A literal that is false makes of its atom what the closure begins with, on either side.
against_same : (positive : Bool) (a : Atom) → (equal_pair true (not positive) a ≡ pairs_against positive a) × (predicate_term true (not positive) a ≡ trues_against positive a) × (predicate_term false (not positive) a ≡ falses_against positive a)
against_same true (Atom.Equal a b) = (refl, refl, refl)
against_same true (Atom.Pred t) = (refl, refl, refl)
against_same true (Atom.Card s k) = (refl, refl, refl)
against_same true (Atom.Bound n) = (refl, refl, refl)
against_same false (Atom.Equal a b) = (refl, refl, refl)
against_same false (Atom.Pred t) = (refl, refl, refl)
against_same false (Atom.Card s k) = (refl, refl, refl)
against_same false (Atom.Bound n) = (refl, refl, refl)

all_pairs : (ls : List Literal) → pairs_in true (opposites ls) ≡ pairs_of ls
all_pairs [] = refl
all_pairs (l ∷ ls) = λ i. (against_same l.positive l.atom).0 i ++ all_pairs ls i

all_trues : (ls : List Literal) → terms_in true (opposites ls) ≡ trues_of ls
all_trues [] = refl
all_trues (l ∷ ls) = λ i. (against_same l.positive l.atom).1 i ++ all_trues ls i

all_falses : (ls : List Literal) → terms_in false (opposites ls) ≡ falses_of ls
all_falses [] = refl
all_falses (l ∷ ls) = λ i. (against_same l.positive l.atom).2 i ++ all_falses ls i

facts_same : (ls : List Literal) → facts_in (opposites ls) ≡ facts_against ls
facts_same ls = λ i. facts_of (all_pairs ls i) (all_trues ls i) (all_falses ls i)

-- more terms, more shapes
pub follows_over : (terms : List Term) (ns ms : List ℕ) → ((n : ℕ) → Has ns n → Has ms n) → (facts : List (ℕ × ℕ)) (x y : ℕ) → Follows (shapes_of terms ns) facts x y → Follows (shapes_of terms ms) facts x y
follows_over terms ns ms part facts x y f =
    let at : ℕ → List Shape = λ n. shape_at n (slice_get terms n) in
    more_follows (shapes_of terms ns) facts (shapes_of terms ms) facts
    (λ s c. let w = in_flat at s ns (contains_has (shapes_of terms ns) s c) in Has-contains (shapes_of terms ms) s (flat_in at s ms w.0 (part w.0 w.1) w.2))
    (λ p c. c) x y f

-- a positive equality of the literals, whose sides follow equal
pub record IsJoined (shapes : List Shape) (ls : List Literal) : Type 0 where
  pub left : TermId
  pub right : TermId
  pub has : Has ls (lit true (Atom.Equal left right))
  pub follows : Follows shapes (facts_in (opposites ls)) (object left.0) (object right.0)

-- yes and no follow equal from the opposites, or the sides of such an equality
abbrev pub Closes : List Shape → List Literal → Type 0
Closes shapes ls = Clashes shapes (facts_in (opposites ls)) ⊎ IsJoined shapes ls

joins_some : (shapes : List Shape) (facts : List (ℕ × ℕ)) (a b : TermId) → Follows shapes facts (object a.0) (object b.0) → (ls : List Literal) → Has ls (lit true (Atom.Equal a b)) → JoinsSome shapes facts ls
joins_some shapes facts a b f [] h = absurd h
joins_some shapes facts a b f (l ∷ ls) (inl e) = inl (subst (λ (k : Literal). Joins shapes facts k.positive k.atom) (sym e) f)
joins_some shapes facts a b f (l ∷ ls) (inr h) = inr (joins_some shapes facts a b f ls h)

atom_terms : (held : Held) (a : Atom) (n : ℕ) → is_on_terms held.sig held.terms a ≡ true → Has (terms_of_atom a) n → n < length held.terms
atom_terms held (Atom.Equal a b) n e h = (let low = equality_below held a b e in elim h [
  | inl s ↦ subst (λ k. k < length held.terms) s low.0
  | inr q ↦ elim q [ inl s ↦ subst (λ k. k < length held.terms) s low.1 | inr f ↦ absurd f ]
])
atom_terms held (Atom.Pred t) n e (inl s) = subst (λ k. k < length held.terms) s (predicate_below held t e)
atom_terms held (Atom.Pred t) n e (inr f) = absurd f
atom_terms held (Atom.Card s k) n e h = absurd h
atom_terms held (Atom.Bound k) n e h = absurd h

pub on_terms : (held : Held) (a : Atom) → is_size a ≡ false → IsAtom held a → is_on_terms held.sig held.terms a ≡ true
on_terms held (Atom.Equal a b) g e = e
on_terms held (Atom.Pred t) g e = e
on_terms held (Atom.Card s k) g e = absurd (false≢true (sym g))
on_terms held (Atom.Bound n) g e = absurd (false≢true (sym g))

module _ (held : Held) (support : List ℕ) (ls : List Literal) (there : All (λ n. n < length held.terms) support) where
  below : (n : ℕ) → Has support n → n < length held.terms
  below n h = all_has (λ k. k < length held.terms) support n there h

  pub conflict_by : are_terms held.sig held.terms ≡ true → ((l : Literal) → Has ls l → is_on_terms held.sig held.terms l.atom ≡ true) → Closes (shapes_of held.terms support) ls → IsConflict held.sig held.terms ls support
  conflict_by good on closes =
      let roots = terms_of_clause ls ++ support in
      let low : (n : ℕ) → Has roots n → n < length held.terms = λ n h. elim (in_either n (terms_of_clause ls) support h) [
        | inl q ↦ (let w = in_flat (λ (l : Literal). terms_of_atom l.atom) n ls q in atom_terms held w.0.atom n (on w.0 w.1) w.2)
        | inr q ↦ below n q
      ] in
      let over = subterms held.sig held.terms good roots low in
      let more : (x y : ℕ) → Follows (shapes_of held.terms support) (facts_in (opposites ls)) x y → Follows (shapes_of held.terms over) (facts_against ls) x y =
      λ x y f. subst (λ (facts : List (ℕ × ℕ)). Follows (shapes_of held.terms over) facts x y) (facts_same ls)
      (follows_over held.terms support over (λ n h. root_there held.sig held.terms good roots low n (in_right n (terms_of_clause ls) support h)) (facts_in (opposites ls)) x y f) in
      record {
        on_terms = in_all (λ (l : Literal). is_on_terms held.sig held.terms l.atom) ls on;
        there = in_all (λ n. nat_lt n (length held.terms)) support (λ n h. lt-ltb n (length held.terms) (below n h));
        over = over;
        subterms = are_subterms held.sig held.terms good roots low;
        closes = elim closes [
          | inl f ↦ inl (more yes no f)
          | inr j ↦ inr (joins_some (shapes_of held.terms over) (facts_against ls) j.left j.right (more (object j.left.0) (object j.right.0) j.follows) ls j.has)
        ];
      }

  -- over all terms too
  pub shown_by : Closes (shapes_of held.terms support) ls → ShowsEquality held ls
  shown_by closes t tests =
      let all = range_with_len 0 (length held.terms) in
      let more : (x y : ℕ) → Follows (shapes_of held.terms support) (facts_in (opposites ls)) x y → t.same x y ≡ true =
      λ x y f. (tests.same_is x y).1 (follows_over held.terms support all (λ n h. let lt = below n h in range_in n 0 (length held.terms) (omega arith) (omega (arith, lt))) (facts_in (opposites ls)) x y f) in
      let is_joined : ℕ × ℕ → Bool = λ p. t.same (object p.0) (object p.1) in
      elim closes [
        | inl f ↦ or_left (t.same yes no) _ (more yes no f)
        | inr j ↦
            let pair = flat_in (λ (l : Literal). equal_pair false l.positive l.atom) (j.left.0, j.right.0) (opposites ls) (lit false (Atom.Equal j.left j.right)) (opposite_has ls (lit true (Atom.Equal j.left j.right)) j.has) (inl refl) in
            or_right (t.same yes no) _ (in_any is_joined (pairs_in false (opposites ls)) (j.left.0, j.right.0) pair (more (object j.left.0) (object j.right.0) j.follows))
      ]
