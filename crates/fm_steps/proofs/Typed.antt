-- The test of Congruence is a congruence that keeps types.
use Rattle.std.proofs.Common.{◌≡◌, ℕ, zero, suc, ◌-◌, ◌<◌, ◌==◌, Bool, true, false, not, cond, nat_lt, List, [], ◌∷◌, ◌++◌, length, map, Some, None, inl, inr, refl, sym, ap, subst, ◌∙◌, arith}
use Rattle.std.specs.Prelude.{Option, slice_get}
use Rattle.std.specs.List.{All, range_with_len}
use Rattle.std.proofs.lemmas.Bool.{and_from, and_parts, eq-eqb, eqb-true, false≢true, le-ltb}
use Rattle.fm_base.specs.Resolution.{Has}
use Rattle.fm_base.specs.declared.ids.Reader.{Reader}
use Rattle.fm_base.specs.declared.signature.Sig.{Sig}
use Rattle.fm_base.specs.declared.signature.Ty.{Ty}
use Rattle.fm_base.proofs.Resolution.{mapped_has}
use Rattle.fm_bank.specs.Closure.{AreMerged, Follows, IsClosed, Shape, are_related, no, object, shape_at, yes}
use Rattle.fm_bank.specs.Interning.{are_of_one_sort, is_atom}
use Rattle.fm_bank.specs.Terms.{Term, is_type, result_type, type_in, type_of}
use Rattle.fm_bank.specs.declared.atom.Atom.{Atom}
use Rattle.fm_bank.specs.declared.literal.Literal.{Literal}
use Rattle.fm_rounds.proofs.Members.{flat_in, in_either, in_filter, in_flat, range_in}
use Rattle.fm_trail.specs.declared.entry.Entry.{Entry}
use Rattle.fm_steps.specs.Content.{all_shapes, equal_pair, facts_in, is_size, literal_at, literals_of, pairs_in, predicate_term, terms_in}
use Rattle.fm_steps.specs.Grounded.{IsTypedCongruence, TestsAreTyped}
use Rattle.fm_steps.specs.Lines.{IsWellHeld}
use Rattle.fm_steps.specs.Picks.{IsKnown, Known, read_literals}
use Rattle.fm_steps.specs.State.{Problem, State, read_by}
use Rattle.fm_steps.proofs.Due.{atom_step}
use Rattle.fm_steps.proofs.Lists.{Has-get, all_from, all_has, only_one}
use Rattle.fm_steps.proofs.Runs.{runs_stay_held}
use Rattle.fm_steps.proofs.Shown.{entry_literal}

-- one type
abbrev same_kind : Option Ty → Option Ty → Bool
same_kind None None = true
same_kind None (Some u) = false
same_kind (Some t) None = false
same_kind (Some t) (Some u) = is_type (Some t) u

kind_refl : (o : Option Ty) → same_kind o o ≡ true
kind_refl None = refl
kind_refl (Some Ty.Bool) = refl
kind_refl (Some (Ty.Of r)) = eq-eqb r.0 r.0 refl

kind_is : (o q : Option Ty) → same_kind o q ≡ true → o ≡ q
kind_is None None e = refl
kind_is None (Some u) e = absurd (false≢true e)
kind_is (Some t) None e = absurd (false≢true e)
kind_is (Some Ty.Bool) (Some Ty.Bool) e = refl
kind_is (Some Ty.Bool) (Some (Ty.Of r)) e = absurd (false≢true e)
kind_is (Some (Ty.Of r)) (Some Ty.Bool) e = absurd (false≢true e)
kind_is (Some (Ty.Of r)) (Some (Ty.Of q)) e = let same = eqb-true r.0 q.0 e in λ i. Some (Ty.Of (record { 0 = same i }))

is_kind : (o q : Option Ty) → o ≡ q → same_kind o q ≡ true
is_kind o q e = subst (λ (x : Option Ty). same_kind o x ≡ true) e (kind_refl o)

one_kind : (o q : Option Ty) → are_of_one_sort o q ≡ true → same_kind o q ≡ true
one_kind None q e = absurd (false≢true e)
one_kind (Some Ty.Bool) q e = absurd (false≢true e)
one_kind (Some (Ty.Of r)) None e = absurd (false≢true e)
one_kind (Some (Ty.Of r)) (Some Ty.Bool) e = absurd (false≢true e)
one_kind (Some (Ty.Of r)) (Some (Ty.Of q)) e = let same = eqb-true q.0 r.0 e in eq-eqb r.0 q.0 (sym same)

bool_kind : (o : Option Ty) → is_type o Ty.Bool ≡ true → o ≡ Some Ty.Bool
bool_kind None e = absurd (false≢true e)
bool_kind (Some Ty.Bool) e = refl
bool_kind (Some (Ty.Of r)) e = absurd (false≢true e)

same_list : (R : ℕ → ℕ → Bool) (S : ℕ → ℕ → Bool) → ((x y : ℕ) → R x y ≡ true → S x y ≡ true) → (xs ys : List ℕ) → are_related R xs ys ≡ true → are_related S xs ys ≡ true
same_list R S i [] [] e = e
same_list R S i [] (y ∷ ys) e = e
same_list R S i (x ∷ xs) [] e = e
same_list R S i (x ∷ xs) (y ∷ ys) e =
    let p = and_parts (R (object x) (object y)) (are_related R xs ys) e in
    and_from (S (object x) (object y)) (are_related S xs ys) (i (object x) (object y) p.0) (same_list R S i xs ys p.1)

shape_is : (n : ℕ) (o : Option Term) (x : Shape) → Has (shape_at n o) x → (t : Term) × (o ≡ Some t) × (x.number ≡ n) × (x.symbol ≡ t.symbol)
shape_is n None x h = absurd h
shape_is n (Some t) x h =
    let e = only_one (record { number = n; symbol = t.symbol; args = t.args }) x h in
    (t, refl, sym (ap (λ (y : Shape). y.number) e), sym (ap (λ (y : Shape). y.symbol) e))

module _ (p : Problem) (s : State) (k : Known) (held : IsWellHeld p s) (is : IsKnown s k) where
  abbrev sig : Sig
  sig = s.held.sig

  abbrev terms : List Term
  terms = s.held.terms

  abbrev read : List Literal
  read = read_literals Reader.Congruence s

  -- the type of an object
  abbrev kind : ℕ → Option Ty
  kind x = cond (nat_lt x 2) (Some Ty.Bool) (type_of sig terms (x - 2))

  kind_object : (n : ℕ) → kind (object n) ≡ type_of sig terms n
  kind_object n =
      let far : nat_lt (object n) 2 ≡ false = le-ltb (object n) 2 (omega arith) in
      let back : object n - 2 ≡ n = omega arith in
      ap (λ (b : Bool). cond b (Some Ty.Bool) (type_of sig terms (object n - 2))) far ∙ ap (type_of sig terms) back

  abbrev R : ℕ → ℕ → Bool
  R x y = same_kind (kind x) (kind y)

  read_atom : (l : Literal) → Has read l → is_atom sig terms l.atom ≡ true
  read_atom l h =
      let g = (in_filter (λ (x : Literal). not (is_size x.atom)) l (literals_of s.held.atoms (read_by Reader.Congruence s)) h).0 in
      let e = in_flat (λ (x : Entry). literal_at x.lit.positive (slice_get s.held.atoms x.lit.atom.0)) l (read_by Reader.Congruence s) g in
      let parts = entry_literal e.0.lit.positive (slice_get s.held.atoms e.0.lit.atom.0) l e.2 in
      atom_step sig terms [] s.held.atoms l.atom held.held.atoms_good (Has-get s.held.atoms e.0.lit.atom.0 l.atom parts.0)

  pair_typed : (positive : Bool) (a : Atom) (q : ℕ × ℕ) → is_atom sig terms a ≡ true → Has (equal_pair true positive a) q → R (object q.0) (object q.1) ≡ true
  pair_typed true (Atom.Equal a b) q e h =
      let same = only_one (a.0, b.0) q h in
      let kinds = one_kind (type_of sig terms a.0) (type_of sig terms b.0) (and_parts _ (are_of_one_sort (type_of sig terms a.0) (type_of sig terms b.0)) e).1 in
      subst (λ (r : ℕ × ℕ). R (object r.0) (object r.1) ≡ true) same (is_kind (kind (object a.0)) (kind (object b.0)) (kind_object a.0 ∙ (kind_is _ _ kinds ∙ sym (kind_object b.0))))
  pair_typed true (Atom.Pred t) q e h = absurd h
  pair_typed true (Atom.Card u j) q e h = absurd h
  pair_typed true (Atom.Bound n) q e h = absurd h
  pair_typed false (Atom.Equal a b) q e h = absurd h
  pair_typed false (Atom.Pred t) q e h = absurd h
  pair_typed false (Atom.Card u j) q e h = absurd h
  pair_typed false (Atom.Bound n) q e h = absurd h

  term_typed : (wanted positive : Bool) (a : Atom) (n : ℕ) → is_atom sig terms a ≡ true → Has (predicate_term wanted positive a) n → kind (object n) ≡ Some Ty.Bool
  term_typed true true (Atom.Pred t) n e h = kind_object n ∙ (ap (type_of sig terms) (sym (only_one t.0 n h)) ∙ bool_kind (type_of sig terms t.0) e)
  term_typed false false (Atom.Pred t) n e h = kind_object n ∙ (ap (type_of sig terms) (sym (only_one t.0 n h)) ∙ bool_kind (type_of sig terms t.0) e)
  term_typed true false (Atom.Pred t) n e h = absurd h
  term_typed false true (Atom.Pred t) n e h = absurd h
  term_typed true true (Atom.Equal a b) n e h = absurd h
  term_typed true false (Atom.Equal a b) n e h = absurd h
  term_typed false true (Atom.Equal a b) n e h = absurd h
  term_typed false false (Atom.Equal a b) n e h = absurd h
  term_typed true true (Atom.Card u j) n e h = absurd h
  term_typed true false (Atom.Card u j) n e h = absurd h
  term_typed false true (Atom.Card u j) n e h = absurd h
  term_typed false false (Atom.Card u j) n e h = absurd h
  term_typed true true (Atom.Bound m) n e h = absurd h
  term_typed true false (Atom.Bound m) n e h = absurd h
  term_typed false true (Atom.Bound m) n e h = absurd h
  term_typed false false (Atom.Bound m) n e h = absurd h

  read_typed : (wanted : Bool) (n : ℕ) → Has (terms_in wanted read) n → kind (object n) ≡ Some Ty.Bool
  read_typed wanted n h =
      let w = in_flat (λ (l : Literal). predicate_term wanted l.positive l.atom) n read h in
      term_typed wanted w.0.positive w.0.atom n (read_atom w.0 w.1) w.2

  fact_typed : (x : ℕ × ℕ) → Has (facts_in read) x → R x.0 x.1 ≡ true
  fact_typed x h =
      let f : ℕ × ℕ → ℕ × ℕ = λ q. (object q.0, object q.1) in
      let g : ℕ → ℕ × ℕ = λ t. (object t, yes) in
      let j : ℕ → ℕ × ℕ = λ t. (object t, no) in
      elim (in_either x (map f (pairs_in true read)) (map g (terms_in true read) ++ map j (terms_in false read)) h) [
        | inl q ↦ (let m = mapped_has f (pairs_in true read) x q in
            let w = in_flat (λ (l : Literal). equal_pair true l.positive l.atom) m.lit read m.has in
            subst (λ (y : ℕ × ℕ). R y.0 y.1 ≡ true) m.is (pair_typed w.0.positive w.0.atom m.lit (read_atom w.0 w.1) w.2))
        | inr r ↦ elim (in_either x (map g (terms_in true read)) (map j (terms_in false read)) r) [
          | inl q ↦ (let m = mapped_has g (terms_in true read) x q in subst (λ (y : ℕ × ℕ). R y.0 y.1 ≡ true) m.is (is_kind (kind (object m.lit)) (kind yes) (read_typed true m.lit m.has)))
          | inr q ↦ (let m = mapped_has j (terms_in false read) x q in subst (λ (y : ℕ × ℕ). R y.0 y.1 ≡ true) m.is (is_kind (kind (object m.lit)) (kind no) (read_typed false m.lit m.has)))
        ]
      ]

  shape_typed : (x : Shape) → Has (all_shapes s.held) x → kind (object x.number) ≡ result_type (slice_get sig.ranks x.symbol)
  shape_typed x h =
      let w = in_flat (λ n. shape_at n (slice_get terms n)) x (range_with_len 0 (length terms)) h in
      let q = shape_is w.0 (slice_get terms w.0) x w.2 in
      kind_object x.number ∙ (ap (type_of sig terms) q.2 ∙ (ap (λ (o : Option Term). type_in sig o) q.1 ∙ ap (λ n. result_type (slice_get sig.ranks n)) (sym q.3)))

  merged_typed : (a b : Shape) → Has (all_shapes s.held) a → Has (all_shapes s.held) b → AreMerged R a b
  merged_typed a b ha hb e =
      let symbol = eqb-true a.symbol b.symbol (and_parts (a.symbol == b.symbol) (are_related R a.args b.args) e).0 in
      is_kind (kind (object a.number)) (kind (object b.number)) (shape_typed a ha ∙ (ap (λ n. result_type (slice_get sig.ranks n)) symbol ∙ sym (shape_typed b hb)))

  typed_closed : IsClosed (all_shapes s.held) (facts_in read) R
  typed_closed = record {
    reflexive = λ x. kind_refl (kind x);
    symmetric = λ x y e. is_kind (kind y) (kind x) (sym (kind_is (kind x) (kind y) e));
    transitive = λ x y z e f. is_kind (kind x) (kind z) (kind_is (kind x) (kind y) e ∙ kind_is (kind y) (kind z) f);
    facts_hold = all_from (λ (q : ℕ × ℕ). R q.0 q.1 ≡ true) (facts_in read) fact_typed;
    congruent = all_from (λ (a : Shape). All (AreMerged R a) (all_shapes s.held)) (all_shapes s.held) (λ a ha. all_from (AreMerged R a) (all_shapes s.held) (λ b hb. merged_typed a b ha hb));
  }

  follows : (x y : ℕ) → k.congruence.same x y ≡ true → Follows (all_shapes s.held) (facts_in read) x y
  follows x y e = (is.congruence.same_is x y).0 e

  tells : (x y : ℕ) → Follows (all_shapes s.held) (facts_in read) x y → k.congruence.same x y ≡ true
  tells x y e = (is.congruence.same_is x y).1 e

  shape_there : (n : ℕ) (t : Term) → slice_get terms n ≡ Some t → Has (all_shapes s.held) (record { number = n; symbol = t.symbol; args = t.args })
  shape_there n t at =
      flat_in (λ i. shape_at i (slice_get terms i)) (record { number = n; symbol = t.symbol; args = t.args }) (range_with_len 0 (length terms)) n (range_in n 0 (length terms) (omega arith) (let lt = within terms n t at in omega (arith, lt)))
      (subst (λ (o : Option Term). Has (shape_at n o) (record { number = n; symbol = t.symbol; args = t.args })) (sym at) (inl refl))
    where
      within : {X : Type 0} (xs : List X) (i : ℕ) (x : X) → slice_get xs i ≡ Some x → i < length xs
      within [] i x e = absurd (cc e)
      within (y ∷ ys) zero x e = omega arith
      within (y ∷ ys) (suc i) x e = let lt = within ys i x e in omega (arith, lt)

  is_congruence : (a b : ℕ) (t u : Term) → slice_get terms a ≡ Some t → slice_get terms b ≡ Some u → t.symbol ≡ u.symbol → are_related k.congruence.same t.args u.args ≡ true → k.congruence.same (object a) (object b) ≡ true
  is_congruence a b t u at au symbol args =
      tells (object a) (object b) (λ S c.
      let x : Shape = record { number = a; symbol = t.symbol; args = t.args } in
      let y : Shape = record { number = b; symbol = u.symbol; args = u.args } in
      let merged = all_has (AreMerged S x) (all_shapes s.held) y (all_has (λ (z : Shape). All (AreMerged S z) (all_shapes s.held)) (all_shapes s.held) x c.congruent (shape_there a t at)) (shape_there b u au) in
      merged (and_from (t.symbol == u.symbol) (are_related S t.args u.args) (eq-eqb t.symbol u.symbol symbol) (same_list k.congruence.same S (λ v w e. follows v w e S c) t.args u.args args)))

  pub typed_congruence : IsTypedCongruence s k.congruence.same
  typed_congruence = record {
    terms = held.held.terms_good;
    reflexive = λ x. tells x x (λ S c. c.reflexive x);
    symmetric = λ x y e. tells y x (λ S c. c.symmetric x y (follows x y e S c));
    transitive = λ x y z e f. tells x z (λ S c. c.transitive x y z (follows x y e S c) (follows y z f S c));
    congruent = is_congruence;
    typed = λ a b e. sym (kind_object a) ∙ (kind_is (kind (object a)) (kind (object b)) (follows (object a) (object b) e R typed_closed) ∙ kind_object b);
  }

pub tests_are_typed : TestsAreTyped
tests_are_typed p b events s k sorted h is = typed_congruence p s k (runs_stay_held p b events s sorted h) is
