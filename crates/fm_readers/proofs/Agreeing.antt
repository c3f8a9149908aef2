-- The facts of a graph are those of the literals that it has read.
use Rattle.std.proofs.Common.{◌≡◌, ℕ, ◌⊎◌, Bool, true, false, not, cond, List, [], ◌∷◌, map, Option, Some, None, inl, inr, refl, sym, ap, subst, ◌∙◌}
use Rattle.std.specs.Prelude.{slice_get}
use Rattle.std.specs.List.{Contains, cons_option, filter_map}
use Rattle.std.proofs.lemmas.Bool.{false≢true}
use Rattle.fm_base.specs.Resolution.{Has}
use Rattle.fm_base.proofs.Resolution.{mapped_has}
use Rattle.fm_bank.specs.Closure.{AreApart, AreSides, Follows, Shape, no, object, yes}
use Rattle.fm_bank.specs.Interning.{Held}
use Rattle.fm_bank.specs.declared.atom.Atom.{Atom}
use Rattle.fm_bank.specs.declared.literal.Literal.{Literal}
use Rattle.fm_bank.proofs.Closures.{more_follows}
use Rattle.fm_cong.specs.Facts.{joined_by, pairs_of, sides, unequal_by, unequal_of, unequal_sides}
use Rattle.fm_cong.specs.Held.{Held as Graph}
use Rattle.fm_cong.specs.declared.fact.Fact.{Fact}
use Rattle.fm_rounds.proofs.Members.{flat_in, in_either, in_filter, in_flat}
use Rattle.fm_steps.specs.Content.{all_shapes, equal_pair, facts_in, ground_literals_of, is_size, literal_at, literals_of, pairs_in, predicate_term, terms_in}
use Rattle.fm_steps.proofs.Lists.{Has-contains, only_one}
use Rattle.fm_trail.specs.declared.entry.Entry.{Entry}
use Rattle.fm_readers.specs.Agreeing.{TestsAgree}
use Rattle.fm_readers.specs.Graphs.{IsGraphOf, fact_at, facts_read}
use Rattle.fm_readers.proofs.Reasons.{contains_has, fact_read, in_filter_map, lit_fact, named_is}

-- A literal that joins a pair of the facts.
equal_is : (positive : Bool) (a : Atom) (q : ℕ × ℕ) → Has (equal_pair true positive a) q → sides a positive ≡ Some (object q.0, object q.1)
equal_is true (Atom.Equal a b) q h = (let s = only_one (a.0, b.0) q h in ap (λ (p : ℕ × ℕ). Some (object p.0, object p.1)) s)
equal_is false (Atom.Equal a b) q h = absurd h
equal_is true (Atom.Pred t) q h = absurd h
equal_is false (Atom.Pred t) q h = absurd h
equal_is true (Atom.Card s k) q h = absurd h
equal_is false (Atom.Card s k) q h = absurd h
equal_is true (Atom.Bound n) q h = absurd h
equal_is false (Atom.Bound n) q h = absurd h

true_is : (positive : Bool) (a : Atom) (t : ℕ) → Has (predicate_term true positive a) t → sides a positive ≡ Some (object t, yes)
true_is true (Atom.Pred u) t h = (let s = only_one u.0 t h in ap (λ n. Some (object n, yes)) s)
true_is false (Atom.Pred u) t h = absurd h
true_is true (Atom.Equal a b) t h = absurd h
true_is false (Atom.Equal a b) t h = absurd h
true_is true (Atom.Card s k) t h = absurd h
true_is false (Atom.Card s k) t h = absurd h
true_is true (Atom.Bound n) t h = absurd h
true_is false (Atom.Bound n) t h = absurd h

false_is : (positive : Bool) (a : Atom) (t : ℕ) → Has (predicate_term false positive a) t → sides a positive ≡ Some (object t, no)
false_is false (Atom.Pred u) t h = (let s = only_one u.0 t h in ap (λ n. Some (object n, no)) s)
false_is true (Atom.Pred u) t h = absurd h
false_is true (Atom.Equal a b) t h = absurd h
false_is false (Atom.Equal a b) t h = absurd h
false_is true (Atom.Card s k) t h = absurd h
false_is false (Atom.Card s k) t h = absurd h
false_is true (Atom.Bound n) t h = absurd h
false_is false (Atom.Bound n) t h = absurd h

unequal_is : (positive : Bool) (a : Atom) (q : ℕ × ℕ) → Has (equal_pair false positive a) q → unequal_sides a positive ≡ Some q
unequal_is false (Atom.Equal a b) q h = (let s = only_one (a.0, b.0) q h in ap (λ (p : ℕ × ℕ). Some p) s)
unequal_is true (Atom.Equal a b) q h = absurd h
unequal_is true (Atom.Pred t) q h = absurd h
unequal_is false (Atom.Pred t) q h = absurd h
unequal_is true (Atom.Card s k) q h = absurd h
unequal_is false (Atom.Card s k) q h = absurd h
unequal_is true (Atom.Bound n) q h = absurd h
unequal_is false (Atom.Bound n) q h = absurd h

is_unequal : (positive : Bool) (a : Atom) (q : ℕ × ℕ) → unequal_sides a positive ≡ Some q → Has (equal_pair false positive a) q
is_unequal false (Atom.Equal a b) q e = (let s : ◌≡◌ {A = ℕ × ℕ} (a.0, b.0) q = cc e in inl s)
is_unequal true (Atom.Equal a b) q e = cc e
is_unequal true (Atom.Pred t) q e = cc e
is_unequal false (Atom.Pred t) q e = cc e
is_unequal true (Atom.Card s k) q e = cc e
is_unequal false (Atom.Card s k) q e = cc e
is_unequal true (Atom.Bound n) q e = cc e
is_unequal false (Atom.Bound n) q e = cc e

fact_lit : (ls : List Literal) (p : ℕ × ℕ) → Has (facts_in ls) p → (l : Literal) × Has ls l × (sides l.atom l.positive ≡ Some p)
fact_lit ls p h =
    let f : ℕ × ℕ → ℕ × ℕ = λ q. (object q.0, object q.1) in
    let g : ℕ → ℕ × ℕ = λ t. (object t, yes) in
    let j : ℕ → ℕ × ℕ = λ t. (object t, no) in
    elim (in_either p (map f (pairs_in true ls)) _ h) [
      | inl q ↦
          let w = mapped_has f (pairs_in true ls) p q in
          let l = in_flat (λ (l : Literal). equal_pair true l.positive l.atom) w.lit ls w.has in
          (l.0, l.1, equal_is l.0.positive l.0.atom w.lit l.2 ∙ ap Some w.is)
      | inr r ↦ elim (in_either p (map g (terms_in true ls)) _ r) [
        | inl q ↦
            let w = mapped_has g (terms_in true ls) p q in
            let l = in_flat (λ (l : Literal). predicate_term true l.positive l.atom) w.lit ls w.has in
            (l.0, l.1, true_is l.0.positive l.0.atom w.lit l.2 ∙ ap Some w.is)
        | inr q ↦
            let w = mapped_has j (terms_in false ls) p q in
            let l = in_flat (λ (l : Literal). predicate_term false l.positive l.atom) w.lit ls w.has in
            (l.0, l.1, false_is l.0.positive l.0.atom w.lit l.2 ∙ ap Some w.is)
      ]
    ]

by_not : (b : Bool) → not b ≡ true → b ≡ false
by_not true e = absurd (false≢true e)
by_not false e = refl

-- A literal that was read is on a fact.
pub literal_read : (atoms : List Atom) (es : List Entry) (l : Literal) → Has (ground_literals_of atoms es) l → (f : Fact) × Has (facts_read atoms es) f × (f.atom ≡ l.atom) × (f.lit.positive ≡ l.positive)
literal_read atoms es l h =
    let g = in_filter (λ (x : Literal). not (is_size x.atom)) l (literals_of atoms es) h in
    let w = in_flat (λ (e : Entry). literal_at e.lit.positive (slice_get atoms e.lit.atom.0)) l es g.0 in
    let is = named_is w.0.lit.positive (slice_get atoms w.0.lit.atom.0) l w.2 in
    let f : Fact = record { lit = w.0.lit; atom = l.atom } in
    let ground : is_size l.atom ≡ false = by_not (is_size l.atom) g.1 in
    let here : Has (fact_at w.0.lit (slice_get atoms w.0.lit.atom.0)) f =
    subst (λ (o : Option Atom). Has (fact_at w.0.lit o) f) (sym is.0) (subst (λ b. Has (cond b [] (f ∷ [])) f) (sym ground) (inl refl)) in
    (f, flat_in (λ (e : Entry). fact_at e.lit (slice_get atoms e.lit.atom.0)) f es w.0 w.1 here, refl, is.1)

filter_step : {Y : Type 0} (o : Option Y) (ys : List Y) (y : Y) → o ≡ Some y → Has (cons_option o ys) y
filter_step None ys y e = cc e
filter_step (Some z) ys y e = (let s : z ≡ y = cc e in inl s)

filter_past : {Y : Type 0} (o : Option Y) (ys : List Y) (y : Y) → Has ys y → Has (cons_option o ys) y
filter_past None ys y h = h
filter_past (Some z) ys y h = inr h

pub filter_map_in : {X Y : Type 0} (f : X → Option Y) (xs : List X) (x : X) (y : Y) → Has xs x → f x ≡ Some y → Has (filter_map f xs) y
filter_map_in f [] x y h e = absurd h
filter_map_in f (z ∷ xs) x y (inl s) e = filter_step (f z) (filter_map f xs) y (ap f s ∙ e)
filter_map_in f (z ∷ xs) x y (inr q) e = filter_past (f z) (filter_map f xs) y (filter_map_in f xs x y q e)

module _ (held : Held) (es : List Entry) (g : Graph) (h : IsGraphOf held es g) where
  abbrev read : List Literal
  read = ground_literals_of held.atoms es

  facts_have : (f : Fact) → Has g.facts f → Has (facts_read held.atoms es) f
  facts_have f q = subst (λ (fs : List Fact). Has fs f) h.read.facts q

  have_facts : (f : Fact) → Has (facts_read held.atoms es) f → Has g.facts f
  have_facts f q = subst (λ (fs : List Fact). Has fs f) (sym h.read.facts) q

  pairs_to : (p : ℕ × ℕ) → Has (pairs_of g.facts) p → Has (facts_in read) p
  pairs_to p q = (let w = in_filter_map joined_by g.facts p q in lit_fact read w.0.lit.positive w.0.atom p (fact_read held.atoms es w.0 (facts_have w.0 w.1)) w.2)

  pairs_from : (p : ℕ × ℕ) → Has (facts_in read) p → Has (pairs_of g.facts) p
  pairs_from p q =
      let l = fact_lit read p q in
      let f = literal_read held.atoms es l.0 l.1 in
      filter_map_in joined_by g.facts f.0 p (have_facts f.0 f.1) ((λ i. sides (f.2 i) (f.3 i)) ∙ l.2)

  pub unequal_to : (p : ℕ × ℕ) → Has (unequal_of g.facts) p → Has (pairs_in false read) p
  unequal_to p q =
      let w = in_filter_map unequal_by g.facts p q in
      flat_in (λ (l : Literal). equal_pair false l.positive l.atom) p read (record { positive = w.0.lit.positive; atom = w.0.atom }) (fact_read held.atoms es w.0 (facts_have w.0 w.1)) (is_unequal w.0.lit.positive w.0.atom p w.2)

  pub unequal_from : (p : ℕ × ℕ) → Has (pairs_in false read) p → Has (unequal_of g.facts) p
  unequal_from p q =
      let w = in_flat (λ (l : Literal). equal_pair false l.positive l.atom) p read q in
      let f = literal_read held.atoms es w.0 w.1 in
      filter_map_in unequal_by g.facts f.0 p (have_facts f.0 f.1) ((λ i. unequal_sides (f.2 i) (f.3 i)) ∙ unequal_is w.0.positive w.0.atom p w.2)

  shapes_to : (s : Shape) → Contains g.shapes s → Contains (all_shapes held) s
  shapes_to s c = subst (λ (ss : List Shape). Contains ss s) h.terms.shapes c

  shapes_from : (s : Shape) → Contains (all_shapes held) s → Contains g.shapes s
  shapes_from s c = subst (λ (ss : List Shape). Contains ss s) (sym h.terms.shapes) c

  pub follows_to : (x y : ℕ) → Follows g.shapes (pairs_of g.facts) x y → Follows (all_shapes held) (facts_in read) x y
  follows_to x y f = more_follows g.shapes (pairs_of g.facts) (all_shapes held) (facts_in read) shapes_to (λ p c. Has-contains (facts_in read) p (pairs_to p (contains_has (pairs_of g.facts) p c))) x y f

  pub follows_from : (x y : ℕ) → Follows (all_shapes held) (facts_in read) x y → Follows g.shapes (pairs_of g.facts) x y
  follows_from x y f = more_follows (all_shapes held) (facts_in read) g.shapes (pairs_of g.facts) shapes_from (λ p c. Has-contains (pairs_of g.facts) p (pairs_from p (contains_has (facts_in read) p c))) x y f

apart_has : (shapes : List Shape) (facts ps : List (ℕ × ℕ)) (a b : ℕ) → AreApart shapes facts ps a b → (p : ℕ × ℕ) × Has ps p × (AreSides shapes facts a b p ⊎ AreSides shapes facts b a p)
apart_has shapes facts [] a b h = absurd h
apart_has shapes facts (p ∷ ps) a b (inl q) = (p, inl refl, q)
apart_has shapes facts (p ∷ ps) a b (inr q) = (let w = apart_has shapes facts ps a b q in (w.0, inr w.1, w.2))

has_apart : (shapes : List Shape) (facts ps : List (ℕ × ℕ)) (a b : ℕ) (p : ℕ × ℕ) → Has ps p → (AreSides shapes facts a b p ⊎ AreSides shapes facts b a p) → AreApart shapes facts ps a b
has_apart shapes facts [] a b p h q = absurd h
has_apart shapes facts (x ∷ ps) a b p (inl s) q = inl (subst (λ (y : ℕ × ℕ). AreSides shapes facts a b y ⊎ AreSides shapes facts b a y) (sym s) q)
has_apart shapes facts (x ∷ ps) a b p (inr r) q = inr (has_apart shapes facts ps a b p r q)

apart_more : (shapes more : List Shape) (facts further ps qs : List (ℕ × ℕ)) (a b : ℕ) → ((x y : ℕ) → Follows shapes facts x y → Follows more further x y) → ((p : ℕ × ℕ) → Has ps p → Has qs p) → AreApart shapes facts ps a b → AreApart more further qs a b
apart_more shapes more facts further ps qs a b on part h =
    let w = apart_has shapes facts ps a b h in
    let p = w.0 in
    has_apart more further qs a b p (part p w.1) (elim w.2 [
      | inl q ↦ inl (on (object a) (object p.0) q.0, on (object b) (object p.1) q.1)
      | inr q ↦ inr (on (object b) (object p.0) q.0, on (object a) (object p.1) q.1)
    ])

pub tests_agree : TestsAgree
tests_agree held es g t h =
    let read = ground_literals_of held.atoms es in
    let to = follows_to held es g h in
    let from = follows_from held es g h in (
      λ of. record {
        same_is = λ x y. (λ e. to x y ((of.same_is x y).0 e), λ f. (of.same_is x y).1 (from x y f));
        apart_is = λ a b. (
          λ e. apart_more g.shapes (all_shapes held) (pairs_of g.facts) (facts_in read) (unequal_of g.facts) (pairs_in false read) a b to (unequal_to held es g h) ((of.apart_is a b).0 e),
          λ f. (of.apart_is a b).1 (apart_more (all_shapes held) g.shapes (facts_in read) (pairs_of g.facts) (pairs_in false read) (unequal_of g.facts) a b from (unequal_from held es g h) f),
        );
      },
      λ by. record {
        same_is = λ x y. (λ e. from x y ((by.same_is x y).0 e), λ f. (by.same_is x y).1 (to x y f));
        apart_is = λ a b. (
          λ e. apart_more (all_shapes held) g.shapes (facts_in read) (pairs_of g.facts) (pairs_in false read) (unequal_of g.facts) a b from (unequal_from held es g h) ((by.apart_is a b).0 e),
          λ f. (by.apart_is a b).1 (apart_more g.shapes (all_shapes held) (pairs_of g.facts) (facts_in read) (unequal_of g.facts) (pairs_in false read) a b to (unequal_to held es g h) f),
        );
      },
    )
