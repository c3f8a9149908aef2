-- Ground congruence closure can be computed: tests that say what follows equal and what is apart exist for all terms and
-- facts.
use Rattle.std.proofs.Common.{◌≡◌, ℕ, zero, suc, ◌<◌, ◌≤◌, ◌==◌, Bool, true, false, not, ◌&&◌, ◌||◌, cond, List, [], ◌∷◌, ◌++◌, length, map, inl, inr, refl, sym, ap, subst, ◌∙◌, arith}
use Rattle.std.specs.List.{All, filter, flat_map}
use Rattle.std.proofs.lemmas.Bool.{and_from, and_parts, cases_Bool, eq-eqb, eqb-true, false≢true, or_cases, or_left, or_right}
use Rattle.fm_base.specs.Resolution.{Has}
use Rattle.fm_bank.specs.Closure.{AreApart, AreMerged, AreSides, Follows, IsClosed, Shape, are_congruent, are_related, object}
use Rattle.fm_bank.specs.Tests.{AreTests, Tests}
use Rattle.fm_rounds.proofs.Members.{flat_in, in_filter, in_flat, in_left, in_right, in_either}
use Rattle.fm_base.specs.declared.ids.Reader.{Reader}
use Rattle.fm_base.proofs.Resolution.{has_mapped, mapped_has}
use Rattle.fm_steps.proofs.Lists.{all_from, all_has}
use Rattle.fm_steps.specs.Content.{all_shapes, facts_in, pairs_in}
use Rattle.fm_steps.specs.Laws.{EachIsKnown}
use Rattle.fm_steps.specs.Picks.{read_literals}

-- a relation by the representative of each object
abbrev by : (ℕ → ℕ) → ℕ → ℕ → Bool
by f x y = f x == f y

abbrev joined : ℕ → ℕ → (ℕ → ℕ) → ℕ → ℕ
joined a b f x = cond (f x == f a) (f b) (f x)

-- what has to be joined, and where
record Rule : Type 0 where
  asks : (ℕ → ℕ → Bool) → Bool
  left : ℕ
  right : ℕ

abbrev is_open : (ℕ → ℕ) → Rule → Bool
is_open f r = not (by f r.left r.right)

abbrev is_due : (ℕ → ℕ) → Rule → Bool
is_due f r = r.asks (by f) && is_open f r

-- fewer pass a stricter test
fewer_step : (a b : Bool) (m n : ℕ) → (b ≡ true → a ≡ true) → m ≤ n → cond b (suc m) m ≤ cond a (suc n) n
fewer_step true true m n i h = omega (arith, h)
fewer_step true false m n i h = omega (arith, h)
fewer_step false true m n i h = absurd (false≢true (i refl))
fewer_step false false m n i h = h

long : {X : Type 0} (p : X → Bool) (b : Bool) (x : X) (xs : List X) → length (cond b (x ∷ filter p xs) (filter p xs)) ≡ cond b (suc (length (filter p xs))) (length (filter p xs))
long p true x xs = refl
long p false x xs = refl

fewer : {X : Type 0} (p q : X → Bool) → ((x : X) → q x ≡ true → p x ≡ true) → (xs : List X) → length (filter q xs) ≤ length (filter p xs)
fewer p q i [] = omega arith
fewer p q i (x ∷ xs) =
    let h = fewer_step (p x) (q x) (length (filter q xs)) (length (filter p xs)) (i x) (fewer p q i xs) in
    let a = long q (q x) x xs in
    let c = long p (p x) x xs in
    omega (arith, h, a, c)

less_step : (a b : Bool) (m n : ℕ) → (b ≡ true → a ≡ true) → m < n → cond b (suc m) m < cond a (suc n) n
less_step true true m n i h = omega (arith, h)
less_step true false m n i h = omega (arith, h)
less_step false true m n i h = absurd (false≢true (i refl))
less_step false false m n i h = h

here_less : (a b : Bool) (m n : ℕ) → a ≡ true → b ≡ false → m ≤ n → cond b (suc m) m < cond a (suc n) n
here_less true false m n t f h = omega (arith, h)
here_less true true m n t f h = absurd (false≢true (sym f))
here_less false b m n t f h = absurd (false≢true t)

less : {X : Type 0} (p q : X → Bool) → ((x : X) → q x ≡ true → p x ≡ true) → (xs : List X) (y : X) → Has xs y → p y ≡ true → q y ≡ false → length (filter q xs) < length (filter p xs)
less p q i [] y h t f = absurd h
less p q i (x ∷ xs) y (inl e) t f =
    let h = here_less (p x) (q x) (length (filter q xs)) (length (filter p xs)) (ap p e ∙ t) (ap q e ∙ f) (fewer p q i xs) in
    let a = long q (q x) x xs in
    let c = long p (p x) x xs in
    omega (arith, h, a, c)
less p q i (x ∷ xs) y (inr r) t f =
    let h = less_step (p x) (q x) (length (filter q xs)) (length (filter p xs)) (i x) (less p q i xs y r t f) in
    let a = long q (q x) x xs in
    let c = long p (p x) x xs in
    omega (arith, h, a, c)

module _ (shapes : List Shape) (facts : List (ℕ × ℕ)) where
  follows_refl : (x : ℕ) → Follows shapes facts x x
  follows_refl x R c = c.reflexive x

  follows_sym : (x y : ℕ) → Follows shapes facts x y → Follows shapes facts y x
  follows_sym x y h R c = c.symmetric x y (h R c)

  follows_trans : (x y z : ℕ) → Follows shapes facts x y → Follows shapes facts y z → Follows shapes facts x z
  follows_trans x y z h k R c = c.transitive x y z (h R c) (k R c)

  -- what is joined follows
  abbrev IsSound : (ℕ → ℕ) → Type 0
  IsSound f = (x y : ℕ) → by f x y ≡ true → Follows shapes facts x y

  abbrev IsRule : Rule → Type 0
  IsRule r = (f : ℕ → ℕ) → IsSound f → r.asks (by f) ≡ true → Follows shapes facts r.left r.right

  -- the representatives of two objects after a join
  join_cases : (f : ℕ → ℕ) (x y a b : ℕ) (c d : Bool) → (f x == f a) ≡ c → (f y == f a) ≡ d → cond c (f b) (f x) ≡ cond d (f b) (f y) → IsSound f → Follows shapes facts a b → Follows shapes facts x y
  join_cases f x y a b true true p q e s h = follows_trans x a y (s x a p) (follows_sym y a (s y a q))
  join_cases f x y a b true false p q e s h = follows_trans x a y (s x a p) (follows_trans a b y h (s b y (eq-eqb (f b) (f y) e)))
  join_cases f x y a b false true p q e s h = follows_trans x b y (s x b (eq-eqb (f x) (f b) e)) (follows_trans b a y (follows_sym a b h) (follows_sym y a (s y a q)))
  join_cases f x y a b false false p q e s h = s x y (eq-eqb (f x) (f y) e)

  join_sound : (f : ℕ → ℕ) (a b : ℕ) → IsSound f → Follows shapes facts a b → IsSound (joined a b f)
  join_sound f a b s h x y e = join_cases f x y a b (f x == f a) (f y == f a) refl refl (eqb-true (joined a b f x) (joined a b f y) e) s h

  -- what was joined stays so, and the two are
  join_keeps : (f : ℕ → ℕ) (a b x y : ℕ) → by f x y ≡ true → by (joined a b f) x y ≡ true
  join_keeps f a b x y e = eq-eqb (joined a b f x) (joined a b f y) (ap (λ n. cond (n == f a) (f b) n) (eqb-true (f x) (f y) e))

  side_is : (c : Bool) (m n : ℕ) → c ≡ true → cond c m n ≡ m
  side_is true m n e = refl
  side_is false m n e = absurd (false≢true e)

  other_is : (c : Bool) (m : ℕ) → cond c m m ≡ m
  other_is true m = refl
  other_is false m = refl

  join_joins : (f : ℕ → ℕ) (a b : ℕ) → by (joined a b f) a b ≡ true
  join_joins f a b = eq-eqb (joined a b f a) (joined a b f b) (side_is (f a == f a) (f b) (f a) (eq-eqb (f a) (f a) refl) ∙ sym (other_is (f b == f a) (f b)))

  open_less : (f : ℕ → ℕ) (a b : ℕ) (r : Rule) → is_open (joined a b f) r ≡ true → is_open f r ≡ true
  open_less f a b r o =
      elim (cases_Bool (by f r.left r.right)) [
        | inl t ↦ absurd (false≢true (sym (ap not (join_keeps f a b r.left r.right t)) ∙ o))
        | inr u ↦ ap not u
      ]

  -- sound representatives that meet all rules
  record IsEnd (rules : List Rule) (f : ℕ → ℕ) : Type 0 where
    sound : IsSound f
    met : (r : Rule) → Has rules r → r.asks (by f) ≡ true → by f r.left r.right ≡ true

  -- where no rule is due all are met
  met_by : (a b : Bool) → (a && not b) ≡ false → a ≡ true → b ≡ true
  met_by true true e t = refl
  met_by true false e t = absurd (false≢true (sym e))
  met_by false b e t = absurd (false≢true t)

  none_step : {X : Type 0} (p : X → Bool) (y : X) (ys : List X) (x : X) (b : Bool) → p y ≡ b → cond b (y ∷ filter p ys) (filter p ys) ≡ [] → Has (y ∷ ys) x → (filter p ys ≡ [] → Has ys x → p x ≡ false) → p x ≡ false
  none_step p y ys x true q e h rec = absurd (cc e)
  none_step p y ys x false q e (inl s) rec = ap p (sym s) ∙ q
  none_step p y ys x false q e (inr h) rec = rec e h

  none_passes : {X : Type 0} (p : X → Bool) (xs : List X) (x : X) → filter p xs ≡ [] → Has xs x → p x ≡ false
  none_passes p [] x e h = absurd h
  none_passes p (y ∷ ys) x e h = none_step p y ys x (p y) refl e h (none_passes p ys x)

  module _ (rules : List Rule) (are_rules : (r : Rule) → Has rules r → IsRule r) where
    abbrev open_in : (ℕ → ℕ) → ℕ
    open_in f = length (filter (is_open f) rules)

    -- a rule that is due is carried out, and one pair less is open
    step : (f : ℕ → ℕ) (xs : List Rule) → filter (is_due f) rules ≡ xs → IsSound f → ((g : ℕ → ℕ) → IsSound g → open_in g < open_in f → (g : ℕ → ℕ) × IsEnd rules g) → (g : ℕ → ℕ) × IsEnd rules g
    step f [] e s rec = (f, record { sound = s; met = λ r h t. met_by (r.asks (by f)) (by f r.left r.right) (none_passes (is_due f) rules r e h) t })
    step f (r ∷ rs) e s rec =
        let first : Has (filter (is_due f) rules) r = subst (λ (ys : List Rule). Has ys r) (sym e) (inl refl) in
        let here = in_filter (is_due f) r rules first in
        let due = and_parts (r.asks (by f)) (is_open f r) here.1 in
        let follows = are_rules r here.0 f s due.0 in
        let closed : is_open (joined r.left r.right f) r ≡ false = ap not (join_joins f r.left r.right) in
        rec (joined r.left r.right f) (join_sound f r.left r.right s follows) (less (is_open f) (is_open (joined r.left r.right f)) (open_less f r.left r.right) rules r here.0 due.1 closed)

    build : (n : ℕ) (f : ℕ → ℕ) → IsSound f → open_in f ≤ n → (g : ℕ → ℕ) × IsEnd rules g
    build zero f s le = step f (filter (is_due f) rules) refl s (λ g t lt. absurd (omega (arith, le, lt)))
    build (suc n) f s le = step f (filter (is_due f) rules) refl s (λ g t lt. build n g t (omega (arith, le, lt)))

  abbrev fact_rule : ℕ × ℕ → Rule
  fact_rule p = record { asks = λ R. true; left = p.0; right = p.1 }

  abbrev pair_rule : Shape → Shape → Rule
  pair_rule a b = record { asks = λ R. are_congruent R a b; left = object a.number; right = object b.number }

  abbrev pair_rules : Shape → List Rule
  pair_rules a = map (pair_rule a) shapes

  abbrev all_rules : List Rule
  all_rules = map fact_rule facts ++ flat_map pair_rules shapes

  related_more : (R S : ℕ → ℕ → Bool) → ((x y : ℕ) → R x y ≡ true → S x y ≡ true) → (xs ys : List ℕ) → are_related R xs ys ≡ true → are_related S xs ys ≡ true
  related_more R S i [] [] e = e
  related_more R S i [] (y ∷ ys) e = e
  related_more R S i (x ∷ xs) [] e = e
  related_more R S i (x ∷ xs) (y ∷ ys) e =
      let p = and_parts (R (object x) (object y)) (are_related R xs ys) e in
      and_from (S (object x) (object y)) (are_related S xs ys) (i (object x) (object y) p.0) (related_more R S i xs ys p.1)

  congruent_more : (R S : ℕ → ℕ → Bool) → ((x y : ℕ) → R x y ≡ true → S x y ≡ true) → (a b : Shape) → are_congruent R a b ≡ true → are_congruent S a b ≡ true
  congruent_more R S i a b e =
      let p = and_parts (a.symbol == b.symbol) (are_related R a.args b.args) e in
      and_from (a.symbol == b.symbol) (are_related S a.args b.args) p.0 (related_more R S i a.args b.args p.1)

  fact_is : (p : ℕ × ℕ) → Has facts p → IsRule (fact_rule p)
  fact_is p h f s e R c = all_has (λ (q : ℕ × ℕ). R q.0 q.1 ≡ true) facts p c.facts_hold h

  pair_is : (a b : Shape) → Has shapes a → Has shapes b → IsRule (pair_rule a b)
  pair_is a b ha hb f s e R c = all_has (AreMerged R a) shapes b (all_has (λ (x : Shape). All (AreMerged R x) shapes) shapes a c.congruent ha) hb (congruent_more (by f) R (λ x y t. s x y t R c) a b e)

  rules_are : (r : Rule) → Has all_rules r → IsRule r
  rules_are r h =
      elim (in_either r (map fact_rule facts) (flat_map pair_rules shapes) h) [
        | inl q ↦ (let m = mapped_has fact_rule facts r q in subst IsRule m.is (fact_is m.lit m.has))
        | inr q ↦ (let a = in_flat pair_rules r shapes q in
            let m = mapped_has (pair_rule a.0) shapes r a.2 in
            subst IsRule m.is (pair_is a.0 m.lit a.1 m.has))
      ]

  itself : IsSound (λ x. x)
  itself x y e = subst (λ z. Follows shapes facts x z) (eqb-true x y e) (follows_refl x)

  whole : (g : ℕ → ℕ) × IsEnd all_rules g
  whole = build all_rules rules_are (open_in all_rules rules_are (λ x. x)) (λ x. x) itself (omega arith)

  closed_by : (g : ℕ → ℕ) → IsEnd all_rules g → IsClosed shapes facts (by g)
  closed_by g h = record {
    reflexive = λ x. eq-eqb (g x) (g x) refl;
    symmetric = λ x y e. eq-eqb (g y) (g x) (sym (eqb-true (g x) (g y) e));
    transitive = λ x y z e f. eq-eqb (g x) (g z) (eqb-true (g x) (g y) e ∙ eqb-true (g y) (g z) f);
    facts_hold = all_from (λ (p : ℕ × ℕ). by g p.0 p.1 ≡ true) facts (λ p q. h.met (fact_rule p) (in_left (fact_rule p) (map fact_rule facts) (flat_map pair_rules shapes) (has_mapped fact_rule facts p q)) refl);
    congruent = all_from (λ (a : Shape). All (AreMerged (by g) a) shapes) shapes (λ a ha. all_from (AreMerged (by g) a) shapes (λ b hb. h.met (pair_rule a b) (in_right (pair_rule a b) (map fact_rule facts) (flat_map pair_rules shapes) (flat_in pair_rules (pair_rule a b) shapes a ha (has_mapped (pair_rule a) shapes b hb)))));
  }

  abbrev sides : (ℕ → ℕ) → ℕ → ℕ → ℕ × ℕ → Bool
  sides g a b p = by g (object a) (object p.0) && by g (object b) (object p.1)

  abbrev apart_by : (ℕ → ℕ) → List (ℕ × ℕ) → ℕ → ℕ → Bool
  apart_by g [] a b = false
  apart_by g (p ∷ ps) a b = (sides g a b p || sides g b a p) || apart_by g ps a b

  module _ (g : ℕ → ℕ) (h : IsEnd all_rules g) where
    sides_are : (a b : ℕ) (p : ℕ × ℕ) → sides g a b p ≡ true → AreSides shapes facts a b p
    sides_are a b p e = let q = and_parts (by g (object a) (object p.0)) (by g (object b) (object p.1)) e in (h.sound (object a) (object p.0) q.0, h.sound (object b) (object p.1) q.1)

    are_sides : (a b : ℕ) (p : ℕ × ℕ) → AreSides shapes facts a b p → sides g a b p ≡ true
    are_sides a b p e = and_from (by g (object a) (object p.0)) (by g (object b) (object p.1)) (e.0 (by g) (closed_by g h)) (e.1 (by g) (closed_by g h))

    apart_are : (ps : List (ℕ × ℕ)) (a b : ℕ) → apart_by g ps a b ≡ true → AreApart shapes facts ps a b
    apart_are [] a b e = absurd (false≢true e)
    apart_are (p ∷ ps) a b e =
        elim (or_cases (sides g a b p || sides g b a p) (apart_by g ps a b) e) [
          | inl q ↦ elim (or_cases (sides g a b p) (sides g b a p) q) [ inl r ↦ inl (inl (sides_are a b p r)) | inr r ↦ inl (inr (sides_are b a p r)) ]
          | inr q ↦ inr (apart_are ps a b q)
        ]

    are_apart : (ps : List (ℕ × ℕ)) (a b : ℕ) → AreApart shapes facts ps a b → apart_by g ps a b ≡ true
    are_apart [] a b e = absurd e
    are_apart (p ∷ ps) a b (inl (inl q)) = or_left (sides g a b p || sides g b a p) (apart_by g ps a b) (or_left (sides g a b p) (sides g b a p) (are_sides a b p q))
    are_apart (p ∷ ps) a b (inl (inr q)) = or_left (sides g a b p || sides g b a p) (apart_by g ps a b) (or_right (sides g a b p) (sides g b a p) (are_sides b a p q))
    are_apart (p ∷ ps) a b (inr q) = or_right (sides g a b p || sides g b a p) (apart_by g ps a b) (are_apart ps a b q)

pub tests_exist : (shapes : List Shape) (equal unequal : List (ℕ × ℕ)) → (t : Tests) × AreTests shapes equal unequal t
tests_exist shapes equal unequal =
    let w = whole shapes equal in
    let t : Tests = record { same = by w.0; apart = apart_by shapes equal w.0 unequal } in (
      t,
      record {
        same_is = λ x y. (λ e. w.1.sound x y e, λ f. f (by w.0) (closed_by shapes equal w.0 w.1));
        apart_is = λ a b. (apart_are shapes equal w.0 w.1 unequal a b, are_apart shapes equal w.0 w.1 unequal a b);
      },
    )

pub each_known : EachIsKnown
each_known s =
    let a = tests_exist (all_shapes s.held) (facts_in (read_literals Reader.Congruence s)) (pairs_in false (read_literals Reader.Congruence s)) in
    let b = tests_exist (all_shapes s.held) (facts_in (read_literals Reader.Regions s)) (pairs_in false (read_literals Reader.Regions s)) in
    (record { congruence = a.0; regions = b.0 }, record { congruence = a.1; regions = b.1 })
