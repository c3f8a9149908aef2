-- Lemmas without repeats: more literals show as much, and the lemmas of cliques, sums and orders have none.
use Rattle.std.proofs.Common.{◌≡◌, ℕ, ◌+◌, ◌-◌, ◌<◌, ◌≤◌, Bool, true, false, not, cond, List, [], ◌∷◌, ◌++◌, length, map, inl, inr, refl, sym, ap, subst, ◌∙◌, arith}
use Rattle.std.specs.List.{flat_map, list_any}
use Rattle.std.proofs.lemmas.Bool.{false≢true, le-leb, or_cases, or_left, or_right, true≢false}
use Rattle.fm_base.specs.Resolution.{AreDistinct, Has}
use Rattle.fm_base.proofs.Resolution.{has_mapped, mapped_has}
use Rattle.fm_bank.specs.Closure.{no, object, yes}
use Rattle.fm_bank.specs.Instances.{equality}
use Rattle.fm_bank.specs.Interning.{Held}
use Rattle.fm_bank.specs.declared.atom.Atom.{Atom}
use Rattle.fm_bank.specs.declared.literal.Literal.{Literal}
use Rattle.fm_bank.proofs.Closures.{more_follows}
use Rattle.fm_rounds.proofs.Members.{any_in, flat_in, in_any, in_either, in_flat, in_left, in_right}
use Rattle.fm_steps.specs.Content.{ShowsEquality, all_shapes, equal_pair, facts_in, opposites, pairs_in, predicate_term, terms_in}
use Rattle.fm_steps.specs.Lemmas.{sum_literals}
use Rattle.fm_steps.specs.Picks.{clique_lemma, pair_literals}
use Rattle.fm_steps.specs.Sizes.{card, lit}
use Rattle.fm_steps.specs.State.{State}
use Rattle.fm_steps.proofs.Closing.{tests_exist}
use Rattle.fm_steps.proofs.Lists.{Has-append, Has-contains, contains_has, only_one}
use Rattle.fm_steps.proofs.Rising.{Ascends}

-- what is in a list of literals is in a longer one
abbrev Within : {X : Type 0} → List X → List X → Type 0
Within {X} xs ys = (x : X) → Has xs x → Has ys x

flat_within : {X Y : Type 0} (f : X → List Y) (xs ys : List X) → Within xs ys → Within (flat_map f xs) (flat_map f ys)
flat_within f xs ys h y q = let w = in_flat f y xs q in flat_in f y ys w.0 (h w.0 w.1) w.2

mapped_within : {X Y : Type 0} (f : X → Y) (xs ys : List X) → Within xs ys → Within (map f xs) (map f ys)
mapped_within f xs ys h y q = let w = mapped_has f xs y q in subst (Has (map f ys)) w.is (has_mapped f ys w.lit (h w.lit w.has))

both_within : {X : Type 0} (xs ys us vs : List X) → Within xs us → Within ys vs → Within (xs ++ ys) (us ++ vs)
both_within xs ys us vs h g x q = elim (in_either x xs ys q) [ inl a ↦ in_left x us vs (h x a) | inr b ↦ in_right x us vs (g x b) ]

facts_within : (ls more : List Literal) → Within ls more → Within (facts_in ls) (facts_in more)
facts_within ls more h =
    let f : ℕ × ℕ → ℕ × ℕ = λ p. (object p.0, object p.1) in
    let g : ℕ → ℕ × ℕ = λ t. (object t, yes) in
    let j : ℕ → ℕ × ℕ = λ t. (object t, no) in
    both_within (map f (pairs_in true ls)) (map g (terms_in true ls) ++ map j (terms_in false ls)) (map f (pairs_in true more)) (map g (terms_in true more) ++ map j (terms_in false more))
    (mapped_within f (pairs_in true ls) (pairs_in true more) (flat_within (λ (l : Literal). equal_pair true l.positive l.atom) ls more h))
    (both_within (map g (terms_in true ls)) (map j (terms_in false ls)) (map g (terms_in true more)) (map j (terms_in false more))
    (mapped_within g (terms_in true ls) (terms_in true more) (flat_within (λ (l : Literal). predicate_term true l.positive l.atom) ls more h))
    (mapped_within j (terms_in false ls) (terms_in false more) (flat_within (λ (l : Literal). predicate_term false l.positive l.atom) ls more h)))

pub shows_more : (held : Held) (ls more : List Literal) → ((l : Literal) → Has ls l → Has more l) → ShowsEquality held ls → ShowsEquality held more
shows_more held ls more h shows t is =
    let shapes = all_shapes held in
    let few = opposites ls in
    let all = opposites more in
    let within = mapped_within (λ (l : Literal). record { positive = not l.positive; atom = l.atom }) ls more h in
    let w = tests_exist shapes (facts_in few) (pairs_in false few) in
    let on : (x y : ℕ) → w.0.same x y ≡ true → t.same x y ≡ true = λ x y e. (is.same_is x y).1
    (more_follows shapes (facts_in few) shapes (facts_in all) (λ z c. c) (λ z c. Has-contains (facts_in all) z (facts_within few all within z (contains_has (facts_in few) z c))) x y ((w.1.same_is x y).0 e)) in
    let pair : ℕ × ℕ → Bool = λ p. w.0.same (object p.0) (object p.1) in
    let there : ℕ × ℕ → Bool = λ p. t.same (object p.0) (object p.1) in
    elim (or_cases (w.0.same yes no) (list_any pair (pairs_in false few)) (shows w.0 w.1)) [
      | inl q ↦ or_left (t.same yes no) _ (on yes no q)
      | inr q ↦ or_right (t.same yes no) _ (
          let p = any_in pair (pairs_in false few) q in
          in_any there (pairs_in false all) p.0 (flat_within (λ (l : Literal). equal_pair false l.positive l.atom) few all within p.0 p.1) (on (object p.0.0) (object p.0.1) p.2))
    ]

-- orders
pub order_distinct : (a b : Atom) → AreDistinct (lit false a ∷ (lit true b ∷ []))
order_distinct a b = (λ q. true≢false (ap (λ (l : Literal). l.positive) (only_one (lit true b) (lit false a) q)), ((λ q. q), tt))

-- the sum: one literal for each sort
abbrev sort_in : Atom → ℕ
sort_in (Atom.Card u k) = u.0
sort_in (Atom.Equal a b) = 0
sort_in (Atom.Pred t) = 0
sort_in (Atom.Bound n) = 0

sum_above : (s : State) (v : ℕ) (ks : List ℕ) (u j : ℕ) → Has (sum_literals s v ks) (lit true (card u j)) → v ≤ u
sum_above s v [] u j q = absurd (false≢true (ap (λ (l : Literal). l.positive) (only_one (lit false (Atom.Bound s.bound)) (lit true (card u j)) q)))
sum_above s v (k ∷ ks) u j (inl e) = let same : v ≡ u = ap (λ (l : Literal). sort_in l.atom) e in omega (arith, same)
sum_above s v (k ∷ ks) u j (inr q) = let r = sum_above s (v + 1) ks u j q in omega (arith, r)

pub sum_distinct : (s : State) (v : ℕ) (ks : List ℕ) → AreDistinct (sum_literals s v ks)
sum_distinct s v [] = ((λ q. q), tt)
sum_distinct s v (k ∷ ks) = ((λ q. let r = sum_above s (v + 1) ks v k q in absurd (omega (arith, r))), sum_distinct s (v + 1) ks)

-- cliques: their terms ascend
abbrev left_in : Atom → ℕ
left_in (Atom.Equal a b) = a.0
left_in (Atom.Card u k) = 0
left_in (Atom.Pred t) = 0
left_in (Atom.Bound n) = 0

abbrev right_in : Atom → ℕ
right_in (Atom.Equal a b) = b.0
right_in (Atom.Card u k) = 0
right_in (Atom.Pred t) = 0
right_in (Atom.Bound n) = 0

in_order : (a b : ℕ) → a < b → (left_in (equality a b) ≡ a) × (right_in (equality a b) ≡ b)
in_order a b lt =
    let e = le-leb a b (omega (arith, lt)) in
    let is : equality a b ≡ Atom.Equal (record { 0 = a }) (record { 0 = b }) = ap (λ (c : Bool). cond c (Atom.Equal (record { 0 = a }) (record { 0 = b })) (Atom.Equal (record { 0 = b }) (record { 0 = a }))) e in
    (ap left_in is, ap right_in is)

distinct_append : {X : Type 0} (xs ys : List X) → AreDistinct xs → AreDistinct ys → ((x : X) → Has xs x → Has ys x → ⊥) → AreDistinct (xs ++ ys)
distinct_append [] ys h g none = g
distinct_append (x ∷ xs) ys h g none = ((λ q. elim (Has-append xs ys x q) [ inl a ↦ h.0 a | inr b ↦ none x (inl refl) b ]), distinct_append xs ys h.1 g (λ y a b. none y (inr a) b))

-- a pair of a list, the smaller first
record IsPairOf (ts : List ℕ) (l : Literal) : Type 0 where
  first : ℕ
  second : ℕ
  has_first : Has ts first
  less : first < second
  is : l ≡ lit true (equality first second)

row_pair : (a : ℕ) (more : List ℕ) (l : Literal) → ((y : ℕ) → Has more y → a < y) → Has (map (λ b. lit true (equality a b)) more) l → IsPairOf (a ∷ more) l
row_pair a more l low h =
    let w = mapped_has (λ b. lit true (equality a b)) more l h in
    record { first = a; second = w.lit; has_first = inl refl; less = low w.lit w.has; is = sym w.is }

pair_of : (ts : List ℕ) (l : Literal) → Ascends ts → Has (pair_literals ts) l → IsPairOf ts l
pair_of [] l rises h = absurd h
pair_of (a ∷ more) l rises h =
    elim (Has-append (map (λ b. lit true (equality a b)) more) (pair_literals more) l h) [
      | inl q ↦ row_pair a more l rises.0 q
      | inr q ↦ (let r = pair_of more l rises.1 q in record { first = r.first; second = r.second; has_first = inr r.has_first; less = r.less; is = r.is })
    ]

row_distinct : (a : ℕ) (more : List ℕ) → ((y : ℕ) → Has more y → a < y) → Ascends more → AreDistinct (map (λ b. lit true (equality a b)) more)
row_distinct a [] low rises = tt
row_distinct a (b ∷ more) low rises = (
  (λ q.
      let w = mapped_has (λ c. lit true (equality a c)) more (lit true (equality a b)) q in
      let same : w.lit ≡ b = sym (in_order a w.lit (low w.lit (inr w.has))).1 ∙ (ap (λ (l : Literal). right_in l.atom) w.is ∙ (in_order a b (low b (inl refl))).1) in
      let lt = rises.0 w.lit w.has in
      absurd (omega (arith, same, lt))),
  row_distinct a more (λ y q. low y (inr q)) rises.1,
)

pairs_distinct : (ts : List ℕ) → Ascends ts → AreDistinct (pair_literals ts)
pairs_distinct [] rises = tt
pairs_distinct (a ∷ more) rises =
    distinct_append (map (λ b. lit true (equality a b)) more) (pair_literals more) (row_distinct a more rises.0 rises.1) (pairs_distinct more rises.1)
    (λ l q r.
    let w = mapped_has (λ b. lit true (equality a b)) more l q in
    let p = pair_of more l rises.1 r in
    let left : a ≡ p.first = sym (in_order a w.lit (rises.0 w.lit w.has)).0 ∙ (ap (λ (x : Literal). left_in x.atom) (w.is ∙ p.is) ∙ (in_order p.first p.second p.less).0) in
    let lt = rises.0 p.first p.has_first in
    absurd (omega (arith, left, lt)))

pub clique_distinct : (u : ℕ) (ts : List ℕ) → Ascends ts → AreDistinct (clique_lemma u ts)
clique_distinct u ts rises = ((λ q. let p = pair_of ts (lit false (card u (length ts - 1))) rises q in false≢true (ap (λ (l : Literal). l.positive) p.is)), pairs_distinct ts rises)
