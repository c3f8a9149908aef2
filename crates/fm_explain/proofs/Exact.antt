-- What is meant is what is answered: each literal once, and exactly the terms on the paths.
use Rattle.std.proofs.Common.{◌≡◌, ℕ, zero, suc, ◌⊎◌, ◌↔◌, true, false, List, [], ◌∷◌, length, Option, Some, None, inl, inr, refl, sym, subst, ap, ◌∙◌, arith, eqb}
use Rattle.std.specs.Prelude.{◌==◌, slice_get}
use Rattle.std.specs.List.{All, AllByRecursion, Contains, IsDistinct, cons_option, filter_map, flat_map}
use Rattle.std.proofs.lemmas.Bool.{eqb-true, eq-eqb, false≢true, or_cases, or_left, or_right}
use Rattle.std.proofs.lemmas.List.Elements.{All-cons, All-contains, All-nil}
use Rattle.fm_base.specs.Resolution.{AreDistinct, Has}
use Rattle.fm_base.specs.declared.ids.Lit.{Lit}
use Rattle.fm_bank.specs.Closure.{Shape, object}
use Rattle.fm_bank.specs.Interning.{Held as Bank}
use Rattle.fm_bank.specs.Terms.{Term}
use Rattle.fm_bank.specs.declared.atom.Atom.{Atom}
use Rattle.fm_cells.specs.Forest.{HasEnd, IsUp, link_of}
use Rattle.fm_cells.specs.Members.{is_on}
use Rattle.fm_cells.specs.declared.edge.Cause.{Cause}
use Rattle.fm_cells.specs.declared.edge.Edge.{Edge}
use Rattle.fm_cells.proofs.Ways.{up_same}
use Rattle.fm_cong.specs.Explained.{IsExplained}
use Rattle.fm_cong.specs.Held.{Held}
use Rattle.fm_cong.specs.Paths.{IsJoinedBy, joined_by}
use Rattle.fm_cong.specs.declared.fact.Fact.{Fact}
use Rattle.fm_cong.proofs.Walks.{above_link}
use Rattle.fm_explain.specs.Explanations.{AreAtomsOf, IsKnownBy, IsRead, term_of}
use Rattle.fm_explain.specs.Meant.{AreCongruences, IsLitMeant, IsMeant, IsNodeMeant, lit_at, nodes_of, path_nodes, sides_at, term_at, with_all, with_node}
use Rattle.fm_explain.proofs.Adding.{on_cases, with_cases}
use Rattle.fm_explain.proofs.Supporting.{all_put, answered, answers, contains_first, contains_on, contains_rest, literal_of, on_contains, on_flat, term_of as term_here_of}

-- the links by congruence join terms of the bank
pub congruences_known : (g : Held) (links : List (Option Edge)) (bank : Bank) → IsExplained g links → IsKnownBy g bank → AreCongruences bank.terms (link_of links)
congruences_known g links bank x k e l h cause =
    let j = x.congruences e l h cause in
    let P : Shape → Type 0 = λ s. slice_get bank.terms s.number ≡ Some (term_of s) in
    record {
      m = j.left.number;
      n = j.right.number;
      left = term_of j.left;
      right = term_of j.right;
      u_is = j.u_is;
      v_is = j.v_is;
      left_is = All-contains P g.shapes j.left k.terms j.left_in;
      right_is = All-contains P g.shapes j.right k.terms j.right_in;
      symbols = j.symbols;
      args = j.args;
    }

-- no two links lead from one node to another and back
no_cycle : (link : ℕ → Option Edge) → ((z : ℕ) → HasEnd link z) → (e : ℕ) (l m : Edge) → link e ≡ Some l → link l.to ≡ Some m → m.to ≡ e → ⊥
no_cycle link ended e l m h k back =
    let w = ended e in
    let a = above_link link e w.nodes w.end l w.way h in
    let b = above_link link l.to a.nodes w.end m a.onward k in
    let same = ap length (up_same link e w.nodes b.nodes w.end w.end w.way (subst (λ (z : ℕ). IsUp link z b.nodes w.end) back b.onward)).0 in
    let one = ap length a.way_is in
    let two = ap length b.way_is in
    omega (arith, same, one, two)

some_pair : (o : Option (ℕ × ℕ)) (p q : ℕ × ℕ) → o ≡ Some p → o ≡ Some q → p ≡ q
some_pair o p q a b = cc

-- what a literal that was read joins is told by its atom in the bank
joined_at : (atoms : List Atom) (facts : List Fact) (f : Fact) (k : Lit) → AreAtomsOf atoms facts → Contains facts f → f.lit ≡ k → joined_by f ≡ sides_at (slice_get atoms k.atom.0) k.positive
joined_at atoms facts f k known read same =
    let at : slice_get atoms f.lit.atom.0 ≡ Some f.atom = All-contains (λ (f : Fact). slice_get atoms f.lit.atom.0 ≡ Some f.atom) facts f known read in
    sym (ap (λ o. sides_at o f.lit.positive) at) ∙ ap (λ (l : Lit). sides_at (slice_get atoms l.atom.0) l.positive) same

-- a literal joins the nodes of one link at most
module _ (g : Held) (links : List (Option Edge)) (bank : Bank) (x : IsExplained g links) (known : IsKnownBy g bank) where
  sides_of : (e : ℕ) (l : Edge) (k : Lit) → IsJoinedBy g.facts k e l.to → (sides_at (slice_get bank.atoms k.atom.0) k.positive ≡ Some (e, l.to)) ⊎ (sides_at (slice_get bank.atoms k.atom.0) k.positive ≡ Some (l.to, e))
  sides_of e l k j =
      let same = joined_at bank.atoms g.facts j.fact k known.atoms j.read j.lit_is in
      elim j.sides_are [ inl p ↦ inl (sym same ∙ p) | inr p ↦ inr (sym same ∙ p) ]

  one_link : (e f : ℕ) (l m : Edge) (k : Lit) → link_of links e ≡ Some l → l.cause ≡ Cause.Fact k → link_of links f ≡ Some m → m.cause ≡ Cause.Fact k → e ≡ f
  one_link e f l m k a c b d =
      let s = sides_at (slice_get bank.atoms k.atom.0) k.positive in
      elim (sides_of e l k (x.literals e l k a c)) [
        | inl p ↦ elim (sides_of f m k (x.literals f m k b d)) [
          | inl q ↦ ap (λ (z : ℕ × ℕ). z.0) (some_pair s (e, l.to) (f, m.to) p q)
          | inr q ↦
              let r = some_pair s (e, l.to) (m.to, f) p q in
              absurd (no_cycle (link_of links) x.ended e l m a (ap (link_of links) (ap (λ (z : ℕ × ℕ). z.1) r) ∙ b) (sym (ap (λ (z : ℕ × ℕ). z.0) r)))
        ]
        | inr p ↦ elim (sides_of f m k (x.literals f m k b d)) [
          | inl q ↦
              let r = some_pair s (l.to, e) (f, m.to) p q in
              absurd (no_cycle (link_of links) x.ended e l m a (ap (link_of links) (ap (λ (z : ℕ × ℕ). z.0) r) ∙ b) (sym (ap (λ (z : ℕ × ℕ). z.1) r)))
          | inr q ↦ ap (λ (z : ℕ × ℕ). z.1) (some_pair s (l.to, e) (m.to, f) p q)
        ]
      ]

  pub one_place : (e f : ℕ) (k : Lit) → lit_at (link_of links e) ≡ Some k → lit_at (link_of links f) ≡ Some k → e ≡ f
  one_place e f k a b =
      let p = literal_of (link_of links e) k a in
      let q = literal_of (link_of links f) k b in
      one_link e f p.edge q.edge k p.is p.cause q.is q.cause

-- the literals meant were read by each e-graph whose forest it is
all_from : (P : Lit → Type 0) (xs : List Lit) → ((y : Lit) → Contains xs y → P y) → All P xs
all_from P [] h = All-nil P
all_from P (y ∷ ys) h = All-cons P y ys (h y (contains_first y ys)) (all_from P ys (λ z c. h z (contains_rest y z ys c)))

pub read_by : (g : Held) (links : List (Option Edge)) → IsExplained g links → (lits : List Lit) (terms : List Term) (a b : ℕ) → ((k : Lit) → Contains lits k ↔ IsLitMeant terms (link_of links) a b k) → All (IsRead g.facts) lits
read_by g links x lits terms a b exact =
    all_from (IsRead g.facts) lits (λ k here.
    let m = (exact k).0 here in
    let j = x.literals m.e m.edge k m.link_is m.cause_is in
    record { fact = j.fact; read = j.read; lit_is = j.lit_is })

-- what a function answers for distinct elements is distinct, where no answer comes twice
record IsGiven {X : Type 0} (f : ℕ → Option X) (xs : List ℕ) (k : X) : Type 0 where
  x : ℕ
  on : is_on xs x ≡ true
  gives : f x ≡ Some k

has_by : {X : Type 0} → (o : Option X) (ls : List X) (k : X) → Has (cons_option o ls) k → (o ≡ Some k) ⊎ Has ls k
has_by None ls k h = inr h
has_by (Some l) ls k h = elim h [ inl e ↦ inl (ap Some e) | inr r ↦ inr r ]

given : {X : Type 0} → (f : ℕ → Option X) (xs : List ℕ) (k : X) → Has (filter_map f xs) k → IsGiven f xs k
given f [] k h = absurd h
given f (y ∷ ys) k h =
    elim (has_by (f y) (filter_map f ys) k h) [
      | inl e ↦ record { x = y; on = or_left (y == y) (is_on ys y) (eq-eqb y y refl); gives = e }
      | inr r ↦ let s = given f ys k r in record { x = s.x; on = or_right (s.x == y) (is_on ys s.x) s.on; gives = s.gives }
    ]

not_on : (x : ℕ) (ys : List ℕ) → AllByRecursion (λ w. eqb x w ≡ false) ys → is_on ys x ≡ true → ⊥
not_on x [] d h = false≢true h
not_on x (y ∷ ys) d h = elim (or_cases (x == y) (is_on ys x) h) [ inl e ↦ false≢true (sym d.0 ∙ e) | inr r ↦ not_on x ys d.1 r ]

once_with : {X : Type 0} → (f : ℕ → Option X) → ((x y : ℕ) (k : X) → f x ≡ Some k → f y ≡ Some k → x ≡ y) → (x : ℕ) (xs : List ℕ) → AllByRecursion (λ w. eqb x w ≡ false) xs → AreDistinct (filter_map f xs) → (o : Option X) → f x ≡ o → AreDistinct (cons_option o (filter_map f xs))
once_with f one x xs d rest None e = rest
once_with f one x xs d rest (Some k) e = (λ h. let r = given f xs k h in not_on x xs d (subst (λ (z : ℕ). is_on xs z ≡ true) (sym (one x r.x k e r.gives)) r.on), rest)

pub once : {X : Type 0} → (f : ℕ → Option X) → ((x y : ℕ) (k : X) → f x ≡ Some k → f y ≡ Some k → x ≡ y) → (xs : List ℕ) → IsDistinct eqb xs → AreDistinct (filter_map f xs)
unfolding IsDistinct
once f one [] d = tt
once f one (x ∷ xs) d = once_with f one x xs d.0 (once f one xs d.1) (f x) refl

-- a term is at one node
pub one_node : (x y k : ℕ) → term_at x ≡ Some k → term_at y ≡ Some k → x ≡ y
one_node x y k p q = sym (node_is x k p) ∙ node_is y k q
  where
    some_is : (a b : ℕ) → Some a ≡ Some b → b ≡ a
    some_is a b e = cc

    none_is : (b : ℕ) → None ≡ Some b → ⊥
    none_is b e = cc

    node_is : (x k : ℕ) → term_at x ≡ Some k → suc (suc k) ≡ x
    node_is zero k e = absurd (none_is k e)
    node_is (suc zero) k e = absurd (none_is k e)
    node_is (suc (suc n)) k e = ap (λ (m : ℕ). suc (suc m)) (some_is n k e)

-- the support
all_cases : (nodes xs : List ℕ) (x : ℕ) → is_on (with_all nodes xs) x ≡ true → (is_on nodes x ≡ true) ⊎ (is_on xs x ≡ true)
all_cases nodes [] x h = inl h
all_cases nodes (y ∷ ys) x h =
    elim (all_cases (with_node nodes y) ys x h) [
      | inl a ↦ elim (with_cases nodes y x a) [ inl b ↦ inl b | inr e ↦ inr (or_left (x == y) (is_on ys x) (eq-eqb x y e)) ]
      | inr r ↦ inr (or_right (x == y) (is_on ys x) r)
    ]

flat_on : (f : ℕ → List ℕ) (keys : List ℕ) (x : ℕ) → is_on (flat_map f keys) x ≡ true → (e : ℕ) × (is_on keys e ≡ true) × (is_on (f e) x ≡ true)
flat_on f [] x h = absurd (false≢true h)
flat_on f (y ∷ ys) x h =
    elim (on_cases (f y) (flat_map f ys) x h) [
      | inl a ↦ (y, or_left (y == y) (is_on ys y) (eq-eqb y y refl), a)
      | inr b ↦ let r = flat_on f ys x b in (r.0, or_right (r.0 == y) (is_on ys r.0) r.1, r.2)
    ]

node_is : (x n : ℕ) → term_at x ≡ Some n → x ≡ object n
node_is zero n e = absurd cc
node_is (suc zero) n e = absurd cc
node_is (suc (suc m)) n e = let s : m ≡ n = cc e in (let o : suc (suc m) ≡ object m = omega arith in o) ∙ ap (λ z. object z) s

module _ (terms : List Term) (link : ℕ → Option Edge) (a b : ℕ) (keys : List ℕ) (has : (e : ℕ) → (is_on keys e ≡ true) ↔ IsMeant terms link a b e) where
  pub path_exact : (x : ℕ) → (is_on (path_nodes terms link a b keys) x ≡ true) ↔ IsNodeMeant terms link a b x
  path_exact x =
      let rest = flat_map (λ e. nodes_of terms e (link e)) keys in (
        λ h. elim (or_cases (x == a) (is_on (b ∷ rest) x) h) [
          | inl e ↦ inl (eqb-true x a e)
          | inr r ↦ elim (or_cases (x == b) (is_on rest x) r) [
            | inl e ↦ inr (inl (eqb-true x b e))
            | inr s ↦ let f = flat_on (λ e. nodes_of terms e (link e)) keys x s in inr (inr (record { e = f.0; meant = (has f.0).0 f.1; on = f.2 }))
          ]
        ],
        λ m. elim m [
          | inl e ↦ or_left (x == a) (is_on (b ∷ rest) x) (eq-eqb x a e)
          | inr r ↦ or_right (x == a) (is_on (b ∷ rest) x) (elim r [
            | inl e ↦ or_left (x == b) (is_on rest x) (eq-eqb x b e)
            | inr n ↦ or_right (x == b) (is_on rest x) (on_flat (λ e. nodes_of terms e (link e)) keys n.e x ((has n.e).1 n.meant) n.on)
          ])
        ],
      )

  pub support_exact : (support : List ℕ) → support ≡ filter_map term_at (with_all [] (path_nodes terms link a b keys)) → (n : ℕ) → Contains support n ↔ IsNodeMeant terms link a b (object n)
  support_exact support is n =
      let path = path_nodes terms link a b keys in (
        λ h.
            let r = answers term_at (with_all [] path) n (subst (λ (ns : List ℕ). Contains ns n) is h) in
            let on : is_on (path_nodes terms link a b keys) r.x ≡ true = elim (all_cases [] path r.x (contains_on (with_all [] path) r.x r.there)) [ inl z ↦ absurd (false≢true z) | inr p ↦ p ] in
            subst (λ (z : ℕ). IsNodeMeant terms link a b z) (node_is r.x n r.answer) ((path_exact r.x).0 on),
        λ m.
            let on = all_put [] path (object n) ((path_exact (object n)).1 m) in
            subst (λ (ns : List ℕ). Contains ns n) (sym is) (answered term_at (with_all [] path) (object n) n (on_contains (with_all [] path) (object n) on) (term_here_of n)),
      )
