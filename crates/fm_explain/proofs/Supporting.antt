-- The literals and the support of an explanation have what a proof of the equality needs.
use Rattle.std.proofs.Common.{◌≡◌, ℕ, zero, suc, ◌+◌, ◌<◌, ◌≤◌, ◌⊎◌, ◌↔◌, true, List, [], ◌∷◌, ◌++◌, length, map, take, Option, Some, None, inl, inr, refl, sym, subst, ap, ◌∙◌, arith, get_or}
use Rattle.std.specs.Prelude.{◌==◌, slice_get}
use Rattle.std.specs.List.{Contains, cons_option, filter_map, flat_map}
use Rattle.std.proofs.lemmas.Bool.{eq-eqb, eqb-true, false≢true, or_cases, or_left, or_right}
use Rattle.std.proofs.lemmas.List.Elements.{All-contains, Contains-append_left, Contains-append_right}
use Rattle.fm_base.specs.declared.ids.Lit.{Lit}
use Rattle.fm_bank.specs.Closure.{Shape, object, shape_at, shapes_of}
use Rattle.fm_bank.specs.Terms.{Term, numbers}
use Rattle.fm_bank.specs.declared.atom.Atom.{Atom}
use Rattle.fm_cells.specs.Members.{is_on}
use Rattle.fm_explain.specs.Meant.{IsLitMeant, IsMeant, args_at, argument_nodes, lit_at, lit_of, nodes_of, pairs_by, path_nodes, sides_at, term_at, with_all, with_node}
use Rattle.fm_cells.specs.declared.edge.Cause.{Cause}
use Rattle.fm_cells.specs.declared.edge.Edge.{Edge}
use Rattle.fm_cong.specs.declared.fact.Fact.{Fact}
use Rattle.fm_explain.proofs.Adding.{on_left, on_right, with_from}
use Rattle.fm_base.specs.declared.ids.TermId.{TermId}
use Rattle.std.proofs.Common.{append-nil, ◌-◌}
use Rattle.std.proofs.lemmas.List.{map-append, take_more}
use Rattle.std.proofs.lemmas.List.Concat.{flat_map-append}
use Rattle.fm_explain.proofs.Arguments.{placed, there_on}
use Rattle.fm_explain.specs.Explanations.{AreAtomsOf}
use Rattle.fm_explain.proofs.Showing.{IsShownBy}
use Rattle.std.proofs.lemmas.Option.{get_or_from_slice_get, slice_get-get_or, slice_get_within}

-- an element of a list that a function answers for an element
pub record IsAnswered {X Y : Type 0} (f : X → Option Y) (xs : List X) (y : Y) : Type 0 where
  pub x : X
  pub there : Contains xs x
  pub answer : f x ≡ Some y

pub contains_first : {X : Type 0} → (x : X) (xs : List X) → Contains (x ∷ xs) x
contains_first x xs = (0, omega arith, refl)

pub contains_rest : {X : Type 0} → (x y : X) (xs : List X) → Contains xs y → Contains (x ∷ xs) y
contains_rest x y xs h = (suc h.0, omega (arith, h.1), h.2)

answered_by : {Y : Type 0} → (o : Option Y) (ys : List Y) (y : Y) → (o ≡ Some y) ⊎ Contains ys y → Contains (cons_option o ys) y
answered_by None ys y h = elim h [ inl e ↦ absurd cc | inr c ↦ c ]
answered_by (Some z) ys y h = elim h [ inl e ↦ (let s : z ≡ y = cc e in subst (λ w. Contains (z ∷ ys) w) s (contains_first z ys)) | inr c ↦ contains_rest z y ys c ]

answered_at : {X Y : Type 0} → (f : X → Option Y) (xs : List X) (k : ℕ) (x : X) (y : Y) → k < length xs → get_or xs k x ≡ x → f x ≡ Some y → Contains (filter_map f xs) y
answered_at f [] k x y lt g e = absurd (omega (arith, lt))
answered_at f (z ∷ xs) zero x y lt g e = answered_by (f z) (filter_map f xs) y (inl (ap f g ∙ e))
answered_at f (z ∷ xs) (suc k) x y lt g e = answered_by (f z) (filter_map f xs) y (inr (answered_at f xs k x y (omega (arith, lt)) g e))

pub answered : {X Y : Type 0} → (f : X → Option Y) (xs : List X) (x : X) (y : Y) → Contains xs x → f x ≡ Some y → Contains (filter_map f xs) y
answered f xs x y h e = answered_at f xs h.0 x y h.1 h.2 e

first_or_rest : {X : Type 0} → (z y : X) (ys : List X) (k : ℕ) → k < length (z ∷ ys) → get_or (z ∷ ys) k y ≡ y → (z ≡ y) ⊎ Contains ys y
first_or_rest z y ys zero lt g = inl g
first_or_rest z y ys (suc k) lt g = inr (k, omega (arith, lt), g)

by_answered : {Y : Type 0} → (o : Option Y) (ys : List Y) (y : Y) → Contains (cons_option o ys) y → (o ≡ Some y) ⊎ Contains ys y
by_answered None ys y h = inr h
by_answered (Some z) ys y h = elim (first_or_rest z y ys h.0 h.1 h.2) [ inl e ↦ inl (ap Some e) | inr c ↦ inr c ]

pub answers : {X Y : Type 0} → (f : X → Option Y) (xs : List X) (y : Y) → Contains (filter_map f xs) y → IsAnswered f xs y
answers f [] y h = absurd (omega (arith, h.1))
answers f (z ∷ xs) y h =
    elim (by_answered (f z) (filter_map f xs) y h) [
      | inl e ↦ record { x = z; there = contains_first z xs; answer = e }
      | inr c ↦ let r = answers f xs y c in record { x = r.x; there = contains_rest z r.x xs r.there; answer = r.answer }
    ]

pub contains_on : (keys : List ℕ) (e : ℕ) → Contains keys e → is_on keys e ≡ true
contains_on keys e h = there_on keys h.0 e (slice_get-get_or keys h.0 e h.1 ∙ ap Some h.2)

pub on_contains : (keys : List ℕ) (e : ℕ) → is_on keys e ≡ true → Contains keys e
on_contains keys e h =
    let p = placed keys e h in
    (p.place, slice_get_within keys p.place e p.there, get_or_from_slice_get keys p.place e e p.there)

-- a link by a fact has its literal, and no other
fact_of : (c : Cause) (k : Lit) → lit_of c ≡ Some k → c ≡ Cause.Fact k
fact_of (Cause.Fact lit) k e = let s : lit ≡ k = cc e in ap (λ (l : Lit). Cause.Fact l) s
fact_of Cause.Congruence k e = absurd cc

pub record HasLiteral (o : Option Edge) (k : Lit) : Type 0 where
  pub edge : Edge
  pub is : o ≡ Some edge
  pub cause : edge.cause ≡ Cause.Fact k

pub literal_of : (o : Option Edge) (k : Lit) → lit_at o ≡ Some k → HasLiteral o k
literal_of None k e = absurd cc
literal_of (Some l) k e = record { edge = l; is = refl; cause = fact_of l.cause k e }

module _ (terms : List Term) (link : ℕ → Option Edge) (a b : ℕ) (keys : List ℕ) (has : (e : ℕ) → (is_on keys e ≡ true) ↔ IsMeant terms link a b e) where
  -- the literals of the links met are those meant
  pub literals_exact : (k : Lit) → Contains (filter_map (λ e. lit_at (link e)) keys) k ↔ IsLitMeant terms link a b k
  literals_exact k = (
    λ h.
        let r = answers (λ e. lit_at (link e)) keys k h in
        let l = literal_of (link r.x) k r.answer in
        record { e = r.x; edge = l.edge; meant = (has r.x).0 (contains_on keys r.x r.there); link_is = l.is; cause_is = l.cause },
    λ m. answered (λ e. lit_at (link e)) keys m.e k (on_contains keys m.e ((has m.e).1 m.meant)) (ap lit_at m.link_is ∙ ap lit_of m.cause_is),
  )

all_kept : (nodes xs : List ℕ) (x : ℕ) → is_on nodes x ≡ true → is_on (with_all nodes xs) x ≡ true
all_kept nodes [] x h = h
all_kept nodes (y ∷ ys) x h = all_kept (with_node nodes y) ys x (with_from nodes y x (inl h))

pub all_put : (nodes xs : List ℕ) (x : ℕ) → is_on xs x ≡ true → is_on (with_all nodes xs) x ≡ true
all_put nodes [] x h = absurd (false≢true h)
all_put nodes (y ∷ ys) x h =
    elim (or_cases (x == y) (is_on ys x) h) [
      | inl e ↦ all_kept (with_node nodes y) ys x (with_from nodes y x (inr (eqb-true x y e)))
      | inr r ↦ all_put (with_node nodes y) ys x r
    ]

pub on_flat : (g : ℕ → List ℕ) (keys : List ℕ) (e x : ℕ) → is_on keys e ≡ true → is_on (g e) x ≡ true → is_on (flat_map g keys) x ≡ true
on_flat g [] e x h k = absurd (false≢true h)
on_flat g (y ∷ ys) e x h k =
    elim (or_cases (e == y) (is_on ys e) h) [
      | inl s ↦ on_left (g y) (flat_map g ys) x (ap (λ z. is_on (g z) x) (sym (eqb-true e y s)) ∙ k)
      | inr r ↦ on_right (g y) (flat_map g ys) x (on_flat g ys e x r k)
    ]

on_link : (terms : List Term) (e : ℕ) (o : Option Edge) (l : Edge) (x : ℕ) → o ≡ Some l → (e ≡ x) ⊎ (l.to ≡ x) → is_on (nodes_of terms e o) x ≡ true
on_link terms e None l x h k = absurd cc
on_link terms e (Some m) l x h k =
    let s : m ≡ l = cc h in
    elim k [
      | inl p ↦ or_left (x == e) (is_on (m.to ∷ argument_nodes m.cause (args_at terms e) (args_at terms m.to)) x) (eq-eqb x e (sym p))
      | inr q ↦ or_right (x == e) (is_on (m.to ∷ argument_nodes m.cause (args_at terms e) (args_at terms m.to)) x) (or_left (x == m.to) (is_on (argument_nodes m.cause (args_at terms e) (args_at terms m.to)) x) (eq-eqb x m.to (sym q ∙ ap (λ (n : Edge). n.to) (sym s))))
    ]

pub term_of : (m : ℕ) → term_at (object m) ≡ Some m
term_of m = let e : object m ≡ suc (suc m) = omega arith in ap term_at e

shape_there : (terms : List Term) (over : List ℕ) (k m : ℕ) (t : Term) → k < length over → get_or over k m ≡ m → slice_get terms m ≡ Some t → Contains (shapes_of terms over) (record { number = m; symbol = t.symbol; args = t.args })
shape_there terms [] k m t lt g h = absurd (omega (arith, lt))
shape_there terms (n ∷ ns) zero m t lt g h =
    let shape : Shape = record { number = m; symbol = t.symbol; args = t.args } in
    let one : shape_at n (slice_get terms n) ≡ shape ∷ [] = (λ i. shape_at (g i) (slice_get terms (g i))) ∙ ap (shape_at m) h in
    Contains-append_left (shape_at n (slice_get terms n)) (shapes_of terms ns) shape (subst (λ (xs : List Shape). Contains xs shape) (sym one) (contains_first shape []))
shape_there terms (n ∷ ns) (suc k) m t lt g h = Contains-append_right (shape_at n (slice_get terms n)) (shapes_of terms ns) (record { number = m; symbol = t.symbol; args = t.args }) (shape_there terms ns k m t (omega (arith, lt)) g h)

pub shown_by : (terms : List Term) (link : ℕ → Option Edge) (facts : List Fact) (atoms : List Atom) (a b : ℕ) (keys : List ℕ) → ((e : ℕ) → (is_on keys e ≡ true) ↔ IsMeant terms link a b e) → AreAtomsOf atoms facts → (support : List ℕ) → support ≡ filter_map term_at (with_all [] (path_nodes terms link a b keys)) → (lits : List Lit) → lits ≡ filter_map (λ e. lit_at (link e)) keys → IsShownBy terms link facts a b (shapes_of terms support) (pairs_by atoms lits)
shown_by terms link facts atoms a b keys has knows support support_is lits lits_are =
    record {
      literals = λ lit m f read same p sides_are.
          let there : Contains lits lit = subst (λ (ls : List Lit). Contains ls lit) (sym lits_are) ((literals_exact terms link a b keys has lit).1 m) in
          let known : slice_get atoms f.lit.atom.0 ≡ Some f.atom = All-contains (λ (f : Fact). slice_get atoms f.lit.atom.0 ≡ Some f.atom) facts f knows read in
          let here : sides_at (slice_get atoms f.lit.atom.0) f.lit.positive ≡ Some p = ap (λ o. sides_at o f.lit.positive) known ∙ sides_are in
          answered (λ (k : Lit). sides_at (slice_get atoms k.atom.0) k.positive) lits lit p there (subst (λ (k : Lit). sides_at (slice_get atoms k.atom.0) k.positive ≡ Some p) same here);
      support = λ e l m link_is n t at which.
          let nodes = with_all [] (path_nodes terms link a b keys) in
          let on : is_on (nodes_of terms e (link e)) (object n) ≡ true = on_link terms e (link e) l (object n) link_is which in
          let in_path : is_on (path_nodes terms link a b keys) (object n) ≡ true = or_right (object n == a) (is_on (b ∷ flat_map (λ e. nodes_of terms e (link e)) keys) (object n)) (or_right (object n == b) (is_on (flat_map (λ e. nodes_of terms e (link e)) keys) (object n)) (on_flat (λ e. nodes_of terms e (link e)) keys e (object n) ((has e).1 m) on)) in
          let in_nodes : is_on nodes (object n) ≡ true = all_put [] (path_nodes terms link a b keys) (object n) in_path in
          let there : Contains support n = subst (λ (ns : List ℕ). Contains ns n) (sym support_is) (answered term_at nodes (object n) n (on_contains nodes (object n) in_nodes) (term_of n)) in
          shape_there terms support there.0 n t there.1 there.2 at;
    }

with_all_append : (nodes xs ys : List ℕ) → with_all nodes (xs ++ ys) ≡ with_all (with_all nodes xs) ys
with_all_append nodes [] ys = refl
with_all_append nodes (x ∷ xs) ys = with_all_append (with_node nodes x) xs ys

pub all_more : (nodes : List ℕ) (ts : List TermId) (i : ℕ) (d : TermId) → i < length ts → with_all nodes (map (λ s. object s) (numbers (take (i + 1) ts))) ≡ with_node (with_all nodes (map (λ s. object s) (numbers (take i ts)))) (object (get_or ts i d).0)
all_more nodes ts i d lt =
    let n : List TermId → List ℕ = λ zs. map (λ s. object s) (numbers zs) in
    ap (λ zs. with_all nodes (n zs)) (take_more ts i d lt) ∙ (ap (λ zs. with_all nodes (map (λ s. object s) zs)) (map-append (λ (t : TermId). t.0) (take i ts) (get_or ts i d ∷ [])) ∙ (ap (with_all nodes) (map-append (λ s. object s) (numbers (take i ts)) ((get_or ts i d).0 ∷ [])) ∙ with_all_append nodes (n (take i ts)) (object (get_or ts i d).0 ∷ [])))

pub link_put : (terms : List Term) (node : ℕ) (edge : Edge) (o : Option Edge) (xs ys old : List ℕ) → o ≡ Some edge → edge.cause ≡ Cause.Congruence → args_at terms node ≡ xs → args_at terms edge.to ≡ ys → with_all (with_all (with_node (with_node old node) edge.to) (map (λ s. object s) xs)) (map (λ s. object s) ys) ≡ with_all old (nodes_of terms node o)
link_put terms node edge o xs ys old e c left right =
    let back : Some edge ≡ o = sym e in
    let c' : Cause.Congruence ≡ edge.cause = sym c in
    let l' : xs ≡ args_at terms node = sym left in
    let r' : ys ≡ args_at terms edge.to = sym right in
    sym (with_all_append (with_node (with_node old node) edge.to) (map (λ s. object s) xs) (map (λ s. object s) ys)) ∙ ((λ i. with_all old (node ∷ edge.to ∷ argument_nodes (c' i) (l' i) (r' i))) ∙ ap (λ p. with_all old (nodes_of terms node p)) back)

pub nodes_more : (terms : List Term) (link : ℕ → Option Edge) (a b : ℕ) (met : List ℕ) (i : ℕ) → i < length met → with_all [] (path_nodes terms link a b (take (i + 1) met)) ≡ with_all (with_all [] (path_nodes terms link a b (take i met))) (nodes_of terms (get_or met i 0) (link (get_or met i 0)))
nodes_more terms link a b met i lt =
    let g : ℕ → List ℕ = λ e. nodes_of terms e (link e) in
    let one : flat_map g (take (i + 1) met) ≡ flat_map g (take i met) ++ g (get_or met i 0) = ap (flat_map g) (take_more met i 0 lt) ∙ (flat_map-append g (take i met) (get_or met i 0 ∷ []) ∙ ap (λ zs. flat_map g (take i met) ++ zs) (append-nil (g (get_or met i 0)))) in
    ap (λ zs. with_all [] (a ∷ b ∷ zs)) one ∙ with_all_append [] (a ∷ b ∷ flat_map g (take i met)) (g (get_or met i 0))

pub term_here : (node : ℕ) → 2 ≤ node → term_at node ≡ Some (node - 2)
term_here node le = let e : node ≡ suc (suc (node - 2)) = omega (arith, le) in ap term_at e

pub no_term : (node : ℕ) → node < 2 → term_at node ≡ None
no_term zero lt = refl
no_term (suc zero) lt = refl
no_term (suc (suc n)) lt = absurd (omega (arith, lt))
