-- What a climb leaves to be put into the set of links.
use Rattle.std.proofs.Common.{◌≡◌, ◌≢◌, ℕ, suc, ◌<◌, ◌≤◌, ◌⊎◌, ◌↔◌, Bool, true, false, cond, List, [], ◌∷◌, ◌++◌, length, Option, Some, None, inl, inr, refl, sym, subst, ap, ◌∙◌, arith, append_assoc, append-nil}
use Rattle.std.specs.Prelude.{◌==◌}
use Rattle.std.proofs.lemmas.Bool.{eq-eqb, eqb-true, false≢true, or_cases, or_left, or_right}
use Rattle.fm_cells.specs.Forest.{AreInOneTree, HasEnd, IsUp, height_of, link_of}
use Rattle.fm_cong.specs.Paths.{IsOnPath}
use Rattle.fm_cells.specs.Members.{is_on}
use Rattle.fm_explain.specs.Meant.{with_node}
use Rattle.fm_cells.specs.declared.edge.Edge.{Edge}
use Rattle.fm_cells.proofs.Heights.{height_is, height_next}
use Rattle.fm_explain.proofs.Climbing.{climb_down, climb_first, climb_tree, climb_up, has_link, no_path, path_back, tree_back}

pub on_left : (xs ys : List ℕ) (e : ℕ) → is_on xs e ≡ true → is_on (xs ++ ys) e ≡ true
on_left [] ys e h = absurd (false≢true h)
on_left (x ∷ xs) ys e h = elim (or_cases (e == x) (is_on xs e) h) [ inl a ↦ or_left (e == x) (is_on (xs ++ ys) e) a | inr b ↦ or_right (e == x) (is_on (xs ++ ys) e) (on_left xs ys e b) ]

pub on_right : (xs ys : List ℕ) (e : ℕ) → is_on ys e ≡ true → is_on (xs ++ ys) e ≡ true
on_right [] ys e h = h
on_right (x ∷ xs) ys e h = or_right (e == x) (is_on (xs ++ ys) e) (on_right xs ys e h)

pub on_cases : (xs ys : List ℕ) (e : ℕ) → is_on (xs ++ ys) e ≡ true → (is_on xs e ≡ true) ⊎ (is_on ys e ≡ true)
on_cases [] ys e h = inr h
on_cases (x ∷ xs) ys e h =
    elim (or_cases (e == x) (is_on (xs ++ ys) e) h) [
      | inl a ↦ inl (or_left (e == x) (is_on xs e) a)
      | inr b ↦ elim (on_cases xs ys e b) [ inl c ↦ inl (or_right (e == x) (is_on xs e) c) | inr c ↦ inr c ]
    ]

pub on_one : (x e : ℕ) → is_on (x ∷ []) e ≡ true → e ≡ x
on_one x e h = elim (or_cases (e == x) false h) [ inl a ↦ eqb-true e x a | inr b ↦ absurd (false≢true b) ]

pub one_on : (x : ℕ) → is_on (x ∷ []) x ≡ true
one_on x = or_left (x == x) false (eq-eqb x x refl)

with_by : (b : Bool) (xs : List ℕ) (x e : ℕ) → is_on xs x ≡ b → is_on (cond b xs (xs ++ x ∷ [])) e ≡ true → (is_on xs e ≡ true) ⊎ (e ≡ x)
with_by true xs x e h k = inl k
with_by false xs x e h k = elim (on_cases xs (x ∷ []) e k) [ inl a ↦ inl a | inr b ↦ inr (on_one x e b) ]

by_with : (b : Bool) (xs : List ℕ) (x e : ℕ) → is_on xs x ≡ b → (is_on xs e ≡ true) ⊎ (e ≡ x) → is_on (cond b xs (xs ++ x ∷ [])) e ≡ true
by_with true xs x e h k = elim k [ inl a ↦ a | inr b ↦ ap (is_on xs) b ∙ h ]
by_with false xs x e h k = elim k [ inl a ↦ on_left xs (x ∷ []) e a | inr b ↦ on_right xs (x ∷ []) e (ap (is_on (x ∷ [])) b ∙ one_on x) ]

pub with_cases : (xs : List ℕ) (x e : ℕ) → is_on (with_node xs x) e ≡ true → (is_on xs e ≡ true) ⊎ (e ≡ x)
with_cases xs x e k = with_by (is_on xs x) xs x e refl k

pub with_from : (xs : List ℕ) (x e : ℕ) → (is_on xs e ≡ true) ⊎ (e ≡ x) → is_on (with_node xs x) e ≡ true
with_from xs x e k = by_with (is_on xs x) xs x e refl k

grown_by : (b : Bool) (xs : List ℕ) (x : ℕ) → (more : List ℕ) × (cond b xs (xs ++ x ∷ []) ≡ xs ++ more)
grown_by true xs x = ([], sym (append-nil xs))
grown_by false xs x = (x ∷ [], refl)

pub with_grown : (old xs : List ℕ) (x : ℕ) → (more : List ℕ) × (xs ≡ old ++ more) → (more : List ℕ) × (with_node xs x ≡ old ++ more)
with_grown old xs x h =
    let g = grown_by (is_on xs x) xs x in
    (h.0 ++ g.0, g.1 ∙ ap (λ ys. ys ++ g.0) h.1 ∙ append_assoc old h.0 g.0)

-- in the set, or on the path that is left
abbrev pub IsMetOrOn : (ℕ → Option Edge) → List ℕ → ℕ → ℕ → ℕ → Type 0
IsMetOrOn link keys u v e = (is_on keys e ≡ true) ⊎ IsOnPath link u v e

pub record IsClimbing (links : List (Option Edge)) (old : List ℕ) (u0 v0 : ℕ) (keys : List ℕ) (u v high low : ℕ) : Type 0 where
  pub tree : AreInOneTree (link_of links) u v
  pub high_is : high ≡ height_of links u
  pub low_is : low ≡ height_of links v
  pub into : (e : ℕ) → IsMetOrOn (link_of links) keys u v e → IsMetOrOn (link_of links) old u0 v0 e
  pub back : (e : ℕ) → IsMetOrOn (link_of links) old u0 v0 e → IsMetOrOn (link_of links) keys u v e
  pub grown : (more : List ℕ) × (keys ≡ old ++ more)

deep : (links : List (Option Edge)) (u v : ℕ) → height_of links v ≤ height_of links u → (xs ys : List ℕ) (top : ℕ) → IsUp (link_of links) u xs top → IsUp (link_of links) v ys top → length ys ≤ length xs
deep links u v le xs ys top a b = let s = height_is links u xs top a in let t = height_is links v ys top b in omega (arith, s, t, le)

module _ (links : List (Option Edge)) (u v : ℕ) (t : AreInOneTree (link_of links) u v) (ne : u ≡ v → ⊥) (le : height_of links v ≤ height_of links u) (l : Edge) (h : link_of links u ≡ Some l) (keys : List ℕ) where
  met_into : (e : ℕ) → IsMetOrOn (link_of links) (with_node keys u) l.to v e → IsMetOrOn (link_of links) keys u v e
  met_into e m =
      elim m [
        | inl a ↦ elim (with_cases keys u e a) [
          | inl k ↦ inl k
          | inr same ↦ inr (subst (λ (z : ℕ). IsOnPath (link_of links) u v z) (sym same) (climb_first (link_of links) u v l h t ne (deep links u v le)))
        ]
        | inr q ↦ inr (climb_up (link_of links) u v l h t ne (deep links u v le) e q)
      ]

  met_back : (e : ℕ) → IsMetOrOn (link_of links) keys u v e → IsMetOrOn (link_of links) (with_node keys u) l.to v e
  met_back e m =
      elim m [
        | inl a ↦ inl (with_from keys u e (inl a))
        | inr p ↦ elim (climb_down (link_of links) u v l h e p) [
          | inl same ↦ inl (with_from keys u e (inr same))
          | inr q ↦ inr q
        ]
      ]

turned_about : (link : ℕ → Option Edge) (keys : List ℕ) (u v e : ℕ) → IsMetOrOn link keys u v e → IsMetOrOn link keys v u e
turned_about link keys u v e m = elim m [ inl a ↦ inl a | inr p ↦ inr (path_back link u v e p) ]

module _ (links : List (Option Edge)) (old : List ℕ) (u0 v0 : ℕ) (keys : List ℕ) (u v high low : ℕ) (ended : (z : ℕ) → HasEnd (link_of links) z) (c : IsClimbing links old u0 v0 keys u v high low) (ne : u ≡ v → ⊥) where
  pub climb_left : low ≤ high → (l : Edge) → link_of links u ≡ Some l → (rest : ℕ) → high ≡ suc rest → IsClimbing links old u0 v0 (with_node keys u) l.to v rest low
  climb_left le l h rest r =
      let deeper : height_of links v ≤ height_of links u = omega (arith, c.high_is, c.low_is, le) in
      record {
        tree = climb_tree (link_of links) u v l h c.tree;
        high_is = omega (arith, height_next links ended u l h, c.high_is, r);
        low_is = c.low_is;
        into = λ e m. c.into e (met_into links u v c.tree ne deeper l h keys e m);
        back = λ e m. met_back links u v c.tree ne deeper l h keys e (c.back e m);
        grown = with_grown old keys u c.grown;
      }

  pub climb_right : high < low → (l : Edge) → link_of links v ≡ Some l → (rest : ℕ) → low ≡ suc rest → IsClimbing links old u0 v0 (with_node keys v) u l.to high rest
  climb_right lt l h rest r =
      let deeper : height_of links u ≤ height_of links v = omega (arith, c.high_is, c.low_is, lt) in
      let back = tree_back (link_of links) u v c.tree in
      let other : v ≡ u → ⊥ = λ e. ne (sym e) in
      record {
        tree = tree_back (link_of links) l.to u (climb_tree (link_of links) v u l h back);
        high_is = c.high_is;
        low_is = omega (arith, height_next links ended v l h, c.low_is, r);
        into = λ e m. c.into e (turned_about (link_of links) keys v u e (met_into links v u back other deeper l h keys e (turned_about (link_of links) (with_node keys v) u l.to e m)));
        back = λ e m. turned_about (link_of links) (with_node keys v) l.to u e (met_back links v u back other deeper l h keys e (turned_about (link_of links) keys u v e (c.back e m)));
        grown = with_grown old keys v c.grown;
      }

-- either has a link, where it is no less deep
pub left_linked : (links : List (Option Edge)) (u v : ℕ) → AreInOneTree (link_of links) u v → (u ≡ v → ⊥) → height_of links v ≤ height_of links u → link_of links u ≢ None
left_linked links u v t ne le none = has_link (link_of links) u v t ne (deep links u v le) none

pub climbing_start : (links : List (Option Edge)) (old : List ℕ) (u v : ℕ) → AreInOneTree (link_of links) u v → IsClimbing links old u v old u v (height_of links u) (height_of links v)
climbing_start links old u v t = record { tree = t; high_is = refl; low_is = refl; into = λ e m. m; back = λ e m. m; grown = ([], sym (append-nil old)) }

-- at the end nothing is left of the path
pub climbing_end : (links : List (Option Edge)) (old : List ℕ) (u0 v0 : ℕ) (keys : List ℕ) (u v high low : ℕ) → IsClimbing links old u0 v0 keys u v high low → u ≡ v → (e : ℕ) → (is_on keys e ≡ true) ↔ IsMetOrOn (link_of links) old u0 v0 e
climbing_end links old u0 v0 keys u v high low c same e =
    (λ a. c.into e (inl a), λ m. elim (c.back e m) [ inl a ↦ a | inr p ↦ absurd (no_path (link_of links) v e (subst (λ (z : ℕ). IsOnPath (link_of links) z v e) same p)) ])

pub grown_more : (a b c : List ℕ) → (more : List ℕ) × (b ≡ a ++ more) → (more : List ℕ) × (c ≡ b ++ more) → (more : List ℕ) × (c ≡ a ++ more)
grown_more a b c h k = (h.0 ++ k.0, k.1 ∙ ap (λ ys. ys ++ k.0) h.1 ∙ append_assoc a h.0 k.0)
