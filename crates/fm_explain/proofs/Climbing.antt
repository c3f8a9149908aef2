-- A climb from the deeper of two nodes takes one link off the path between them.
use Rattle.std.proofs.Common.{◌≡◌, ℕ, ◌≤◌, ◌⊎◌, Bool, true, false, not, ◌||◌, List, [], ◌∷◌, length, Option, Some, None, inl, inr, refl, sym, subst, ap, ◌∙◌, arith}
use Rattle.std.specs.Prelude.{◌==◌}
use mathlib.Core.Bool.{beq}
use Rattle.std.proofs.lemmas.Bool.{eq-eqb, false≢true, false_from_ne_true, or_cases}
use Rattle.std.proofs.lemmas.Bool.Decides.{eqb_tells}
use Rattle.fm_cells.specs.Forest.{AreInOneTree, IsUp}
use Rattle.fm_cong.specs.Paths.{IsOnPath, is_on_one}
use Rattle.fm_cells.specs.Members.{is_on}
use Rattle.fm_cells.specs.declared.edge.Edge.{Edge}
use Rattle.fm_cells.proofs.Ways.{none_some, up_same}
use Rattle.fm_cells.proofs.Heights.{on_way}
use Rattle.fm_cong.proofs.Walks.{above_link, is_on_next}

beq_back : (a b : Bool) → beq a b ≡ beq b a
beq_back true true = refl
beq_back true false = refl
beq_back false true = refl
beq_back false false = refl

pub path_back : (link : ℕ → Option Edge) (u v e : ℕ) → IsOnPath link u v e → IsOnPath link v u e
path_back link u v e p = record { left = p.right; right = p.left; top = p.top; up_left = p.up_right; up_right = p.up_left; once = ap not (beq_back (is_on p.right e) (is_on p.left e)) ∙ p.once }

pub tree_back : (link : ℕ → Option Edge) (u v : ℕ) → AreInOneTree link u v → AreInOneTree link v u
tree_back link u v t = (t.1.0, (t.0, (t.1.1.0, t.1.1.2, t.1.1.1)))

beq_same : (b : Bool) → not (beq b b) ≡ false
beq_same true = refl
beq_same false = refl

-- no link is on the path from a node to itself
pub no_path : (link : ℕ → Option Edge) (u e : ℕ) → IsOnPath link u u e → ⊥
no_path link u e p =
    let same : p.left ≡ p.right = (up_same link u p.left p.right p.top p.top p.up_left p.up_right).0 in
    let never : is_on_one p.left p.right e ≡ false = ap (λ xs. is_on_one xs p.right e) same ∙ beq_same (is_on p.right e) in
    false≢true (sym never ∙ p.once)

-- another node that is no deeper isn't below u
not_below : (link : ℕ → Option Edge) (u v : ℕ) (xs ys : List ℕ) (top : ℕ) → IsUp link u xs top → IsUp link v ys top → (u ≡ v → ⊥) → length ys ≤ length xs → is_on ys u ≡ false
not_below link u v xs [] top a b ne le = refl
not_below link u v xs (y ∷ ys) top a b ne le =
    false_from_ne_true (is_on (y ∷ ys) u) (λ h.
    elim (eqb_tells u y) [
      | inl same ↦ ne (same.1 ∙ sym b.0)
      | inr other ↦
          let later : is_on ys u ≡ true = elim (or_cases (u == y) (is_on ys u) h) [ inl t ↦ absurd (false≢true (sym other.0 ∙ t)) | inr t ↦ t ] in
          let r = on_way link b.1.0.to ys top u b.1.2 later in
          let s = ap length (up_same link u r.nodes xs top top r.way a).0 in
          omega (arith, s, le, r.most_is)
    ])

module _ (link : ℕ → Option Edge) (u v : ℕ) (l : Edge) (h : link u ≡ Some l) where
  pub climb_down : (e : ℕ) → IsOnPath link u v e → (e ≡ u) ⊎ IsOnPath link l.to v e
  climb_down e p =
      let a = above_link link u p.left p.top l p.up_left h in
      elim (eqb_tells e u) [
        | inl same ↦ inl same.1
        | inr other ↦
            let on : is_on p.left e ≡ is_on a.nodes e = ap (λ xs. is_on xs e) a.way_is ∙ is_on_next u e a.nodes other.1 in
            let once : is_on_one a.nodes p.right e ≡ true = ap (λ b. not (beq b (is_on p.right e))) (sym on) ∙ p.once in
            inr (record { left = a.nodes; right = p.right; top = p.top; up_left = a.onward; up_right = p.up_right; once = once })
      ]

  pub climb_tree : AreInOneTree link u v → AreInOneTree link l.to v
  climb_tree t =
      let a = above_link link u t.0 t.1.1.0 l t.1.1.1 h in
      (a.nodes, (t.1.0, (t.1.1.0, a.onward, t.1.1.2)))

  on_first : (xs : List ℕ) → is_on (u ∷ xs) u ≡ true
  on_first xs = ap (λ b. b || is_on xs u) (eq-eqb u u refl)

  pub climb_first : AreInOneTree link u v → (u ≡ v → ⊥) → ((xs ys : List ℕ) (top : ℕ) → IsUp link u xs top → IsUp link v ys top → length ys ≤ length xs) → IsOnPath link u v u
  climb_first t ne deep =
      let a = above_link link u t.0 t.1.1.0 l t.1.1.1 h in
      let off = not_below link u v t.0 t.1.0 t.1.1.0 t.1.1.1 t.1.1.2 ne (deep t.0 t.1.0 t.1.1.0 t.1.1.1 t.1.1.2) in
      let on : is_on t.0 u ≡ true = ap (λ xs. is_on xs u) a.way_is ∙ on_first a.nodes in
      record { left = t.0; right = t.1.0; top = t.1.1.0; up_left = t.1.1.1; up_right = t.1.1.2; once = λ i. not (beq (on i) (off i)) }

  pub climb_up : AreInOneTree link u v → (u ≡ v → ⊥) → ((xs ys : List ℕ) (top : ℕ) → IsUp link u xs top → IsUp link v ys top → length ys ≤ length xs) → (e : ℕ) → IsOnPath link l.to v e → IsOnPath link u v e
  climb_up t ne deep e q =
      elim (eqb_tells e u) [
        | inl same ↦ subst (λ (z : ℕ). IsOnPath link u v z) (sym same.1) (climb_first t ne deep)
        | inr other ↦
            let once : is_on_one (u ∷ q.left) q.right e ≡ true = ap (λ b. not (beq b (is_on q.right e))) (is_on_next u e q.left other.1) ∙ q.once in
            record { left = u ∷ q.left; right = q.right; top = q.top; up_left = (refl, (l, h, q.up_left)); up_right = q.up_right; once = once }
      ]

-- the deeper of two nodes of one tree that differ has a link
pub has_link : (link : ℕ → Option Edge) (u v : ℕ) → AreInOneTree link u v → (u ≡ v → ⊥) → ((xs ys : List ℕ) (top : ℕ) → IsUp link u xs top → IsUp link v ys top → length ys ≤ length xs) → link u ≡ None → ⊥
has_link link u v t ne deep none = at t.0 t.1.0 t.1.1.0 t.1.1.1 t.1.1.2 (deep t.0 t.1.0 t.1.1.0 t.1.1.1 t.1.1.2)
  where
    at : (xs ys : List ℕ) (top : ℕ) → IsUp link u xs top → IsUp link v ys top → length ys ≤ length xs → ⊥
    at [] [] top a b le = ne (a.0 ∙ sym b.0)
    at [] (y ∷ ys) top a b le = omega (arith, le)
    at (x ∷ xs) ys top a b le = none_some (link u) a.1.0 none a.1.1
