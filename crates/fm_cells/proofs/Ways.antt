-- Ways up in a forest, and what a link put in place of another one makes of them.
use Rattle.std.proofs.Common.{◌≡◌, ℕ, ◌≤◌, ◌⊎◌, false, cond, List, [], ◌∷◌, length, Option, Some, None, inl, inr, refl, sym, subst, ap, ◌∙◌, arith}
use Rattle.std.specs.Prelude.{◌==◌}
use Rattle.std.proofs.lemmas.Bool.{eq-eqb}
use Rattle.std.proofs.lemmas.Bool.Decides.{eqb_tells}
use Rattle.fm_cells.specs.Forest.{HasEnd, IsUp, relinked}
use Rattle.fm_cells.specs.declared.edge.Edge.{Edge}

pub none_some : (o : Option Edge) (l : Edge) → o ≡ None → o ≡ Some l → ⊥
none_some o l n s = absurd cc

pub some_same : (o : Option Edge) (k l : Edge) → o ≡ Some k → o ≡ Some l → k ≡ l
some_same o k l a b = cc

-- one way up from each node
pub up_same : (link : ℕ → Option Edge) (x : ℕ) (xs ys : List ℕ) (s t : ℕ) → IsUp link x xs s → IsUp link x ys t → (xs ≡ ys) × (s ≡ t)
up_same link x [] [] s t p q = (refl, sym p.0 ∙ q.0)
up_same link x [] (y ∷ ys) s t p q = absurd (none_some (link x) q.1.0 p.1 q.1.1)
up_same link x (y ∷ xs) [] s t p q = absurd (none_some (link x) p.1.0 q.1 p.1.1)
up_same link x (y ∷ xs) (z ∷ ys) s t p q =
    let same : p.1.0 ≡ q.1.0 = some_same (link x) p.1.0 q.1.0 p.1.1 q.1.1 in
    let first : y ≡ z = sym p.0 ∙ q.0 in
    let rest = up_same link q.1.0.to xs ys s t (subst (λ (l : Edge). IsUp link l.to xs s) same p.1.2) q.1.2 in
    (λ i. first i ∷ rest.0 i, rest.1)

pub relinked_at : (link : ℕ → Option Edge) (p : ℕ) (o : Option Edge) (x : ℕ) → x ≡ p → relinked link p o x ≡ o
relinked_at link p o x e = ap (λ b. cond b o (link x)) (eq-eqb x p e)

pub relinked_other : (link : ℕ → Option Edge) (p : ℕ) (o : Option Edge) (x : ℕ) → (x == p) ≡ false → relinked link p o x ≡ link x
relinked_other link p o x e = ap (λ b. cond b o (link x)) e

-- a way up that doesn't meet p stays
pub kept_up : (link : ℕ → Option Edge) (p : ℕ) (o : Option Edge) (z : ℕ) (zs : List ℕ) (low : ℕ) → IsUp link z zs low → ((ws : List ℕ) → length ws ≤ length zs → IsUp link p ws low → ⊥) → IsUp (relinked link p o) z zs low
kept_up link p o z [] low u h =
    elim (eqb_tells z p) [
      | inl same ↦ absurd (h [] (omega arith) (subst (λ v. IsUp link v [] low) same.1 u))
      | inr other ↦ (u.0, relinked_other link p o z other.0 ∙ u.1)
    ]
kept_up link p o z (y ∷ zs) low u h =
    elim (eqb_tells z p) [
      | inl same ↦ absurd (h (y ∷ zs) (omega arith) (subst (λ v. IsUp link v (y ∷ zs) low) same.1 u))
      | inr other ↦ (u.0, (u.1.0, relinked_other link p o z other.0 ∙ u.1.1, kept_up link p o u.1.0.to zs low u.1.2 (λ ws le w. h ws (omega (arith, le)) w)))
    ]

-- where a way up ends once p has a link: at the end of that link's way, or where it ended, which is then not p
pub record HasMoved (link : ℕ → Option Edge) (p low top z : ℕ) : Type 0 where
  pub end : HasEnd link z
  pub cases : (end.end ≡ low) ⊎ ((end.end ≡ top) × (top ≡ p → ⊥))

pub moved_up : (link : ℕ → Option Edge) (p : ℕ) (l : Edge) (ws : List ℕ) (low : ℕ) → IsUp (relinked link p (Some l)) l.to ws low → (z : ℕ) (zs : List ℕ) (top : ℕ) → IsUp link z zs top → HasMoved (relinked link p (Some l)) p low top z
moved_up link p l ws low w z [] top u =
    elim (eqb_tells z p) [
      | inl same ↦ record { end = record { nodes = z ∷ ws; end = low; way = (refl, (l, relinked_at link p (Some l) z same.1, w)) }; cases = inl refl }
      | inr other ↦ record { end = record { nodes = []; end = top; way = (u.0, relinked_other link p (Some l) z other.0 ∙ u.1) }; cases = inr (refl, λ e. other.1 (u.0 ∙ e)) }
    ]
moved_up link p l ws low w z (y ∷ zs) top u =
    elim (eqb_tells z p) [
      | inl same ↦ record { end = record { nodes = z ∷ ws; end = low; way = (refl, (l, relinked_at link p (Some l) z same.1, w)) }; cases = inl refl }
      | inr other ↦
          let rest = moved_up link p l ws low w u.1.0.to zs top u.1.2 in
          record { end = record { nodes = z ∷ rest.end.nodes; end = rest.end.end; way = (refl, (u.1.0, relinked_other link p (Some l) z other.0 ∙ u.1.1, rest.end.way)) }; cases = rest.cases }
    ]
