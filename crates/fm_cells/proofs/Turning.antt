-- A merge turns the way up from a node round, link by link, and so makes two trees one.
use Rattle.std.proofs.Common.{◌≡◌, ℕ, suc, ◌⊎◌, cond, List, [], ◌∷◌, length, Option, Some, None, inl, inr, refl, sym, subst, ap, ◌∙◌, arith}
use Rattle.std.specs.Prelude.{◌==◌}
use Rattle.std.proofs.lemmas.Bool.Decides.{eqb_tells}
use Rattle.fm_cells.specs.Forest.{AreInOneTree, AreTrees, HasEnd, IsTurning, IsUp, merged, relinked, turned}
use Rattle.fm_cells.specs.declared.edge.Edge.{Edge}
use Rattle.fm_cells.proofs.Ways.{HasMoved, kept_up, moved_up, none_some, relinked_at, relinked_other, some_same, up_same}

-- a way up stays within its class
pub up_class : (link : ℕ → Option Edge) (class : ℕ → ℕ) → ((e : ℕ) (l : Edge) → link e ≡ Some l → class e ≡ class l.to) → (z : ℕ) (zs : List ℕ) (top : ℕ) → IsUp link z zs top → class z ≡ class top
up_class link class h z [] top u = ap class u.0
up_class link class h z (y ∷ zs) top u = h z u.1.0 u.1.1 ∙ up_class link class h u.1.0.to zs top u.1.2

pub end_free : (link : ℕ → Option Edge) (z : ℕ) (zs : List ℕ) (top : ℕ) → IsUp link z zs top → link top ≡ None
end_free link z [] top u = ap link (sym u.0) ∙ u.1
end_free link z (y ∷ zs) top u = end_free link u.1.0.to zs top u.1.2

-- the way up above a node that has a link
pub record HasNext (link : ℕ → Option Edge) (rest : List ℕ) (to top : ℕ) : Type 0 where
  pub nodes : List ℕ
  pub longer : length rest ≡ suc (length nodes)
  pub way : IsUp link to nodes top

above : (link : ℕ → Option Edge) (at : ℕ) (rest : List ℕ) (top : ℕ) (old : Edge) → IsUp link at rest top → link at ≡ Some old → HasNext link rest old.to top
above link at [] top old u e = absurd (none_some (link at) old u.1 e)
above link at (y ∷ ys) top old u e =
    let same : u.1.0 ≡ old = some_same (link at) u.1.0 old u.1.1 e in
    record { nodes = ys; longer = omega arith; way = subst (λ (l : Edge). IsUp link l.to ys top) same u.1.2 }

at_top : (link : ℕ → Option Edge) (at : ℕ) (rest : List ℕ) (top : ℕ) → IsUp link at rest top → link at ≡ None → at ≡ top
at_top link at [] top u e = u.0
at_top link at (y ∷ ys) top u e = absurd (none_some (link at) u.1.0 e u.1.1)

pub relinked_cases : (link : ℕ → Option Edge) (p : ℕ) (new : Edge) (e : ℕ) (o : Option Edge) → relinked link p (Some new) e ≡ o → ((e ≡ p) × (o ≡ Some new)) ⊎ ((e ≡ p → ⊥) × (link e ≡ o))
relinked_cases link p new e o h =
    elim (eqb_tells e p) [
      | inl same ↦ inl (same.1, sym h ∙ relinked_at link p (Some new) e same.1)
      | inr other ↦ inr (other.1, sym (relinked_other link p (Some new) e other.0) ∙ h)
    ]

module _ (link : ℕ → Option Edge) (class : ℕ → ℕ) (at : ℕ) (new : Edge) (t : IsTurning link class at new) where
  next_behind : IsUp (relinked link at (Some new)) new.to t.under t.low
  next_behind = kept_up link at (Some new) new.to t.under t.low t.behind (λ ws le w. t.apart (up_same link at ws t.rest t.low t.top w t.onward).1)

  next_moved : (z : ℕ) → HasMoved (relinked link at (Some new)) at t.low (t.ended z).end z
  next_moved z = moved_up link at new t.under t.low next_behind z (t.ended z).nodes (t.ended z).end (t.ended z).way

  next_within : (e : ℕ) (l : Edge) → relinked link at (Some new) e ≡ Some l → class e ≡ class l.to
  next_within e l h =
      elim (relinked_cases link at new e (Some l) h) [
        | inl same ↦ let s : l ≡ new = cc same.1 in ap class same.0 ∙ t.pending ∙ ap (λ (k : Edge). class k.to) (sym s)
        | inr other ↦ t.within e l other.1
      ]

  next_free : (z : ℕ) → relinked link at (Some new) z ≡ None → (z ≡ at → ⊥) × (link z ≡ None)
  next_free z h =
      elim (relinked_cases link at new z None h) [
        | inl same ↦ absurd (none_some None new refl same.1)
        | inr other ↦ other
      ]

  -- the way up from the next node is the rest of the one before
  pub turn_next : (old : Edge) → link at ≡ Some old → HasNext (relinked link at (Some new)) t.rest old.to t.top
  turn_next old e =
      let next = above link at t.rest t.top old t.onward e in
      record {
        nodes = next.nodes;
        longer = next.longer;
        way = kept_up link at (Some new) old.to next.nodes t.top next.way (λ ws le w. let s = ap length (up_same link at ws t.rest t.top t.top w t.onward).0 in omega (arith, s, le, next.longer));
      }

  pub turn_step : (old : Edge) → link at ≡ Some old → IsTurning (relinked link at (Some new)) class old.to (turned at old)
  turn_step old e =
      let next = turn_next old e in
      record {
        rest = next.nodes;
        top = t.top;
        onward = next.way;
        under = at ∷ t.under;
        low = t.low;
        behind = (refl, (new, relinked_at link at (Some new) at refl, next_behind));
        apart = t.apart;
        ended = λ z. (next_moved z).end;
        within = next_within;
        pending = sym (t.within at old e);
        one_end = λ z w p q a b s. t.one_end z w (next_free z p).1 (next_free w q).1 a b s;
      }

  pub turn_end : link at ≡ None → AreTrees (relinked link at (Some new)) class
  turn_end e =
      let top = at_top link at t.rest t.top t.onward e in
      record {
        ended = λ z. (next_moved z).end;
        within = next_within;
        one_end = λ z w p q s. t.one_end z w (next_free z p).1 (next_free w q).1 (λ a. (next_free z p).0 (a ∙ sym top)) (λ b. (next_free w q).0 (b ∙ sym top)) s;
      }

pub merged_cases : (class : ℕ → ℕ) (x y z : ℕ) → ((class z ≡ class x) × (merged class x y z ≡ class y)) ⊎ ((class z ≡ class x → ⊥) × (merged class x y z ≡ class z))
merged_cases class x y z =
    elim (eqb_tells (class z) (class x)) [
      | inl same ↦ inl (same.1, ap (λ b. cond b (class y) (class z)) same.0)
      | inr other ↦ inr (other.1, ap (λ b. cond b (class y) (class z)) other.0)
    ]

merged_same : (class : ℕ → ℕ) (x y a b : ℕ) → class a ≡ class b → merged class x y a ≡ merged class x y b
merged_same class x y a b e = λ i. cond (e i == class x) (class y) (e i)

-- a merge begins
pub turn_start : (link : ℕ → Option Edge) (class : ℕ → ℕ) (x : ℕ) (edge : Edge) → AreTrees link class → (class x ≡ class edge.to → ⊥) → IsTurning link (merged class x edge.to) x edge
turn_start link class x edge trees differ =
    let y = edge.to in
    let up = trees.ended x in
    let down = trees.ended y in
    let up_is : class x ≡ class up.end = up_class link class trees.within x up.nodes up.end up.way in
    let down_is : class y ≡ class down.end = up_class link class trees.within y down.nodes down.end down.way in
    let stays : (z : ℕ) → link z ≡ None → (z ≡ up.end → ⊥) → merged class x y z ≡ class z = λ z p a.
    elim (merged_cases class x y z) [
      | inl same ↦ absurd (a (trees.one_end z up.end p (end_free link x up.nodes up.end up.way) (same.0 ∙ up_is)))
      | inr other ↦ other.1
    ] in
    record {
      rest = up.nodes;
      top = up.end;
      onward = up.way;
      under = down.nodes;
      low = down.end;
      behind = down.way;
      apart = λ e. differ (up_is ∙ ap class (sym e) ∙ sym down_is);
      ended = trees.ended;
      within = λ e l h. merged_same class x y e l.to (trees.within e l h);
      pending = elim (merged_cases class x y y) [ inl same ↦ elim (merged_cases class x y x) [ inl also ↦ also.1 ∙ sym same.1 | inr never ↦ absurd (never.0 refl) ] | inr other ↦ elim (merged_cases class x y x) [ inl also ↦ also.1 ∙ sym other.1 | inr never ↦ absurd (never.0 refl) ] ];
      one_end = λ z w p q a b s. trees.one_end z w p q (sym (stays z p a) ∙ s ∙ stays w q b);
    }

-- in a forest whose trees are the classes two nodes are in one tree exactly where they are of one class
pub one_tree : (link : ℕ → Option Edge) (class : ℕ → ℕ) → AreTrees link class → (x y : ℕ) → class x ≡ class y → AreInOneTree link x y
one_tree link class trees x y e =
    let a = trees.ended x in
    let b = trees.ended y in
    let s : a.end ≡ b.end = trees.one_end a.end b.end (end_free link x a.nodes a.end a.way) (end_free link y b.nodes b.end b.way) (sym (up_class link class trees.within x a.nodes a.end a.way) ∙ e ∙ up_class link class trees.within y b.nodes b.end b.way) in
    (a.nodes, (b.nodes, (b.end, subst (λ (t : ℕ). IsUp link x a.nodes t) s a.way, b.way)))

pub one_class : (link : ℕ → Option Edge) (class : ℕ → ℕ) → AreTrees link class → (x y : ℕ) → AreInOneTree link x y → class x ≡ class y
one_class link class trees x y h =
    up_class link class trees.within x h.0 h.1.1.0 h.1.1.1 ∙ sym (up_class link class trees.within y h.1.0 h.1.1.0 h.1.1.2)

-- each forest has such classes: those of the ends of its trees
pub by_ends : (link : ℕ → Option Edge) (ended : (x : ℕ) → HasEnd link x) → AreTrees link (λ x. (ended x).end)
by_ends link ended =
    record {
      ended = ended;
      within = λ e l h.
          let next = above link e (ended e).nodes (ended e).end l (ended e).way h in
          (up_same link l.to next.nodes (ended l.to).nodes (ended e).end (ended l.to).end next.way (ended l.to).way).1;
      one_end = λ x y p q s. at_top link x (ended x).nodes (ended x).end (ended x).way p ∙ (s ∙ sym (at_top link y (ended y).nodes (ended y).end (ended y).way q));
    }
