-- The links are those before and one more, write by write.
use Rattle.std.proofs.Common.{◌≡◌, ℕ, ◌⊎◌, Option, Some, None, inl, inr, refl, sym, subst, ap, ◌∙◌}
use Rattle.std.proofs.lemmas.Bool.Decides.{eqb_tells}
use Rattle.fm_cells.specs.Forest.{HasEdge, HasOneMore, HasOnePending, IsHere, relinked, turned}
use Rattle.fm_cells.specs.declared.edge.Edge.{Edge}
use Rattle.fm_cells.proofs.Ways.{none_some, relinked_at, relinked_other, some_same}
use Rattle.fm_cells.proofs.Turning.{relinked_cases}

-- an edge seen from its other node
pub edge_turned : (link : ℕ → Option Edge) (e : ℕ) (l : Edge) → HasEdge link e l → HasEdge link l.to (turned e l)
edge_turned link e l h = elim h [ inl a ↦ inr a | inr b ↦ inl b ]

pub here_turned : (p : ℕ) (o : Edge) (e : ℕ) (l : Edge) → IsHere p o e l → IsHere p o l.to (turned e l)
here_turned p o e l h = elim h [ inl a ↦ inr a | inr b ↦ inl b ]

pub pending_start : (old : ℕ → Option Edge) (x : ℕ) (edge : Edge) → HasOnePending old old x edge x edge
pending_start old x edge =
    record {
      kept = λ e l h. inl (inl h);
      added = inr (inl (refl, refl));
      only = λ e l h. inl (inl h);
      next = inr (inl (refl, refl));
    }

-- what was pending is written
written : (link : ℕ → Option Edge) (at : ℕ) (new : Edge) (e : ℕ) (l : Edge) → IsHere at new e l → HasEdge (relinked link at (Some new)) e l
written link at new e l h =
    elim h [
      | inl a ↦ inl (relinked_at link at (Some new) e (sym a.0) ∙ ap Some a.1)
      | inr b ↦ inr (relinked_at link at (Some new) l.to (sym b.0) ∙ ap Some b.1)
    ]

carried : (link : ℕ → Option Edge) (at : ℕ) (new old : Edge) → link at ≡ Some old → (e : ℕ) (l : Edge) → HasEdge link e l → HasEdge (relinked link at (Some new)) e l ⊎ IsHere old.to (turned at old) e l
carried link at new old s e l h =
    elim h [
      | inl a ↦ elim (eqb_tells e at) [
        | inl same ↦
            let k : old ≡ l = some_same (link at) old l s (ap link (sym same.1) ∙ a) in
            inr (inr (ap (λ (m : Edge). m.to) k, λ i. turned (sym same.1 i) (k i)))
        | inr other ↦ inl (inl (relinked_other link at (Some new) e other.0 ∙ a))
      ]
      | inr b ↦ elim (eqb_tells l.to at) [
        | inl same ↦
            let k : old ≡ turned e l = some_same (link at) old (turned e l) s (ap link (sym same.1) ∙ b) in
            inr (inl (ap (λ (m : Edge). m.to) k, λ i. turned (sym same.1 i) (k i)))
        | inr other ↦ inl (inr (relinked_other link at (Some new) l.to other.0 ∙ b))
      ]
    ]

stays : (link : ℕ → Option Edge) (at : ℕ) (new : Edge) → link at ≡ None → (e : ℕ) (l : Edge) → HasEdge link e l → HasEdge (relinked link at (Some new)) e l
stays link at new s e l h =
    elim h [
      | inl a ↦ elim (eqb_tells e at) [
        | inl same ↦ absurd (none_some (link at) l s (ap link (sym same.1) ∙ a))
        | inr other ↦ inl (relinked_other link at (Some new) e other.0 ∙ a)
      ]
      | inr b ↦ elim (eqb_tells l.to at) [
        | inl same ↦ absurd (none_some (link at) (turned e l) s (ap link (sym same.1) ∙ b))
        | inr other ↦ inr (relinked_other link at (Some new) l.to other.0 ∙ b)
      ]
    ]

module _ (old link : ℕ → Option Edge) (x : ℕ) (edge : Edge) (at : ℕ) (new : Edge) (p : HasOnePending old link x edge at new) where
  written_only : (e : ℕ) (l : Edge) → relinked link at (Some new) e ≡ Some l → HasEdge old e l ⊎ IsHere x edge e l
  written_only e l h =
      elim (relinked_cases link at new e (Some l) h) [
        | inl same ↦
            let k : new ≡ l = cc same.1 in
            subst (λ (m : Edge). HasEdge old e m ⊎ IsHere x edge e m) k (subst (λ (z : ℕ). HasEdge old z new ⊎ IsHere x edge z new) (sym same.0) p.next)
        | inr other ↦ p.only e l other.1
      ]

  pub pending_step : (above : Edge) → link at ≡ Some above → HasOnePending old (relinked link at (Some new)) x edge above.to (turned at above)
  pending_step above s =
      let moves : (e : ℕ) (l : Edge) → HasEdge link e l ⊎ IsHere at new e l → HasEdge (relinked link at (Some new)) e l ⊎ IsHere above.to (turned at above) e l = λ e l h. elim h [ inl a ↦ carried link at new above s e l a | inr b ↦ inl (written link at new e l b) ] in
      record {
        kept = λ e l h. moves e l (p.kept e l h);
        added = moves x edge p.added;
        only = written_only;
        next = elim (p.only at above s) [ inl a ↦ inl (edge_turned old at above a) | inr b ↦ inr (here_turned x edge at above b) ];
      }

  pub pending_end : link at ≡ None → HasOneMore old (relinked link at (Some new)) x edge
  pending_end s =
      let moves : (e : ℕ) (l : Edge) → HasEdge link e l ⊎ IsHere at new e l → HasEdge (relinked link at (Some new)) e l = λ e l h. elim h [ inl a ↦ stays link at new s e l a | inr b ↦ written link at new e l b ] in
      record {
        kept = λ e l h. moves e l (p.kept e l h);
        added = moves x edge p.added;
        only = written_only;
      }
