-- Watches that are told one after the other.
use Rattle.std.proofs.Common.{◌≡◌, ℕ, zero, suc, List, [], ◌∷◌, ◌++◌, drop, map, take, Some, inl, inr, refl, sym, ap, subst, ◌∙◌}
use Rattle.std.specs.Prelude.{Option, slice_get, slice_set}
use Rattle.fm_guide.specs.Watches.{with_event}
use Rattle.fm_guide.specs.declared.event.Event.{Event}
use Rattle.fm_watching.specs.Told.{MayBeTold, Seen}

-- nothing has changed
may_stay : (e : Event) (old : Seen) → MayBeTold e old old
may_stay e [] = record {}
may_stay e (s ∷ old) = (inl refl, may_stay e old)

module _ {W : Type 0} (seen : W → Option (List Event)) (e : Event) where
  -- one more has been told
  pub told_more : (old : Seen) (ws : List W) (i : ℕ) (w new : W) → slice_get ws i ≡ Some w → map seen ws ≡ map (with_event e) (take i old) ++ drop i old
      → seen new ≡ with_event e (seen w) → map seen (slice_set ws i new) ≡ map (with_event e) (take (suc i) old) ++ drop (suc i) old
  told_more old [] i w new at h n = absurd (cc at)
  told_more [] (v ∷ ws) zero w new at h n = absurd (cc h)
  told_more [] (v ∷ ws) (suc i) w new at h n = absurd (cc h)
  told_more (o ∷ old) (v ∷ ws) zero w new at h n =
      let same : v ≡ w = cc at in
      let head : seen v ≡ o = cc h in
      let tail : map seen ws ≡ old = cc h in
      ap (λ s. s ∷ map seen ws) (n ∙ ap (with_event e) (ap seen (sym same) ∙ head)) ∙ ap (λ ss. with_event e o ∷ ss) tail
  told_more (o ∷ old) (v ∷ ws) (suc i) w new at h n =
      let head : seen v ≡ with_event e o = cc h in
      let tail : map seen ws ≡ map (with_event e) (take i old) ++ drop i old = cc h in
      ap (λ s. s ∷ map seen (slice_set ws i new)) head ∙ ap (λ ss. with_event e o ∷ ss) (told_more old ws i w new at tail n)

  -- the next has failed, and has seen what it had
  pub told_some : (old : Seen) (ws : List W) (i : ℕ) (w new : W) → slice_get ws i ≡ Some w → map seen ws ≡ map (with_event e) (take i old) ++ drop i old
      → seen new ≡ seen w → MayBeTold e old (map seen (slice_set ws i new))
  told_some old [] i w new at h n = absurd (cc at)
  told_some [] (v ∷ ws) zero w new at h n = absurd (cc h)
  told_some [] (v ∷ ws) (suc i) w new at h n = absurd (cc h)
  told_some (o ∷ old) (v ∷ ws) zero w new at h n =
      let same : v ≡ w = cc at in
      let head : seen v ≡ o = cc h in
      let tail : map seen ws ≡ old = cc h in
      (inl (n ∙ ap seen (sym same) ∙ head), subst (λ (ss : Seen). MayBeTold e old ss) (sym tail) (may_stay e old))
  told_some (o ∷ old) (v ∷ ws) (suc i) w new at h n =
      let head : seen v ≡ with_event e o = cc h in
      let tail : map seen ws ≡ map (with_event e) (take i old) ++ drop i old = cc h in
      (inr head, told_some old ws i w new at tail n)
