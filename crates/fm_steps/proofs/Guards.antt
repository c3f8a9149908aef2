-- What is learnt from clauses whose size literals are guarded has them guarded.
use Rattle.std.proofs.Common.{◌≡◌, ◌≢◌, ℕ, Bool, true, false, not, List, [], ◌∷◌, inl, inr, sym, ap, ◌∙◌}
use Rattle.std.proofs.lemmas.Bool.{cases_Bool, false≢true, true≢false}
use Rattle.fm_base.specs.Resolution.{Has, Resolves, SameSet, opposite}
use Rattle.fm_base.specs.declared.ids.Lit.{Lit}
use Rattle.fm_sat.specs.Learning.{Derives, Steps}
use Rattle.fm_trail.specs.declared.entry.Entry.{Entry}
use Rattle.fm_steps.specs.Facts.{AreGuarded, HasGuard, IsGuarded}
use Rattle.fm_steps.specs.State.{Clause}

differs : (a b : Bool) → a ≡ false → b ≡ true → a ≡ b → ⊥
differs a b f t e = absurd (false≢true (sym f ∙ (e ∙ t)))

sign_differs : (n l : Lit) → n.positive ≡ false → l.positive ≡ true → n ≢ l
sign_differs n l f t e = differs n.positive l.positive f t (ap (λ (x : Lit). x.positive) e)

size_differs : (is_size : ℕ → Bool) (n l : Lit) → is_size n.atom.0 ≡ true → is_size l.atom.0 ≡ false → n ≢ l
size_differs is_size n l p q e = absurd (true≢false (sym p ∙ (ap (λ (x : Lit). is_size x.atom.0) e ∙ q)))

module _ (is_size : ℕ → Bool) (a : Clause) (l : Lit) (b next : Clause) (r : Resolves opposite a l b next) (ga : IsGuarded is_size a) (gb : IsGuarded is_size b) where
  from_left : (g : HasGuard is_size a) → g.guard ≢ l → HasGuard is_size next
  from_left g ne = record { guard = g.guard; has = (r.exactly g.guard).1 (inl (g.has, ne)); size = g.size; negative = g.negative }

  from_right : (g : HasGuard is_size b) → g.guard ≢ opposite l → HasGuard is_size next
  from_right g ne = record { guard = g.guard; has = (r.exactly g.guard).1 (inr (g.has, ne)); size = g.size; negative = g.negative }

  -- the clause with a positive size literal that is resolved has a negative one besides
  left_again : is_size l.atom.0 ≡ true → l.positive ≡ true → HasGuard is_size next
  left_again size pos = let g = ga l r.stands size in from_left g (sign_differs g.guard l g.negative pos)

  right_again : is_size l.atom.0 ≡ true → l.positive ≡ false → HasGuard is_size next
  right_again size neg = let g = gb (opposite l) r.against size in from_right g (sign_differs g.guard (opposite l) g.negative (ap not neg))

  left_has : (k : Lit) → Has a k → is_size k.atom.0 ≡ true → HasGuard is_size next
  left_has k h size =
      let g = ga k h size in
      elim (cases_Bool l.positive) [
        | inl pos ↦ from_left g (sign_differs g.guard l g.negative pos)
        | inr neg ↦ elim (cases_Bool (is_size l.atom.0)) [
          | inl same ↦ right_again same neg
          | inr other ↦ from_left g (size_differs is_size g.guard l g.size other)
        ]
      ]

  right_has : (k : Lit) → Has b k → is_size k.atom.0 ≡ true → HasGuard is_size next
  right_has k h size =
      let g = gb k h size in
      elim (cases_Bool l.positive) [
        | inl pos ↦ elim (cases_Bool (is_size l.atom.0)) [
          | inl same ↦ left_again same pos
          | inr other ↦ from_right g (size_differs is_size g.guard (opposite l) g.size other)
        ]
        | inr neg ↦ from_right g (sign_differs g.guard (opposite l) g.negative (ap not neg))
      ]

  pub resolved_guarded : IsGuarded is_size next
  resolved_guarded k h size = elim ((r.exactly k).0 h) [ inl p ↦ left_has k p.0 size | inr p ↦ right_has k p.0 size ]

-- one set with a guarded clause
pub same_guarded : (is_size : ℕ → Bool) (a b : Clause) → SameSet a b → IsGuarded is_size a → IsGuarded is_size b
same_guarded is_size a b same g k has size =
    let q = g k ((same k).1 has) size in
    record { guard = q.guard; has = (same q.guard).0 q.has; size = q.size; negative = q.negative }

pub derived_guarded : (is_size : ℕ → Bool) (keep : ℕ) (cs : List Clause) (es : List Entry) (now : Clause) (steps : Steps) (end : Clause) → AreGuarded is_size cs → IsGuarded is_size now → Derives keep cs es now steps end → IsGuarded is_size end
derived_guarded is_size keep cs es now [] end all g h = same_guarded is_size now end h g
derived_guarded is_size keep cs es now (step ∷ steps) end all g h =
    let back = h.1.backward in
    derived_guarded is_size keep cs es h.0 steps end all (resolved_guarded is_size now step.0 back.reason h.0 back.resolves g (all step.1 back.reason back.stored)) h.2
