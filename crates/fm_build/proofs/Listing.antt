-- The entries of a symbol, one term after the other.
use Rattle.std.proofs.Common.{◌≡◌, ℕ, ◌+◌, Bool, true, false, ◌&&◌, not, List, Option, Some, None, refl, sym, subst, ap, ◌∙◌, arith, inl, inr}
use Rattle.std.specs.Prelude.{◌==◌, slice_get, slice_index}
use Rattle.std.proofs.lemmas.Bool.{cases_eq, false≢true}
use Rattle.fm_bank.specs.Terms.{Term}
use Rattle.fm_build.specs.Marks.{is_marked}
use Rattle.fm_build.specs.Entries.{AreEntries, ComesFrom, HasKey, PutsTerm, has_symbol, is_listed, tuple_at}

module _ (terms : List Term) (marks : List Bool) (elements : List ℕ) (f : ℕ) where
  later : (n : ℕ) (e : List ℕ × ℕ) → ComesFrom terms marks elements f n e → ComesFrom terms marks elements f (n + 1) e
  later n e h = record { n = h.n; t = h.t; before = omega (arith, h.before); stands = h.stands; listed = h.listed; tuple = h.tuple; element = h.element }

  pub entries_same : (n : ℕ) (es : List (List ℕ × ℕ)) → AreEntries terms marks elements f n es → is_listed terms marks elements f n ≡ false → AreEntries terms marks elements f (n + 1) es
  entries_same n es h no' = record {
    order = h.order;
    come = λ e i. later n e (h.come e i);
    all = λ k t lt stands listed. elim (cases_eq k n) [
      | inl same ↦ absurd (false≢true (sym no' ∙ ap (is_listed terms marks elements f) (sym same) ∙ listed))
      | inr other ↦ h.all k t (omega (arith, lt, other)) stands listed
    ];
  }

  last_from : (n : ℕ) (t : Term) (e : List ℕ × ℕ) → slice_get terms n ≡ Some t → is_listed terms marks elements f n ≡ true → e ≡ (tuple_at elements t, slice_index elements n) → ComesFrom terms marks elements f (n + 1) e
  last_from n t e stands listed is = record { n = n; t = t; before = omega arith; stands = stands; listed = listed; tuple = ap (λ (p : List ℕ × ℕ). p.0) is; element = ap (λ (p : List ℕ × ℕ). p.1) is }

  pub entries_more : (n : ℕ) (t : Term) (old new : List (List ℕ × ℕ)) → AreEntries terms marks elements f n old → slice_get terms n ≡ Some t → is_listed terms marks elements f n ≡ true → PutsTerm terms elements n old new → AreEntries terms marks elements f (n + 1) new
  entries_more n t old new h stands listed puts =
      let put = puts t stands in
      record {
        order = put.order;
        come = λ e i. elim (put.members e i) [
          | inl was ↦ later n e (h.come e was)
          | inr is ↦ last_from n t e stands listed is
        ];
        all = λ k u lt at good. elim (cases_eq k n) [
          | inl same ↦
              let one : t ≡ u = cc (sym stands ∙ ap (slice_get terms) (sym same) ∙ at) in
              subst (λ (w : Term). HasKey new (tuple_at elements w)) one put.there
          | inr other ↦ let r = h.all k u (omega (arith, lt, other)) at good in (r.0, put.kept (tuple_at elements u, r.0) r.1)
        ];
      }

  stands_of : (o : Option Term) (b : Bool) → (has_symbol f o && b) ≡ true → (t : Term) × (o ≡ Some t)
  stands_of None b h = absurd (false≢true h)
  stands_of (Some t) b h = (t, refl)

  pub entries_next : (n : ℕ) (old new : List (List ℕ × ℕ)) → AreEntries terms marks elements f n old → is_listed terms marks elements f n ≡ true → PutsTerm terms elements n old new → AreEntries terms marks elements f (n + 1) new
  entries_next n old new h listed puts =
      let s = stands_of (slice_get terms n) (is_marked marks n && not (slice_index elements n == 0)) listed in
      entries_more n s.0 old new h s.1 listed puts
