-- A search in exceptions that ascend.
use Rattle.std.proofs.Common.{◌≡◌, ℕ, zero, suc, ◌+◌, ◌<◌, ◌≤◌, true, false, List, [], ◌∷◌, length, get_or, ap, refl, sym, subst, ◌∙◌, arith, inl, inr}
use Rattle.std.specs.Str.{bytes_eq}
use Rattle.std.specs.Cmp.Lexicographic.{slice_cmp}
use Rattle.std.specs.Ordering.{nat_cmp, is_lt, is_eq, ordering_reverse}
use Rattle.std.specs.declared.cmp.Ordering.{Ordering}
use Rattle.std.proofs.lemmas.Bool.{and_parts, cond-true, cond-false, cases_eq, cases_lt}
use Rattle.std.proofs.lemmas.List.{get_or_read}
use Rattle.std.proofs.lemmas.Cmp.{nat_list_cmp_total, alike_right}
use Rattle.std.proofs.lemmas.Map.Text.{is_eq-slice_cmp}
use Rattle.fm_base.specs.Interpretations.{ascends, ascends_after, entry_in}

abbrev pub Exception : Type 0
Exception = List ℕ × ℕ

abbrev pub order : List ℕ → List ℕ → Ordering
order xs ys = slice_cmp nat_cmp xs ys

less_from_test : (o : Ordering) → is_lt o ≡ true → o ≡ Ordering.Less
less_from_test Ordering.Less e = refl
less_from_test Ordering.Equal e = cc
less_from_test Ordering.Greater e = cc

after-at : (xs : List ℕ) (es : List Exception) (k : ℕ) (d : Exception) → ascends_after xs es ≡ true → k < length es → order xs (get_or es k d).0 ≡ Ordering.Less
after-at xs [] k d e lt = absurd (omega arith)
after-at xs (x ∷ es) zero d e lt = less_from_test (order xs x.0) (and_parts (is_lt (order xs x.0)) (ascends_after x.0 es) e).0
after-at xs (x ∷ es) (suc k) d e lt =
    let parts = and_parts (is_lt (order xs x.0)) (ascends_after x.0 es) e in
    nat_list_cmp_total.trans xs x.0 (get_or es k d).0 (less_from_test (order xs x.0) parts.0) (after-at x.0 es k d parts.1 (omega arith))

ascends-tail : (xs : List ℕ) (es : List Exception) → ascends_after xs es ≡ true → ascends es ≡ true
ascends-tail xs [] e = refl
ascends-tail xs (x ∷ es) e = (and_parts (is_lt (order xs x.0)) (ascends_after x.0 es) e).1

pub ascends-at : (es : List Exception) (i j : ℕ) (d : Exception) → ascends es ≡ true → i < j → j < length es → order (get_or es i d).0 (get_or es j d).0 ≡ Ordering.Less
ascends-at [] i j d e lt within = absurd (omega arith)
ascends-at (x ∷ es) i zero d e lt within = absurd (omega arith)
ascends-at (x ∷ es) zero (suc j) d e lt within = after-at x.0 es j d e (omega arith)
ascends-at (x ∷ es) (suc i) (suc j) d e lt within = ascends-at es i j d (ascends-tail x.0 es e) (omega arith) (omega arith)

-- all exceptions before the place are below the tuple
abbrev pub AreBelow : List Exception → ℕ → List ℕ → Type 0
AreBelow es high xs = (k : ℕ) → k < high → order (get_or es k ([], 0)).0 xs ≡ Ordering.Less

-- all exceptions from the place on are above the tuple
abbrev pub AreAbove : List Exception → ℕ → List ℕ → Type 0
AreAbove es low xs = (k : ℕ) → low ≤ k → k < length es → order (get_or es k ([], 0)).0 xs ≡ Ordering.Greater

pub below_from : (es : List Exception) (m : ℕ) (xs : List ℕ) → ascends es ≡ true → m < length es → order (get_or es m ([], 0)).0 xs ≡ Ordering.Less → AreBelow es (m + 1) xs
below_from es m xs e lt h k below =
    elim (cases_eq k m) [
      | inl same ↦ subst (λ i. order (get_or es i ([], 0)).0 xs ≡ Ordering.Less) (sym same) h
      | inr other ↦ nat_list_cmp_total.trans (get_or es k ([], 0)).0 (get_or es m ([], 0)).0 xs (ascends-at es k m ([], 0) e (omega arith) lt) h
    ]

pub above_from : (es : List Exception) (m : ℕ) (xs : List ℕ) → ascends es ≡ true → order (get_or es m ([], 0)).0 xs ≡ Ordering.Greater → AreAbove es m xs
above_from es m xs e h k above lt =
    elim (cases_eq k m) [
      | inl same ↦ subst (λ i. order (get_or es i ([], 0)).0 xs ≡ Ordering.Greater) (sym same) h
      | inr other ↦
          let at = (get_or es m ([], 0)).0 in
          let back : order xs at ≡ Ordering.Less = nat_list_cmp_total.antisymm xs at ∙ ap ordering_reverse h in
          let far : order xs (get_or es k ([], 0)).0 ≡ Ordering.Less = nat_list_cmp_total.trans xs at (get_or es k ([], 0)).0 back (ascends-at es m k ([], 0) e (omega arith) lt) in
          nat_list_cmp_total.antisymm (get_or es k ([], 0)).0 xs ∙ ap ordering_reverse far
    ]

-- what a comparison with the exception that a loop reads says
pub order_read : (es : List Exception) (m : ℕ) (x : Exception) (s xs : List ℕ) (o : Ordering) → m < length es → x ≡ get_or es m x → s ≡ x.0 → o ≡ order s xs → order (get_or es m ([], 0)).0 xs ≡ o
order_read es m x s xs o lt is at h = sym (h ∙ ap (λ ys. order ys xs) (at ∙ ap (λ (z : Exception). z.0) (get_or_read es m x lt is ([], 0))))

other_than : (xs ys : List ℕ) (o : Ordering) → order xs ys ≡ o → is_eq o ≡ false → bytes_eq xs ys ≡ false
other_than xs ys o e h = sym (is_eq-slice_cmp xs ys) ∙ ap is_eq e ∙ h

same_as : (xs ys : List ℕ) → order xs ys ≡ Ordering.Equal → bytes_eq xs ys ≡ true
same_as xs ys e = sym (is_eq-slice_cmp xs ys) ∙ ap is_eq e

none_is : (default : ℕ) (es : List Exception) (xs : List ℕ) → ((k : ℕ) → k < length es → bytes_eq (get_or es k ([], 0)).0 xs ≡ false) → entry_in default es xs ≡ default
none_is default [] xs h = refl
none_is default (e ∷ es) xs h = cond-false (bytes_eq e.0 xs) e.1 (entry_in default es xs) (h 0 (omega arith)) ∙ none_is default es xs (λ k lt. h (suc k) (omega arith))

first_is : (default : ℕ) (es : List Exception) (xs : List ℕ) (m : ℕ) → m < length es → ((k : ℕ) → k < m → bytes_eq (get_or es k ([], 0)).0 xs ≡ false) → bytes_eq (get_or es m ([], 0)).0 xs ≡ true → entry_in default es xs ≡ (get_or es m ([], 0)).1
first_is default [] xs m lt before here = absurd (omega arith)
first_is default (e ∷ es) xs zero lt before here = cond-true (bytes_eq e.0 xs) e.1 (entry_in default es xs) here
first_is default (e ∷ es) xs (suc m) lt before here = cond-false (bytes_eq e.0 xs) e.1 (entry_in default es xs) (before 0 (omega arith)) ∙ first_is default es xs m (omega arith) (λ k below. before (suc k) (omega arith)) here

-- no exception is left between those below the tuple and those above it
pub entry_in-none : (default : ℕ) (es : List Exception) (low high : ℕ) (xs : List ℕ) → AreBelow es low xs → AreAbove es high xs → high ≤ low → entry_in default es xs ≡ default
entry_in-none default es low high xs below above le =
    none_is default es xs (λ k lt. elim (cases_lt k low) [
      | inl before ↦ other_than (get_or es k ([], 0)).0 xs Ordering.Less (below k before) refl
      | inr behind ↦ other_than (get_or es k ([], 0)).0 xs Ordering.Greater (above k (omega arith) lt) refl
    ])

pub entry_in-found : (default : ℕ) (es : List Exception) (m : ℕ) (xs : List ℕ) → ascends es ≡ true → m < length es → order (get_or es m ([], 0)).0 xs ≡ Ordering.Equal → entry_in default es xs ≡ (get_or es m ([], 0)).1
entry_in-found default es m xs e lt h =
    first_is default es xs m lt
    (λ k below. other_than (get_or es k ([], 0)).0 xs Ordering.Less (sym (alike_right nat_list_cmp_total (get_or es m ([], 0)).0 xs (get_or es k ([], 0)).0 h) ∙ ascends-at es k m ([], 0) e below lt) refl)
    (same_as (get_or es m ([], 0)).0 xs h)
