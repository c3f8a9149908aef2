-- Numbers that are sorted, each once, ascend strictly.
use Rattle.std.proofs.Common.{◌≡◌, ℕ, ◌+◌, ◌<◌, ◌≤◌, false, List, length, sym, subst, ◌∙◌, arith}
use Rattle.std.specs.Prelude.{◌≢◌, ◌==◌, eqb, get_or, slice_index}
use Rattle.std.specs.List.{IsDistinct}
use Rattle.std.specs.List.Sorted.{IsNonDecreasing, IsNonDecreasingBy, IsPermutation, IsStrictlyIncreasing}
use Rattle.std.proofs.lemmas.Bool.{eq-eqb, false≢true}
use Rattle.std.proofs.lemmas.Cmp.{nat_eq_equiv}
use Rattle.std.proofs.lemmas.List.{get_or-map, length-map}
use Rattle.std.proofs.lemmas.List.Sorted.{All-permutation, Contains-permutation, IsNonDecreasingBy-from_default, IsPermutation-map, IsPermutation-sym}
use Rattle.std.proofs.lemmas.Map.Keys.{IsDistinct-IsPermutation, apart_from_distinct}
use Rattle.fm_base.specs.declared.ids.TermId.{TermId}
use Rattle.fm_bank.specs.Subterms.{AreSubterms}
use Rattle.fm_bank.specs.Terms.{AreTerms, Term, numbers}

increasing : (xs : List ℕ) → IsDistinct eqb xs → IsNonDecreasing xs → IsStrictlyIncreasing xs
increasing xs once up k lt =
    let le : slice_index xs k ≤ slice_index xs (k + 1) = up k (k + 1) 0 (omega arith) lt in
    let differ : (slice_index xs k == slice_index xs (k + 1)) ≡ false = apart_from_distinct eqb xs k (k + 1) 0 once (omega arith) lt in
    let ne : slice_index xs k ≢ slice_index xs (k + 1) = λ e. false≢true (sym differ ∙ eq-eqb (slice_index xs k) (slice_index xs (k + 1)) e) in
    omega (arith, le, ne)

numbers_rise : (ids : List TermId) → IsNonDecreasingBy (λ (t : TermId). t.0) ids → IsNonDecreasing (numbers ids)
numbers_rise ids up =
    IsNonDecreasingBy-from_default (λ x. x) (numbers ids) 0 (λ i j le lt.
    let long : length (numbers ids) ≡ length ids = length-map ids (λ (t : TermId). t.0) in
    let d : TermId = record { 0 = 0 } in
    let here : get_or (numbers ids) i 0 ≡ (get_or ids i d).0 = get_or-map (λ (t : TermId). t.0) ids i d 0 (omega (arith, long, le, lt)) in
    let there : get_or (numbers ids) j 0 ≡ (get_or ids j d).0 = get_or-map (λ (t : TermId). t.0) ids j d 0 (omega (arith, long, lt)) in
    let rise : (get_or ids i d).0 ≤ (get_or ids j d).0 = up i j d le (omega (arith, long, lt)) in
    omega (arith, here, there, rise))

-- what holds of the ids in one order holds of them sorted
module _ (found seen listed sorted : List TermId) (same : seen ≡ found) (copied : listed ≡ seen) (moved : IsPermutation listed sorted) where
  ids_moved : IsPermutation found sorted
  ids_moved = subst (λ (l : List TermId). IsPermutation l sorted) (copied ∙ same) moved

  numbers_moved : IsPermutation (numbers found) (numbers sorted)
  numbers_moved = IsPermutation-map (λ (t : TermId). t.0) found sorted ids_moved

  pub sorted_subterms : (terms : List Term) (roots : List ℕ) → AreSubterms terms roots (numbers found) → AreSubterms terms roots (numbers sorted)
  sorted_subterms terms roots h n = (
    λ there. (h n).0 (Contains-permutation (numbers sorted) (numbers found) n (IsPermutation-sym (numbers found) (numbers sorted) numbers_moved) there),
    λ s. Contains-permutation (numbers found) (numbers sorted) n numbers_moved ((h n).1 s),
  )

  pub sorted_rise : IsDistinct eqb (numbers found) → IsNonDecreasingBy (λ (t : TermId). t.0) sorted → IsStrictlyIncreasing (numbers sorted)
  sorted_rise once up = increasing (numbers sorted) (IsDistinct-IsPermutation eqb nat_eq_equiv.symm (numbers found) (numbers sorted) numbers_moved once) (numbers_rise sorted up)

  pub sorted_below : (terms : List Term) → AreTerms terms found → AreTerms terms sorted
  sorted_below terms h = All-permutation (λ (t : TermId). t.0 < length terms) found sorted ids_moved h
