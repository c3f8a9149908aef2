-- The candidate and its tables have one sum, and are alike in what fails and in which added instances are true.
use Rattle.std.proofs.Common.{◌≡◌, ℕ, zero, suc, ◌+◌, ◌<◌, Bool, true, not, cond, List, [], ◌∷◌, map, Some, refl, ap, subst, ◌∙◌, arith, inl, inr}
use Rattle.std.specs.Prelude.{nat_lt}
use Rattle.std.specs.Option.{option_map}
use Rattle.std.specs.List.{find, list_all, range_with_len}
use Rattle.std.proofs.lemmas.Bool.{and_parts, ltb-true}
use Rattle.fm_base.specs.Interpretations.{IsInterpretation, Reading, names_its_sorts, reading_of}
use Rattle.fm_base.specs.Models.{IsElements, sum_below}
use Rattle.fm_base.specs.Resolution.{Has}
use Rattle.fm_base.specs.declared.ids.SortId.{SortId}
use Rattle.fm_base.proofs.Resolution.{mapped_has}
use Rattle.fm_bank.specs.Clauses.{lits_true}
use Rattle.fm_bank.specs.Sorted.{are_sorted_literals, is_sorted_clause}
use Rattle.fm_bank.specs.declared.clause.Clause.{Clause}
use Rattle.fm_rounds.specs.Failing.{failing_tuple, first_failing_from, instance_of, or_later, sizes_of}
use Rattle.fm_rounds.specs.Grounds.{IsGrounded}
use Rattle.fm_rounds.specs.Rounds.{Content, candidate, candidate_reading, representatives}
use Rattle.fm_rounds.specs.Soundness.{TablesReadAlike}
use Rattle.fm_rounds.specs.Tuples.{tuples}
use Rattle.fm_rounds.proofs.Alike.{clauses_agree}
use Rattle.fm_rounds.proofs.Candidates.{candidate_interprets, get_in}
use Rattle.fm_rounds.proofs.Fits.{size_reads, tabled_agrees}
use Rattle.fm_rounds.proofs.LeastTuple.{Below, elements_below}
use Rattle.fm_rounds.proofs.Members.{in_flat, in_range}
use Rattle.fm_rounds.proofs.Reaching.{all_in}

find_alike : {X : Type 0} (p q : X → Bool) (xs : List X) → ((x : X) → Has xs x → p x ≡ q x) → find p xs ≡ find q xs
find_alike p q [] h = refl
find_alike {X} p q (x ∷ xs) h =
    let one = h x (inl refl) in
    let more = find_alike p q xs (λ y i. h y (inr i)) in
    λ i. cond (one i) (Some x) (more i)

tuples_below : (ns xs : List ℕ) → Has (tuples ns) xs → Below ns xs
tuples_below [] xs h = elim h [ inl e ↦ subst (Below []) e tt | inr none ↦ absurd none ]
tuples_below (n ∷ ns) xs h =
    let w = in_flat (λ x. map (λ ys. x ∷ ys) (tuples ns)) xs (range_with_len 0 n) h in
    let m = mapped_has (λ ys. w.0 ∷ ys) (tuples ns) xs w.2 in
    let low = (in_range w.0 0 n w.1).1 in
    subst (Below (n ∷ ns)) m.is (omega (arith, low), tuples_below ns m.lit m.has)

sums_alike : (n : ℕ) (f g : ℕ → ℕ) → ((s : ℕ) → s < n → f s ≡ g s) → sum_below n f ≡ sum_below n g
unfolding sum_below
sums_alike zero f g h = refl
sums_alike (suc n) f g h = let one = h n (omega arith) in let more = sums_alike n f g (λ s lt. h s (omega (arith, lt))) in λ i. more i + one i

module _ (c : Content) (g : IsGrounded c) (named : names_its_sorts c.sig ≡ true) where
  abbrev m : Reading
  m = candidate_reading c

  abbrev w : Reading
  w = reading_of (candidate c)

  int : IsInterpretation c.sig m
  int = candidate_interprets c g named

  size_alike : (s : ℕ) → s < c.sig.sorts → w.size s ≡ m.size s
  size_alike = size_reads c.sig m int named

  sizes_alike : (vars : List SortId) → list_all (λ (s : SortId). nat_lt s.0 c.sig.sorts) vars ≡ true → sizes_of w vars ≡ sizes_of m vars
  sizes_alike [] e = refl
  sizes_alike (s ∷ ss) e =
      let p = and_parts (nat_lt s.0 c.sig.sorts) (list_all (λ (r : SortId). nat_lt r.0 c.sig.sorts) ss) e in
      let one = size_alike s.0 (ltb-true s.0 c.sig.sorts p.0) in
      let more = sizes_alike ss p.1 in
      λ i. one i ∷ more i

  elements_alike : (vars : List SortId) (xs : List ℕ) → list_all (λ (s : SortId). nat_lt s.0 c.sig.sorts) vars ≡ true → IsElements w vars xs → IsElements m vars xs
  elements_alike [] [] e h = tt
  elements_alike [] (x ∷ xs) e h = absurd h
  elements_alike (s ∷ ss) [] e h = absurd h
  elements_alike (s ∷ ss) (x ∷ xs) e h =
      let p = and_parts (nat_lt s.0 c.sig.sorts) (list_all (λ (r : SortId). nat_lt r.0 c.sig.sorts) ss) e in
      (subst (λ n. x < n) (size_alike s.0 (ltb-true s.0 c.sig.sorts p.0)) h.0, elements_alike ss xs p.1 h.1)

  truth_alike : (clause : Clause) (xs : List ℕ) → are_sorted_literals c.sig clause.vars clause.lits ≡ true → IsElements m clause.vars xs → lits_true w xs clause.lits ≡ lits_true m xs clause.lits
  truth_alike clause xs sorted elements = clauses_agree c.sig m w clause.vars xs clause.lits int (tabled_agrees c.sig m) elements sorted

  tuple_alike : (clause : Clause) → is_sorted_clause c.sig clause ≡ true → failing_tuple w clause ≡ failing_tuple m clause
  tuple_alike clause sorted =
      let p = and_parts (list_all (λ (s : SortId). nat_lt s.0 c.sig.sorts) clause.vars) (are_sorted_literals c.sig clause.vars clause.lits) sorted in
      ap (λ ns. find (λ xs. not (lits_true w xs clause.lits)) (tuples ns)) (sizes_alike clause.vars p.0)
      ∙ find_alike (λ xs. not (lits_true w xs clause.lits)) (λ xs. not (lits_true m xs clause.lits)) (tuples (sizes_of m clause.vars)) (λ xs q. ap not (truth_alike clause xs p.1 (elements_below m clause.vars xs (tuples_below (sizes_of m clause.vars) xs q))))

  from_alike : (k : ℕ) (cs : List Clause) → list_all (is_sorted_clause c.sig) cs ≡ true → first_failing_from w k cs ≡ first_failing_from m k cs
  from_alike k [] e = refl
  from_alike k (x ∷ cs) e =
      let p = and_parts (is_sorted_clause c.sig x) (list_all (is_sorted_clause c.sig) cs) e in
      let one = tuple_alike x p.0 in
      let more = from_alike (k + 1) cs p.1 in
      λ i. or_later k (one i) (more i)

pub tables_read_alike : TablesReadAlike
tables_read_alike c clauses g named sorted = record {
  sum = sums_alike c.sig.sorts (w c g named).size (m c g named).size (size_alike c g named);
  failing = ap (option_map (instance_of (representatives c) clauses)) (from_alike c g named 0 clauses sorted);
  added = λ added truths i clause xs has there elements is.
      let whole = all_in (is_sorted_clause c.sig) clauses clause sorted (get_in clauses i.0 clause there) in
      let p = and_parts (list_all (λ (s : SortId). nat_lt s.0 c.sig.sorts) clause.vars) (are_sorted_literals c.sig clause.vars clause.lits) whole in
      let here = elements_alike c g named clause.vars xs p.0 elements in
      truth_alike c g named clause xs p.1 here ∙ truths i clause xs has there here is;
}
