-- The search through the clauses says what the textbook does.
use Rattle.std.proofs.Common.{◌≡◌, ℕ, suc, ◌+◌, ◌-◌, ◌<◌, ◌≤◌, Bool, not, List, [], ◌∷◌, length, drop, get_or, Option, Some, None, refl, sym, subst, ap, ◌∙◌, arith}
use Rattle.std.specs.Prelude.{slice_get}
use Rattle.std.specs.Option.{option_map}
use Rattle.std.proofs.lemmas.Bool.{not-true, not-false}
use Rattle.std.proofs.lemmas.List.{drop_more, length-map}
use Rattle.fm_base.specs.Interpretations.{Reading}
use Rattle.fm_base.specs.declared.ids.SortId.{SortId}
use Rattle.fm_bank.specs.Clauses.{Satisfies, lits_true}
use Rattle.fm_bank.specs.declared.clause.Clause.{Clause}
use Rattle.fm_rounds.specs.Failing.{FailsFirst, IsFirstFailing, failing_instance, failing_tuple, first_failing, first_failing_from, instance_of, named_of, or_later, sizes_of, vars_in}
use Rattle.fm_rounds.proofs.LeastTuple.{IsAnswer, below_elements, below_length, elements_below, first_tuple_is}

abbrev FailsFrom : Reading → ℕ → List Clause → Option (ℕ × List ℕ) → Type 0
FailsFrom m k cs None = Satisfies m cs
FailsFrom m k cs (Some f) = (k ≤ f.0) × IsFirstFailing m cs (f.0 - k) f.1

one_here : (m : Reading) (k : ℕ) (c : Clause) (cs : List Clause) (xs : List ℕ) → IsAnswer (λ ys. not (lits_true m ys c.lits)) (sizes_of m c.vars) (Some xs) → IsFirstFailing m (c ∷ cs) (k - k) xs
one_here m k c cs xs (below, fails, least) = let zero_is : 0 ≡ k - k = omega arith in subst (λ i. IsFirstFailing m (c ∷ cs) i xs) zero_is (record {
  clause = c;
  stands = refl;
  elements = elements_below m c.vars xs below;
  fails = not-true (lits_true m xs c.lits) fails;
  least = λ other e before. not-false (lits_true m other c.lits) (least other (below_elements m c.vars other e) before);
  first = tt;
})

one_later : (m : Reading) (k : ℕ) (c : Clause) (cs : List Clause) (f : ℕ × List ℕ) → IsAnswer (λ ys. not (lits_true m ys c.lits)) (sizes_of m c.vars) None → k + 1 ≤ f.0 → IsFirstFailing m cs (f.0 - (k + 1)) f.1 → IsFirstFailing m (c ∷ cs) (f.0 - k) f.1
one_later m k c cs f none le h =
    let next : suc (f.0 - (k + 1)) ≡ f.0 - k = omega (arith, le) in
    subst (λ i. IsFirstFailing m (c ∷ cs) i f.1) next (record {
      clause = h.clause;
      stands = h.stands;
      elements = h.elements;
      fails = h.fails;
      least = h.least;
      first = ((λ env e. not-false (lits_true m env c.lits) (none env (below_elements m c.vars env e))), h.first);
    })

step : (m : Reading) (k : ℕ) (c : Clause) (cs : List Clause) (here : Option (List ℕ)) (later : Option (ℕ × List ℕ)) → IsAnswer (λ ys. not (lits_true m ys c.lits)) (sizes_of m c.vars) here → FailsFrom m (k + 1) cs later → FailsFrom m k (c ∷ cs) (or_later k here later)
step m k c cs (Some xs) later h l = (omega arith, one_here m k c cs xs h)
step m k c cs None None h l = ((λ env e. not-false (lits_true m env c.lits) (h env (below_elements m c.vars env e))), l)
step m k c cs None (Some f) h (le, l) = (omega (arith, le), one_later m k c cs f h le l)

from_is : (m : Reading) (k : ℕ) (cs : List Clause) → FailsFrom m k cs (first_failing_from m k cs)
from_is m k [] = tt
from_is m k (c ∷ cs) = step m k c cs (failing_tuple m c) (first_failing_from m (k + 1) cs) (first_tuple_is (λ ys. not (lits_true m ys c.lits)) (sizes_of m c.vars)) (from_is m (k + 1) cs)

whole : (m : Reading) (cs : List Clause) (o : Option (ℕ × List ℕ)) → FailsFrom m 0 cs o → FailsFirst m cs o
whole m cs None h = h
whole m cs (Some f) (le, h) = let same : f.0 - 0 ≡ f.0 = omega arith in subst (λ i. IsFirstFailing m cs i f.1) same h

pub first_failing_is : (m : Reading) (cs : List Clause) → FailsFirst m cs (first_failing m cs)
first_failing_is m cs = whole m cs (first_failing m cs) (from_is m 0 cs)

answer_length : (p : List ℕ → Bool) (ns : List ℕ) (o : Option (List ℕ)) (xs : List ℕ) → IsAnswer p ns o → o ≡ Some xs → length xs ≡ length ns
answer_length p ns None xs h e = cc
answer_length p ns (Some ys) xs h e = subst (λ l. length l ≡ length ns) (cc e) (below_length ns ys h.0)

pub tuple_length : (m : Reading) (c : Clause) (xs : List ℕ) → failing_tuple m c ≡ Some xs → length xs ≡ length c.vars
tuple_length m c xs e = answer_length (λ ys. not (lits_true m ys c.lits)) (sizes_of m c.vars) (failing_tuple m c) xs (first_tuple_is (λ ys. not (lits_true m ys c.lits)) (sizes_of m c.vars)) e ∙ length-map c.vars (λ (s : SortId). m.size s.0)

pub instance_here : (m : Reading) (reps : List (List ℕ)) (cs : List Clause) (k : ℕ) (c : Clause) (xs : List ℕ) → first_failing m cs ≡ Some (k, xs) → slice_get cs k ≡ Some c → failing_instance m reps cs ≡ Some (k, named_of reps c.vars xs)
instance_here m reps cs k c xs e stands =
    ap (option_map (instance_of reps cs)) e ∙ ap (λ (o : Option Clause). Some (k, named_of reps (vars_in o) xs)) stands

pub found_here : (m : Reading) (cs : List Clause) (k : ℕ) (c : Clause) (xs : List ℕ) → k < length cs → first_failing_from m k (drop k cs) ≡ first_failing m cs → c ≡ get_or cs k c → failing_tuple m c ≡ Some xs → first_failing m cs ≡ Some (k, xs)
found_here m cs k c xs lt same is e =
    sym same ∙ ap (first_failing_from m k) (drop_more cs k c lt ∙ ap (λ (x : Clause). x ∷ drop (k + 1) cs) (sym is)) ∙ ap (λ o. or_later k o (first_failing_from m (k + 1) (drop (k + 1) cs))) e
