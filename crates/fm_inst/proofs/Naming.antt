-- Instances by numbers and by identifiers.
use Rattle.std.proofs.Common.{◌≡◌, ℕ, zero, suc, List, [], ◌∷◌, get_or, Option, Some, None, refl, sym, subst}
use Rattle.std.specs.Prelude.{slice_get, slice_index, IfOk, Result, Ok, Err}
use Rattle.std.specs.Option.{option_map}
use Rattle.fm_base.specs.Interpretations.{Reading}
use Rattle.fm_base.specs.declared.ids.SortId.{SortId}
use Rattle.fm_base.specs.declared.ids.TermId.{TermId}
use Rattle.fm_bank.specs.Terms.{numbers}
use Rattle.fm_bank.specs.declared.clause.Clause.{Clause}
use Rattle.fm_inst.specs.Answers.{AnswersLeast, IsNew, term_in, terms_of}
use Rattle.fm_rounds.specs.Failing.{AreTrueThere, FailsFirst, failing_instance, first_failing, instance_of, named_of, numbered_reps, rep_in}
use Rattle.fm_rounds.proofs.FirstFailing.{first_failing_is}
use Rattle.fm_rounds.proofs.Newness.{failing_new}

-- the number of an identifier of the list, where a missing one has the number 0
number_at : (ts : List TermId) (x : ℕ) → (get_or ts x (record { 0 = 0 })).0 ≡ slice_index (numbers ts) x
number_at [] x = refl
number_at (t ∷ ts) zero = refl
number_at (t ∷ ts) (suc x) = number_at ts x

one_named : (reps : List (List TermId)) (s x : ℕ) → (term_in (slice_get reps s) x).0 ≡ rep_in (slice_get (numbered_reps reps) s) x
one_named [] s x = refl
one_named (r ∷ reps) zero x = number_at r x
one_named (r ∷ reps) (suc s) x = one_named reps s x

pub all_named : (reps : List (List TermId)) (ss : List SortId) (xs : List ℕ) → numbers (terms_of reps ss xs) ≡ named_of (numbered_reps reps) ss xs
all_named reps [] xs = refl
all_named reps (s ∷ ss) [] = refl
all_named reps (s ∷ ss) (x ∷ xs) = let one = one_named reps s.0 x in let rest = all_named reps ss xs in λ i. one i ∷ rest i

least_of : (m : Reading) (reps : List (List ℕ)) (cs : List Clause) (o : Option (ℕ × List ℕ)) → FailsFirst m cs o → AnswersLeast m reps cs (option_map (instance_of reps cs) o)
least_of m reps cs None h = h
least_of m reps cs (Some f) h = (f.1, h, refl)

-- what a call answers that finds the failing instance
pub answer_least : {X E : Type 0} (m : Reading) (reps : List (List ℕ)) (cs : List Clause) (view : X → Option (ℕ × List ℕ)) (r : Result X E)
    → IfOk r (λ o. view o ≡ failing_instance m reps cs) → IfOk r (λ o. AnswersLeast m reps cs (view o))
answer_least m reps cs view (Ok o) h = subst (AnswersLeast m reps cs) (sym h) (least_of m reps cs (first_failing m cs) (first_failing_is m cs))
answer_least m reps cs view (Err e) h = tt

new_of : (m : Reading) (reps : List (List ℕ)) (cs : List Clause) (added : List (ℕ × List ℕ)) (o : Option (ℕ × List ℕ)) → AreTrueThere m reps cs added → failing_instance m reps cs ≡ o → IsNew added o
new_of m reps cs added None there e = tt
new_of m reps cs added (Some f) there e = failing_new m reps cs added there f e

pub answer_new : {X E : Type 0} (m : Reading) (reps : List (List ℕ)) (cs : List Clause) (added : List (ℕ × List ℕ)) (view : X → Option (ℕ × List ℕ)) (r : Result X E)
    → AreTrueThere m reps cs added → IfOk r (λ o. view o ≡ failing_instance m reps cs) → IfOk r (λ o. IsNew added (view o))
answer_new m reps cs added view (Ok o) there h = new_of m reps cs added (view o) there (sym h)
answer_new m reps cs added view (Err e) there h = tt
