-- What is found of a certificate from one `check-sat` to the next.
use Rattle.std.proofs.Common.{◌≡◌, ℕ, true, List, [], ◌∷◌, ◌++◌, length, map, Option, None, Some, Err, refl, sym, ap, subst, ◌∙◌}
use Rattle.std.proofs.lemmas.List.{append-nil, append_assoc, length-map, map-append}
use Rattle.std.specs.Prelude.{IfNone, IfSome}
use Rattle.std.specs.List.{list_all}
use Rattle.fm_base.specs.Truth.{is_closed}
use Rattle.fm_base.specs.declared.formula.Formula.{Formula}
use Rattle.fm_base.specs.declared.refusal.Fail.{Fail}
use Rattle.fm_base.specs.declared.refusal.Refusal.{Refusal}
use Rattle.fm_base.specs.declared.signature.Sig.{Sig}
use Rattle.fm_sexp.specs.declared.items.Sexp.{Sexp}
use Rattle.fm_bank.specs.declared.clause.ClauseSet.{ClauseSet}
use Rattle.fm_cert.specs.Blockwise.{IsAt, IsCertificate, Left}
use Rattle.fm_cert.specs.Lines.{Problem}
use Rattle.fm_cert.specs.declared.block.Block.{Block}
use Rattle.fm_cert.specs.declared.block.Claim.{Claim}
use Rattle.fm_clauses.specs.Assertions.{clause_table}
use Rattle.fm_elab.specs.Checks.{refused_from}
use Rattle.fm_elab.specs.SortLaw.{IsSortedState}
use Rattle.fm_elab.specs.Stacks.{State as Stack, assertions_in_force, signature}
use Rattle.fm_elab.proofs.SortedStates.{problem_sorted}
use Rattle.fm_problem.specs.Tabled.{tabled, with_table}
use Rattle.fm_blocks.specs.Progress.{HasChecked, IsAllGood, IsLeftOver, IsNextFault, IsNextGood, IsReading, StepIs}
use Rattle.fm_blocks.specs.declared.progress.Step.{Step}
use Rattle.fm_blocks.specs.declared.verdict.Fault.{Fault}
use Rattle.fm_check.specs.Carrying.{Carries, Finds, FindsNext, Goes, GoesOn, HasClaimed, IsCarried, IsFound, IsUnderWay, refusal_at}
use Rattle.fm_check.specs.Scripts.{in_force, problems_from, problems_of}
use Rattle.fm_check.specs.Verdicts.{IsVerdict, claims_of}
use Rattle.fm_check.specs.declared.commands.Kind.{Kind}
use Rattle.fm_check.specs.declared.progress.Next.{Next}
use Rattle.fm_check.specs.declared.verdict.Verdict.{Verdict}
use Rattle.fm_check.proofs.Carried.{checked_stays, refused_check, refused_other, seen_check, seen_exit, seen_other, sorted_next}
use Rattle.fm_check.proofs.Lists.{all_by_test}

-- the problem by its table is what is in force
pub is_tabled : (sig now : Sig) (fs all : List Formula) (table : ClauseSet) → sig ≡ now → fs ≡ all → table ≡ clause_table sig fs → with_table sig fs table ≡ tabled now all
is_tabled sig now fs all table e f t = ap (with_table sig fs) t ∙ (λ i. tabled (e i) (f i))

pub is_reading : (left : Left) (claims : List Claim) → IsUnderWay left claims → IsReading left
is_reading left claims (cert, problems, h) = (cert, h.blocks, h.checked.at)

number_is : (cert : List ℕ) (problems : List Problem) (claims : List Claim) (left : Left) (number : ℕ) → (h : HasClaimed cert problems claims left) → number ≡ length claims → number ≡ length h.blocks
number_is cert problems claims left number h e = e ∙ (ap length h.claims_are ∙ length-map h.blocks (λ (b : Block). b.claim))

pub good_next : (p q : Problem) (old new : Left) (number : ℕ) (claim : Claim) (claims more : List Claim) → q ≡ p → number ≡ length claims → IsNextGood q old number claim new → more ≡ claims ++ claim ∷ [] → FindsNext p old claims Next.Good new more
good_next p q old new number claim claims more same e next is = λ cert problems h.
    let found = next cert problems h.blocks h.checked (number_is cert problems claims old number h e) in
    record {
      blocks = h.blocks ++ found.0 ∷ [];
      checked = subst (λ (r : Problem). HasChecked cert (problems ++ r ∷ []) (h.blocks ++ found.0 ∷ []) new) same found.2;
      claims_are = is ∙ (ap (λ (cs : List Claim). cs ++ claim ∷ []) h.claims_are ∙ (ap (λ (c : Claim). claims_of h.blocks ++ c ∷ []) (sym found.1) ∙ sym (map-append (λ (b : Block). b.claim) h.blocks (found.0 ∷ []))));
    }

pub bad_next : (p q : Problem) (old new : Left) (number : ℕ) (fault : Fault) (claims after : List Claim) → q ≡ p → number ≡ length claims → IsNextFault q old number fault → FindsNext p old claims (Next.Found (Some fault)) new after
bad_next p q old new number fault claims after same e next = λ more cert problems whole h.
    let found = next cert problems h.blocks whole h.checked (number_is cert problems claims old number h e) more in
    subst (λ (r : Problem). IsFound (problems ++ r ∷ more) cert (Some fault) after) same found

pub end_next : (p : Problem) (old new : Left) (claims : List Claim) → IsAllGood old → FindsNext p old claims (Next.Found None) new claims
end_next p old new claims good = λ more cert problems whole h. (h.blocks, good cert problems h.blocks h.checked (p ∷ more), h.claims_are)

-- no further `check-sat` comes
pub good_end : (left : Left) (claims : List Claim) (rest : List Problem) → rest ≡ [] → IsAllGood left → Finds rest left claims None claims
good_end left claims rest e good = λ cert problems whole h. (h.blocks, good cert problems h.blocks h.checked rest, h.claims_are)

pub bad_end : (left : Left) (claims : List Claim) (rest : List Problem) (fault : Fault) → rest ≡ [] → IsLeftOver left fault → Finds rest left claims (Some fault) claims
bad_end left claims rest fault e over = λ cert problems whole h.
    subst (λ (ps : List Problem). IsFound ps cert (Some fault) claims) (sym (ap (λ (ps : List Problem). problems ++ ps) e ∙ append-nil problems)) (over cert problems h.blocks whole h.checked)

-- what is found behind a good block is found from before it on
pub found_behind : (p : Problem) (more : List Problem) (old new : Left) (claims after : List Claim) (found : Option Fault) (last : List Claim) → FindsNext p old claims Next.Good new after → Finds more new after found last → Finds (p ∷ more) old claims found last
found_behind p more old new claims after found last good finds = λ cert problems whole h.
    subst (λ (ps : List Problem). IsFound ps cert found last) (append_assoc problems (p ∷ []) more) (finds cert (problems ++ p ∷ []) whole (good cert problems h))

pub still_under_way : (p : Problem) (old new : Left) (claims after : List Claim) → FindsNext p old claims Next.Good new after → IsUnderWay old claims → IsUnderWay new after
still_under_way p old new claims after good (cert, problems, h) = (cert, problems ++ p ∷ [], good cert problems h)

-- Steps as the code makes them.

tabled_now : (s : Stack) (sig : Sig) (fs : List Formula) (table : ClauseSet) → sig ≡ signature s → fs ≡ assertions_in_force s → table ≡ clause_table sig fs → with_table sig fs table ≡ in_force s
tabled_now s sig fs table e f t = is_tabled sig (signature s) fs (assertions_in_force s) table e f t

pub closed_now : (s : Stack) (sig : Sig) (fs : List Formula) → IsSortedState s → sig ≡ signature s → fs ≡ assertions_in_force s → list_all (λ f. is_closed f sig) fs ≡ true
closed_now s sig fs sorted e f = (λ i. list_all (λ g. is_closed g (e i)) (f i)) ∙ all_by_test (λ (g : Formula). is_closed g (signature s)) (assertions_in_force s) (problem_sorted s sorted).closed

pub next_good : (s : Stack) (sig : Sig) (fs : List Formula) (table : ClauseSet) (old new : Left) (step : Step) (claim : Claim) (claims slice more : List Claim) → sig ≡ signature s → fs ≡ assertions_in_force s → table ≡ clause_table sig fs → slice ≡ claims → step ≡ Step.Good claim → StepIs (with_table sig fs table) old (length slice) step new → more ≡ claims ++ claim ∷ [] → FindsNext (in_force s) old claims Next.Good new more
next_good s sig fs table old new step claim claims slice more e f t same is found pushed =
    let good : IsNextGood (with_table sig fs table) old (length slice) claim new = subst (λ (k : Step). StepIs (with_table sig fs table) old (length slice) k new) is found in
    good_next (in_force s) (with_table sig fs table) old new (length slice) claim claims more (tabled_now s sig fs table e f t) (ap length same) good pushed

pub next_bad : (s : Stack) (sig : Sig) (fs : List Formula) (table : ClauseSet) (old new : Left) (step : Step) (fault : Fault) (claims slice after : List Claim) → sig ≡ signature s → fs ≡ assertions_in_force s → table ≡ clause_table sig fs → slice ≡ claims → step ≡ Step.Bad fault → StepIs (with_table sig fs table) old (length slice) step new → FindsNext (in_force s) old claims (Next.Found (Some fault)) new after
next_bad s sig fs table old new step fault claims slice after e f t same is found =
    let bad : IsNextFault (with_table sig fs table) old (length slice) fault = subst (λ (k : Step). StepIs (with_table sig fs table) old (length slice) k new) is found in
    bad_next (in_force s) (with_table sig fs table) old new (length slice) fault claims after (tabled_now s sig fs table e f t) (ap length same) bad

pub next_end : (s : Stack) (p : Problem) (old new : Left) (number : ℕ) (step : Step) (claims : List Claim) → step ≡ Step.End → StepIs p old number step new → FindsNext (in_force s) old claims (Next.Found None) new claims
next_end s p old new number step claims is found =
    let good : IsAllGood old = subst (λ (k : Step). StepIs p old number k new) is found in
    end_next (in_force s) old new claims good

pub ends_with : (left : Left) (claims : List Claim) (rest : List Problem) (o : Option Fault) → rest ≡ [] → IfNone o (IsAllGood left) → IfSome o (λ f. IsLeftOver left f) → Finds rest left claims o claims
ends_with left claims rest None e good bad = good_end left claims rest e good
ends_with left claims rest (Some f) e good bad = bad_end left claims rest f e bad

pub goes_other : (text : List ℕ) (s t : Stack) (x : Sexp) (left : Left) (claims : List Claim) → IsSortedState s → IsUnderWay left claims → IsCarried text s x Kind.Other t → GoesOn text s x left claims t left claims
goes_other text s t x left claims sorted under c = record {
  finds = λ xs found last finds. subst (λ (ps : List Problem). Finds ps left claims found last) (sym (seen_other text s t x xs c)) finds;
  free = λ xs. refused_other text s t x xs c;
  sorted = sorted_next text s t x Kind.Other sorted c;
  reading = under;
}

pub goes_exit : (text : List ℕ) (s t : Stack) (x : Sexp) (left : Left) (claims : List Claim) (o : Option Fault) → IsCarried text s x Kind.Exit t → IfNone o (IsAllGood left) → IfSome o (λ f. IsLeftOver left f) → (xs : List Sexp) → Finds (problems_from text s (x ∷ xs)) left claims o claims
goes_exit text s t x left claims o c good bad = λ xs. ends_with left claims (problems_from text s (x ∷ xs)) o (seen_exit text s t x xs c) good bad

pub goes_check : (text : List ℕ) (s t : Stack) (x : Sexp) (old new : Left) (claims after : List Claim) (next : Next) → IsSortedState s → IsUnderWay old claims → IsCarried text s x Kind.Check t → FindsNext (in_force t) old claims next new after → Goes text s x old claims next t new after
goes_check text s t x old new claims after Next.Good sorted under c good =
    let stays : in_force t ≡ in_force s = ap in_force (sym (checked_stays text s t x c)) in
    let now : FindsNext (in_force s) old claims Next.Good new after = subst (λ (p : Problem). FindsNext p old claims Next.Good new after) stays good in
    record {
      finds = λ xs found last finds. subst (λ (ps : List Problem). Finds ps old claims found last) (sym (seen_check text s t x xs c)) (found_behind (in_force s) (problems_from text t xs) old new claims after found last now finds);
      free = λ xs. refused_check text s t x xs c;
      sorted = sorted_next text s t x Kind.Check sorted c;
      reading = still_under_way (in_force t) old new claims after good under;
    }
goes_check text s t x old new claims after (Next.Found found) sorted under c finds =
    let stays : in_force t ≡ in_force s = ap in_force (sym (checked_stays text s t x c)) in
    λ xs. subst (λ (ps : List Problem). Finds ps old claims found after) (sym (seen_check text s t x xs c)) (subst (λ (p : Problem). Finds (p ∷ problems_from text t xs) old claims found after) stays (finds (problems_from text t xs)))

-- The same where the code has found which kind it is.

pub refused_free : (text : List ℕ) (s t : Stack) (x : Sexp) (fail : Fail) (r : Refusal) → fail ≡ Fail.Refused r → Carries text s x (Err fail) t → refusal_at text s x ≡ None → ⊥
refused_free text s t x fail r e h free =
    let refused : refusal_at text s x ≡ Some r = subst (λ (f : Fail). Carries text s x (Err f) t) e h in
    cc (refused, free)

pub other_now : (text : List ℕ) (s t : Stack) (x : Sexp) (left : Left) (claims : List Claim) (kind : Kind) → kind ≡ Kind.Other → IsSortedState s → IsUnderWay left claims → IsCarried text s x kind t → GoesOn text s x left claims t left claims
other_now text s t x left claims kind e sorted under c = goes_other text s t x left claims sorted under (subst (λ (k : Kind). IsCarried text s x k t) e c)

pub exit_now : (text : List ℕ) (s t : Stack) (x : Sexp) (left : Left) (claims : List Claim) (kind : Kind) (o : Option Fault) → kind ≡ Kind.Exit → IsCarried text s x kind t → IfNone o (IsAllGood left) → IfSome o (λ f. IsLeftOver left f) → (xs : List Sexp) → Finds (problems_from text s (x ∷ xs)) left claims o claims
exit_now text s t x left claims kind o e c good bad = goes_exit text s t x left claims o (subst (λ (k : Kind). IsCarried text s x k t) e c) good bad

pub check_now : (text : List ℕ) (s t : Stack) (x : Sexp) (old new : Left) (claims after : List Claim) (kind : Kind) (next : Next) → kind ≡ Kind.Check → IsSortedState s → IsUnderWay old claims → IsCarried text s x kind t → FindsNext (in_force t) old claims next new after → Goes text s x old claims next t new after
check_now text s t x old new claims after kind next e sorted under c found = goes_check text s t x old new claims after next sorted under (subst (λ (k : Kind). IsCarried text s x k t) e c) found

pub found_now : (text : List ℕ) (s t : Stack) (x : Sexp) (old new : Left) (claims after : List Claim) (next : Next) (found : Option Fault) → next ≡ Next.Found found → Goes text s x old claims next t new after → (xs : List Sexp) → Finds (problems_from text s (x ∷ xs)) old claims found after
found_now text s t x old new claims after next found e goes = subst (λ (n : Next). Goes text s x old claims n t new after) e goes

pub good_now : (text : List ℕ) (s t : Stack) (x : Sexp) (old new : Left) (claims after : List Claim) (next : Next) → next ≡ Next.Good → Goes text s x old claims next t new after → GoesOn text s x old claims t new after
good_now text s t x old new claims after next e goes = subst (λ (n : Next). Goes text s x old claims n t new after) e goes

-- The whole text.

pub under_way : (cert : List ℕ) (left : Left) (claims : List Claim) → IsAt cert [] left → claims ≡ [] → HasClaimed cert [] claims left
under_way cert left claims at e = record { blocks = []; checked = record { at = at; count = refl; good = tt }; claims_are = e }

pub verdict_is : (ps : List Problem) (cert : List ℕ) (left : Left) (claims last : List Claim) (o : Option Fault) → IsCertificate cert → IsAt cert [] left → claims ≡ [] → Finds ps left claims o last → IsFound ps cert o last
verdict_is ps cert left claims last o whole at e finds = finds cert [] whole (under_way cert left claims at e)

pub found_whole : (text : List ℕ) (items slice : List Sexp) (cert : List ℕ) (left : Left) (claims last : List Claim) (o p : Option Fault) → slice ≡ items → claims ≡ [] → IsCertificate cert → IsAt cert [] left → o ≡ p → Finds (problems_of text slice) left claims o last → IsFound (problems_of text items) cert p last
found_whole text items slice cert left claims last o p same e whole at is finds =
    subst (λ (q : Option Fault). IsFound (problems_of text items) cert q last) is (verdict_is (problems_of text items) cert left claims last o whole at e (subst (λ (xs : List Sexp). Finds (problems_of text xs) left claims o last) same finds))

pub rejected_so : (ps : List Problem) (cert : List ℕ) (fault : Fault) (verdict : Verdict) (last : List Claim) → verdict ≡ Verdict.Rejected fault.line fault.rule → IsFound ps cert (Some fault) last → IsVerdict ps cert verdict
rejected_so ps cert fault verdict last e found = subst (λ (v : Verdict). IsVerdict ps cert v) (sym e) found
