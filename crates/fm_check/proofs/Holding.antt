-- The problems of a script have tables, and the claims of a good certificate hold.
use Rattle.std.proofs.Common.{◌≡◌, ℕ, Bool, true, false, cond, List, [], ◌∷◌, ◌++◌, Result, Ok, Err, refl, sym, subst}
use Rattle.fm_base.specs.declared.refusal.Refusal.{Refusal}
use Rattle.fm_sexp.specs.declared.items.Sexp.{Sexp}
use Rattle.fm_script.specs.Commands.{command_of}
use Rattle.fm_script.specs.Shown.{Shown}
use Rattle.fm_cert.specs.Claims.{HasTable}
use Rattle.fm_cert.specs.Lines.{Problem}
use Rattle.fm_cert.specs.declared.block.Block.{Block}
use Rattle.fm_cert.specs.declared.block.Claim.{Claim}
use Rattle.fm_elab.specs.Checks.{going_on, is_check, is_exit, seen_where, seen_with}
use Rattle.fm_elab.specs.SortLaw.{IsSortedState}
use Rattle.fm_elab.specs.Stacks.{State as Stack, assertions_in_force, signature, start}
use Rattle.fm_elab.specs.Steps.{step_of}
use Rattle.fm_elab.proofs.SortedStates.{problem_sorted, start_sorted, steps_stay}
use Rattle.fm_problem.proofs.Tables.{closed_have_tables}
use Rattle.fm_blocks.specs.Faults.{AllHaveTables, AllHold, IsGoodText}
use Rattle.fm_blocks.proofs.TextFaults.{good_texts_hold}
use Rattle.fm_check.specs.Scripts.{in_force, problems_from, problems_of}
use Rattle.fm_check.specs.Verdicts.{HoldOf, claims_of}

has_table : (s : Stack) → IsSortedState s → HasTable (in_force s)
has_table s sorted = closed_have_tables (signature s) (assertions_in_force s) (problem_sorted s sorted).closed

both : (ps qs : List Problem) → AllHaveTables ps → AllHaveTables qs → AllHaveTables (ps ++ qs)
both [] qs h k = k
both (p ∷ ps) qs h k = (h.0, both ps qs h.1 k)

here : (checks : Bool) (s : Stack) → IsSortedState s → AllHaveTables (seen_where checks (in_force s))
here true s sorted = (has_table s sorted, tt)
here false s sorted = tt

behind : (ends : Bool) (ps : List Problem) → AllHaveTables ps → AllHaveTables (cond ends [] ps)
behind true ps h = tt
behind false ps h = h

by_step : (ends : Bool) (next : Result Stack Refusal) (rest : Stack → List Problem) → ((t : Stack) → next ≡ Ok t → AllHaveTables (rest t)) → AllHaveTables (going_on ends next rest)
by_step ends (Err r) rest h = tt
by_step ends (Ok t) rest h = behind ends (rest t) (h t refl)

by_read : (text : List ℕ) (s : Stack) (read : Result Shown Refusal) (rest : Stack → List Problem) → IsSortedState s → ((t : Stack) → IsSortedState t → AllHaveTables (rest t)) → AllHaveTables (seen_with in_force text s read rest)
by_read text s (Err r) rest sorted h = tt
by_read text s (Ok c) rest sorted h = both (seen_where (is_check c) (in_force s)) (going_on (is_exit c) (step_of text s c) rest) (here (is_check c) s sorted) (by_step (is_exit c) (step_of text s c) rest (λ t e. h t (steps_stay text s t c sorted e)))

tables_from : (text : List ℕ) (s : Stack) (items : List Sexp) → IsSortedState s → AllHaveTables (problems_from text s items)
tables_from text s [] sorted = tt
tables_from text s (x ∷ xs) sorted = by_read text s (command_of text x) (λ t. problems_from text t xs) sorted (λ t k. tables_from text t xs k)

holds_of : (ps : List Problem) (bs : List Block) → AllHold ps bs → HoldOf ps (claims_of bs)
holds_of ps [] h = tt
holds_of [] (b ∷ bs) h = absurd h
holds_of (p ∷ ps) (b ∷ bs) h = (h.0, holds_of ps bs h.1)

pub claims_hold : (text : List ℕ) (items : List Sexp) (cert : List ℕ) (blocks : List Block) (claims : List Claim) → IsGoodText (problems_of text items) cert blocks → claims ≡ claims_of blocks → HoldOf (problems_of text items) claims
claims_hold text items cert blocks claims good e =
    subst (λ (cs : List Claim). HoldOf (problems_of text items) cs) (sym e) (holds_of (problems_of text items) blocks (good_texts_hold (problems_of text items) cert blocks (tables_from text start items start_sorted) good))
