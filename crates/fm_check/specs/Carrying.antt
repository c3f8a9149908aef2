-- Commands that are carried out one after another, and the blocks that are checked on the way.
use Rattle.std.specs.Prelude.{◌≡◌, ℕ, Bool, true, false, List, [], ◌∷◌, ◌++◌, length, Option, Some, None, Result, Ok, Err}
use Rattle.fm_base.specs.declared.refusal.Fail.{Fail}
use Rattle.fm_base.specs.declared.refusal.Refusal.{Refusal}
use Rattle.fm_sexp.specs.declared.items.Sexp.{Sexp}
use Rattle.fm_script.specs.Commands.{command_of}
use Rattle.fm_script.specs.Shown.{Shown}
use Rattle.fm_cert.specs.Blockwise.{IsCertificate, Left}
use Rattle.fm_cert.specs.Lines.{Problem}
use Rattle.fm_cert.specs.declared.block.Block.{Block}
use Rattle.fm_cert.specs.declared.block.Claim.{Claim}
use Rattle.fm_elab.specs.Checks.{is_check, is_exit, refused_from}
use Rattle.fm_elab.specs.SortLaw.{IsSortedState}
use Rattle.fm_elab.specs.Stacks.{State as Stack}
use Rattle.fm_elab.specs.Steps.{step_of}
use Rattle.fm_blocks.specs.Faults.{IsFirstFault, IsGoodText}
use Rattle.fm_blocks.specs.Progress.{HasChecked}
use Rattle.fm_blocks.specs.declared.verdict.Fault.{Fault}
use Rattle.fm_check.specs.Verdicts.{claims_of}
use Rattle.fm_check.specs.Scripts.{problems_from}
use Rattle.fm_check.specs.declared.commands.Kind.{Kind}
use Rattle.fm_check.specs.declared.progress.Next.{Next}
use Rattle.fm_check.specs.declared.verdict.CheckFail.{CheckFail}

abbrev pub kind_checks : Kind → Bool
kind_checks Kind.Check = true
kind_checks Kind.Exit = false
kind_checks Kind.Other = false

abbrev pub kind_ends : Kind → Bool
kind_ends Kind.Check = false
kind_ends Kind.Exit = true
kind_ends Kind.Other = false

-- the item is a command of this kind, and is carried out
pub record IsCarried (text : List ℕ) (old : Stack) (item : Sexp) (kind : Kind) (new : Stack) : Type 0 where
  pub command : Shown
  pub reads : command_of text item ≡ Ok command
  pub checks : is_check command ≡ kind_checks kind
  pub ends : is_exit command ≡ kind_ends kind
  pub steps : step_of text old command ≡ Ok new

abbrev pub refused_step : Result Stack Refusal → Option Refusal
refused_step (Err refusal) = Some refusal
refused_step (Ok stack) = None

abbrev pub refused_shape : List ℕ → Stack → Result Shown Refusal → Option Refusal
refused_shape text old (Err refusal) = Some refusal
refused_shape text old (Ok command) = refused_step (step_of text old command)

-- the refusal of the item's shape, or of the assertion stack
abbrev pub refusal_at : List ℕ → Stack → Sexp → Option Refusal
refusal_at text old item = refused_shape text old (command_of text item)

-- what reading a command and carrying it out answers and leaves
abbrev pub Carries : List ℕ → Stack → Sexp → Result Kind Fail → Stack → Type 0
Carries text old item (Ok kind) new = IsCarried text old item kind new
Carries text old item (Err (Fail.Refused refusal)) new = refusal_at text old item ≡ Some refusal
Carries text old item (Err Fail.Memory) new = Unit {0}

-- how many `check-sat` commands stand before `exit`, or the first refusal
abbrev pub CountsFrom : List ℕ → Stack → List Sexp → Result ℕ Fail → Type 0
CountsFrom text stack items (Ok count) = (count ≡ length (problems_from text stack items)) × (refused_from text stack items ≡ None)
CountsFrom text stack items (Err (Fail.Refused refusal)) = refused_from text stack items ≡ Some refusal
CountsFrom text stack items (Err Fail.Memory) = Unit {0}

abbrev pub failed : Fail → CheckFail
failed (Fail.Refused refusal) = CheckFail.Script refusal
failed Fail.Memory = CheckFail.Memory

-- the blocks that were read of a text are good for these problems, and these are their claims
pub record HasClaimed (cert : List ℕ) (problems : List Problem) (claims : List Claim) (left : Left) : Type 0 where
  pub blocks : List Block
  pub checked : HasChecked cert problems blocks left
  pub claims_are : claims ≡ claims_of blocks

-- the reader stands behind blocks that are good for some problems
abbrev pub IsUnderWay : Left → List Claim → Type 0
IsUnderWay left claims = (cert : List ℕ) × (problems : List Problem) × HasClaimed cert problems claims left

-- the verdict so far: a fault, or all is good
abbrev pub IsFound : List Problem → List ℕ → Option Fault → List Claim → Type 0
IsFound problems cert None claims = (blocks : List Block) × IsGoodText problems cert blocks × (claims ≡ claims_of blocks)
IsFound problems cert (Some fault) claims = IsFirstFault problems cert fault

-- wherever a reader of a certificate stands behind blocks that are good for the problems so far, this is found for those and
-- the further ones
abbrev pub Finds : List Problem → Left → List Claim → Option Fault → List Claim → Type 0
Finds further left old found new =
    (cert : List ℕ) (problems : List Problem) → IsCertificate cert → HasClaimed cert problems old left
    → IsFound (problems ++ further) cert found new

-- what the next `check-sat` finds: its block is good, or the verdict stands, whatever `check-sat`s come behind it
abbrev pub FindsNext : Problem → Left → List Claim → Next → Left → List Claim → Type 0
FindsNext p left old Next.Good new claims = (cert : List ℕ) (problems : List Problem) → HasClaimed cert problems old left → HasClaimed cert (problems ++ p ∷ []) claims new
FindsNext p left old (Next.Found found) new claims = (more : List Problem) → Finds (p ∷ more) left old found claims

-- the next command was carried out, and its block is good if it has one: what is found from there on is found from here on
pub record GoesOn (text : List ℕ) (s : Stack) (x : Sexp) (old : Left) (claims : List Claim) (t : Stack) (new : Left) (after : List Claim) : Type 0 where
  pub finds : (xs : List Sexp) (found : Option Fault) (last : List Claim) → Finds (problems_from text t xs) new after found last → Finds (problems_from text s (x ∷ xs)) old claims found last
  pub free : (xs : List Sexp) → refused_from text s (x ∷ xs) ≡ refused_from text t xs
  pub sorted : IsSortedState t
  pub reading : IsUnderWay new after

-- what the next command comes to: it goes on, or this is found, whatever commands come behind it
abbrev pub Goes : List ℕ → Stack → Sexp → Left → List Claim → Next → Stack → Left → List Claim → Type 0
Goes text s x old claims Next.Good t new after = GoesOn text s x old claims t new after
Goes text s x old claims (Next.Found found) t new after = (xs : List Sexp) → Finds (problems_from text s (x ∷ xs)) old claims found after
