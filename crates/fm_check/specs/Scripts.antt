-- A script as the checker goes by it: what is in force at each `check-sat` before `exit`, and its first refusal.
use Rattle.std.specs.Prelude.{◌≡◌, ℕ, ◌⊎◌, List, Option, Some, None}
use Rattle.fm_base.specs.declared.refusal.Refusal.{Refusal}
use Rattle.fm_sexp.specs.Items.{IsRefused, ReadsAs}
use Rattle.fm_sexp.specs.declared.items.Sexp.{Sexp}
use Rattle.fm_cert.specs.Lines.{Problem}
use Rattle.fm_elab.specs.Checks.{refusal_in, seen_at_checks, seen_from}
use Rattle.fm_elab.specs.Stacks.{State as Stack, assertions_in_force, signature}
use Rattle.fm_problem.specs.Tabled.{tabled}

-- the declared sorts and functions, the assertions, and the clause table of these
abbrev pub in_force : Stack → Problem
in_force stack = tabled (signature stack) (assertions_in_force stack)

abbrev pub problems_from : List ℕ → Stack → List Sexp → List Problem
problems_from text stack items = seen_from in_force text stack items

abbrev pub problems_of : List ℕ → List Sexp → List Problem
problems_of text items = seen_at_checks in_force text items

-- the text reads as these items, and no command before `exit` is refused
pub record IsAccepted (script : List ℕ) (items : List Sexp) : Type 0 where
  pub reads : ReadsAs script items
  pub free : refusal_in script items ≡ None

-- the text is refused, or its first refused command is, by this
abbrev pub IsRefusal : List ℕ → Refusal → Type 0
IsRefusal script refusal = IsRefused script refusal ⊎ ((items : List Sexp) × ReadsAs script items × (refusal_in script items ≡ Some refusal))
