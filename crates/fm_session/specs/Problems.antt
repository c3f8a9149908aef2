-- What is in force at each `check-sat` of a text. It is a function of the text, since no answer changes the assertion stack.
use Rattle.std.specs.Prelude.{ℕ, List}
use Rattle.fm_sexp.specs.declared.items.Sexp.{Sexp}
use Rattle.fm_cert.specs.Lines.{Problem}
use Rattle.fm_elab.specs.Checks.{seen_at_checks, seen_from}
use Rattle.fm_elab.specs.Stacks.{State as Stack, assertions_in_force, signature}
use Rattle.fm_problem.specs.Tabled.{tabled}

-- the declared sorts and functions, the assertions, and the clause table of these
abbrev pub in_force : Stack → Problem
in_force stack = tabled (signature stack) (assertions_in_force stack)

abbrev pub problems_from : List ℕ → Stack → List Sexp → List Problem
problems_from text stack items = seen_from in_force text stack items

abbrev pub problems_of : List ℕ → List Sexp → List Problem
problems_of text items = seen_at_checks in_force text items
