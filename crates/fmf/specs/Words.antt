-- The words of the command line, without the program's name.
use Rattle.std.specs.Prelude.{◌≡◌, ℕ, ◌==◌, Bool, false, ◌&&◌, ◌||◌, not, cond, List, [], ◌∷◌, Option, Some, None, codes, map, String, string_bytes}
use Rattle.std.specs.Str.{bytes_eq}
use Rattle.std.specs.declared.alloc.Global.{Global}
use Rattle.fm_base.specs.Interpretations.{is_nil}
use Rattle.fm_session.specs.declared.budget.Budget.{Budget}

-- standard input or output
abbrev pub dash : List ℕ
dash = codes "-"

-- the certificate's file
abbrev pub cert : List ℕ
cert = codes "fmf.cert"

-- how much each `check-sat` may take
abbrev pub budget : Budget
budget = record { instances = 100000; decisions = 1000000 }

-- a name of a file to read: not empty, and beginning with `-` only as `-` alone
abbrev pub is_name : List ℕ → Bool
is_name [] = false
is_name (b ∷ bs) = not (b == 45) || is_nil bs

-- a name of a script to solve, which isn't the certificate's
abbrev pub is_script_name : List ℕ → Bool
is_script_name name = is_name name && not (bytes_eq name cert)

-- what is asked for: a script to solve, where its certificate goes, and the budget
pub record Request : Type 0 where
  pub script : List ℕ
  pub cert : List ℕ
  pub budget : Budget

abbrev pub request : List ℕ → Request
request script = record { script = script; cert = cert; budget = budget }

-- what is asked for: a certificate to check for a script
pub record Inquiry : Type 0 where
  pub script : List ℕ
  pub cert : List ℕ

pub data Command : Type 0 where
  Solve : Request → Command
  Check : Inquiry → Command

-- the names of two files, of which only one is standard input
abbrev pub are_two : List ℕ → List ℕ → Bool
are_two script cert = is_name script && (is_name cert && not (bytes_eq script cert))

abbrev pub solve_of : List ℕ → List ℕ → Option Command
solve_of first second = cond (bytes_eq first (codes "solve") && is_script_name second) (Some (Command.Solve (request second))) None

abbrev pub check_of : List ℕ → List ℕ → List ℕ → Option Command
check_of first second third = cond (bytes_eq first (codes "check") && are_two second third) (Some (Command.Check (record { script = second; cert = third }))) None

-- the words `solve SCRIPT` and `check SCRIPT CERT`; other words ask for nothing
abbrev pub command_of : List (List ℕ) → Option Command
command_of [] = None
command_of (first ∷ []) = None
command_of (first ∷ second ∷ []) = solve_of first second
command_of (first ∷ second ∷ third ∷ []) = check_of first second third
command_of (first ∷ second ∷ third ∷ fourth ∷ rest) = None

-- where the words ask for this, it holds
abbrev pub IfAsked : List (String Global) → (Request → Type 0) → Type 0
IfAsked words Holds = (r : Request) → command_of (map (λ w. string_bytes w) words) ≡ Some (Command.Solve r) → Holds r

abbrev pub IfInquired : List (String Global) → (Inquiry → Type 0) → Type 0
IfInquired words Holds = (q : Inquiry) → command_of (map (λ w. string_bytes w) words) ≡ Some (Command.Check q) → Holds q
