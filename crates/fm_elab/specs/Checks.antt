-- What is seen at each `check-sat` of a text, and the refusal that ends it. Both are functions of the text, since no answer
-- changes the assertion stack.
use Rattle.std.specs.Prelude.{ℕ, Bool, true, false, cond, Result, Ok, Err, List, [], ◌∷◌, ◌++◌, Option, Some, None}
use Rattle.fm_base.specs.declared.refusal.Refusal.{Refusal}
use Rattle.fm_sexp.specs.declared.items.Sexp.{Sexp}
use Rattle.fm_script.specs.Commands.{command_of}
use Rattle.fm_script.specs.Shown.{Shown}
use Rattle.fm_elab.specs.Stacks.{State, start}
use Rattle.fm_elab.specs.Steps.{step_of}

abbrev pub is_check : Shown → Bool
is_check (Shown.CheckSat at) = true
is_check (Shown.SetLogic at name) = false
is_check (Shown.SetOption at keyword item) = false
is_check (Shown.SetInfo at keyword item) = false
is_check (Shown.GetInfo at keyword) = false
is_check (Shown.DeclareSort at name arity) = false
is_check (Shown.DefineSort at name params sort) = false
is_check (Shown.DeclareConst at name sort) = false
is_check (Shown.DeclareFun at name args sort) = false
is_check (Shown.DefineFun at name params sort body) = false
is_check (Shown.Assert at term) = false
is_check (Shown.Push at levels) = false
is_check (Shown.Pop at levels) = false
is_check (Shown.GetModel at) = false
is_check (Shown.Exit at) = false
is_check (Shown.GetValue at terms) = false
is_check (Shown.Echo at literal) = false

abbrev pub is_exit : Shown → Bool
is_exit (Shown.Exit at) = true
is_exit (Shown.CheckSat at) = false
is_exit (Shown.SetLogic at name) = false
is_exit (Shown.SetOption at keyword item) = false
is_exit (Shown.SetInfo at keyword item) = false
is_exit (Shown.GetInfo at keyword) = false
is_exit (Shown.DeclareSort at name arity) = false
is_exit (Shown.DefineSort at name params sort) = false
is_exit (Shown.DeclareConst at name sort) = false
is_exit (Shown.DeclareFun at name args sort) = false
is_exit (Shown.DefineFun at name params sort body) = false
is_exit (Shown.Assert at term) = false
is_exit (Shown.Push at levels) = false
is_exit (Shown.Pop at levels) = false
is_exit (Shown.GetModel at) = false
is_exit (Shown.GetValue at terms) = false
is_exit (Shown.Echo at literal) = false

-- What is seen of the stack at a `check-sat`, in order. Nothing follows `exit`, nor a command that is refused.
abbrev pub seen_where : {A : Type 0} → Bool → A → List A
seen_where checks seen = cond checks (seen ∷ []) []

abbrev pub going_on : {A : Type 0} → Bool → Result State Refusal → (State → List A) → List A
going_on ends (Err refusal) rest = []
going_on ends (Ok stack) rest = cond ends [] (rest stack)

abbrev pub seen_with : {A : Type 0} → (State → A) → List ℕ → State → Result Shown Refusal → (State → List A) → List A
seen_with see text stack (Err refusal) rest = []
seen_with see text stack (Ok c) rest = seen_where (is_check c) (see stack) ++ going_on (is_exit c) (step_of text stack c) rest

abbrev pub seen_from : {A : Type 0} → (State → A) → List ℕ → State → List Sexp → List A
seen_from see text stack [] = []
seen_from see text stack (x ∷ xs) = seen_with see text stack (command_of text x) (λ next. seen_from see text next xs)

abbrev pub seen_at_checks : {A : Type 0} → (State → A) → List ℕ → List Sexp → List A
seen_at_checks see text items = seen_from see text start items

-- The refusal of the first command that is refused, up to `exit`.
abbrev pub refused_on : Bool → Result State Refusal → (State → Option Refusal) → Option Refusal
refused_on ends (Err refusal) rest = Some refusal
refused_on ends (Ok stack) rest = cond ends None (rest stack)

abbrev pub refused_with : List ℕ → State → Result Shown Refusal → (State → Option Refusal) → Option Refusal
refused_with text stack (Err refusal) rest = Some refusal
refused_with text stack (Ok c) rest = refused_on (is_exit c) (step_of text stack c) rest

abbrev pub refused_from : List ℕ → State → List Sexp → Option Refusal
refused_from text stack [] = None
refused_from text stack (x ∷ xs) = refused_with text stack (command_of text x) (λ next. refused_from text next xs)

abbrev pub refusal_in : List ℕ → List Sexp → Option Refusal
refusal_in text items = refused_from text start items
