-- What a command does to the assertion stack (SMT-LIB 2.6, scripts): the next state, or the one refusal, the first that is
-- met. A command that is refused changes nothing.
use Rattle.std.specs.Prelude.{◌≡◌, ℕ, ◌+◌, ◌==◌, Bool, true, false, not, ◌||◌, ◌&&◌, cond, nat_le, nat_lt, List, [], ◌∷◌, ◌++◌, length, map, Option, Some, None, Result, Ok, Err, codes}
use Rattle.std.specs.Str.{bytes_eq}
use Rattle.fm_base.specs.Truth.{is_bool}
use Rattle.fm_base.specs.declared.formula.Formula.{Formula}
use Rattle.fm_base.specs.declared.refusal.Fail.{Fail}
use Rattle.fm_base.specs.declared.refusal.Place.{Place}
use Rattle.fm_base.specs.declared.refusal.Reason.{Reason}
use Rattle.fm_base.specs.declared.refusal.Refusal.{Refusal}
use Rattle.fm_base.specs.declared.signature.Ty.{Ty}
use Rattle.fm_sexp.specs.declared.items.Sexp.{Sexp}
use Rattle.fm_script.specs.Commands.{members_of, name_of, place_of_item}
use Rattle.fm_script.specs.Shown.{Name, Numeral, Shown}
use Rattle.fm_arena.specs.Meanings.{Term, no_names}
use Rattle.fm_arena.specs.Trees.{formula_in}
use Rattle.fm_levels.specs.Levels.{joined}
use Rattle.fm_levels.specs.Tables.{looked_up}
use Rattle.fm_apply.specs.Applied.{Context, Function, Sort, Stands, and_then, function_by, refused, same_type}
use Rattle.fm_terms.specs.Elaborate.{Read, elaborated, items_in, repeated, unless_repeated}
use Rattle.fm_terms.specs.Scoped.{bound_to_terms, names_of, parameters_from}
use Rattle.fm_elab.specs.Sizes.{is_large}
use Rattle.fm_elab.specs.Stacks.{State, closed, is_function_taken, is_sort_taken, level_count, opened, signature, with_assertion, with_declared_sort, with_definitions, with_sort, with_symbol}

abbrev pub Next : Type 0
Next = Result State Refusal

abbrev pub refused_where : {A : Type 0} → Bool → Reason → Place → Result A Refusal → Result A Refusal
refused_where wrong reason at next = cond wrong (Err (refused reason at)) next

-- Sorts that a command names.

abbrev pub found_sort : Place → Option Ty → Result Ty Refusal
found_sort at None = Err (refused Reason.UnknownSort at)
found_sort at (Some ty) = Ok ty

-- Bool, or a sort in force; a list is no sort
abbrev pub sort_by_name : State → Place → Option Name → Result Ty Refusal
sort_by_name s at None = Err (refused Reason.SortArity at)
sort_by_name s at (Some n) = cond (bytes_eq n.bytes (codes "Bool")) (Ok Ty.Bool) (found_sort n.at (looked_up n.bytes (joined s.sorts)))

abbrev pub sort_at : List ℕ → State → Sexp → Result Ty Refusal
sort_at text s x = sort_by_name s (place_of_item x) (name_of text x)

-- of an argument of a declared function: no Bool
abbrev pub argument_sort : List ℕ → State → Sexp → Result Ty Refusal
argument_sort text s x = and_then (sort_at text s x) (λ ty. refused_where (is_bool ty) Reason.BoolArgument (place_of_item x) (Ok ty))

-- one after the other
abbrev pub each_sort : (Sexp → Result Ty Refusal) → List Sexp → Result (List Ty) Refusal
each_sort one [] = Ok []
each_sort one (x ∷ xs) = and_then (one x) (λ ty. and_then (each_sort one xs) (λ tys. Ok (ty ∷ tys)))

-- Declarations and definitions of sorts.

abbrev pub declare_sort : State → Name → Numeral → Next
declare_sort s n arity =
    refused_where (not (arity.value == 0)) Reason.SortArity arity.at
    (refused_where (is_sort_taken s n.bytes) Reason.Redeclared n.at (Ok (with_declared_sort s n.bytes)))

abbrev pub has_members : Option (List Sexp) → Bool
has_members None = false
has_members (Some []) = false
has_members (Some (x ∷ xs)) = true

abbrev pub define_sort : List ℕ → State → Name → Sexp → Sexp → Next
define_sort text s n params x =
    refused_where (has_members (members_of params)) Reason.SortArity (place_of_item params)
    (refused_where (is_sort_taken s n.bytes) Reason.Redeclared n.at
    (and_then (sort_at text s x) (λ ty. Ok (with_sort s n.bytes ty))))

-- Declarations of functions; a constant is a function without arguments.

abbrev pub declare_function : List ℕ → State → Name → List Sexp → Sexp → Next
declare_function text s n args x =
    refused_where (is_function_taken s n.bytes) Reason.Redeclared n.at
    (and_then (each_sort (argument_sort text s) args) (λ tys.
    and_then (sort_at text s x) (λ ty. Ok (with_symbol s n.bytes tys ty))))

-- Terms.

abbrev pub sort_entry : List ℕ × Ty → Sort
sort_entry e = record { name = e.0; ty = e.1 }

-- where a term of a command stands, under parameters: the command may define a name, and `:named` may give names or not
abbrev pub context_at : List ℕ → State → Place → Option (List ℕ) → Bool → List (List ℕ) → List Ty → Context
context_at text s at own naming names types =
    record {
      text = text;
      sorts = map sort_entry (joined s.sorts);
      functions = joined s.functions;
      command = at;
      own = own;
      naming = naming;
      bound = bound_to_terms names (parameters_from 0 types);
      places = length types;
    }

-- the names that were given in a term, as definitions without arguments
abbrev pub given_in : Read → List Function
given_in r = map function_by r.named

abbrev pub definition : List ℕ → List Ty → Term → Function
definition name args t = record { name = name; args = args; result = t.ty; stands = Stands.Defined t.meaning }

abbrev pub defined : State → Name → List Ty → Ty → Sexp → Read → Next
defined s n args ty body r =
    refused_where (not (same_type r.term.ty ty)) Reason.SortMismatch (place_of_item body)
    (Ok (with_definitions s (given_in r ++ definition n.bytes args r.term ∷ [])))

abbrev pub define_function : List ℕ → State → Place → Name → List (Name × Sexp) → Sexp → Sexp → Next
define_function text s at n params x body =
    refused_where (is_function_taken s n.bytes) Reason.Redeclared n.at
    (and_then (each_sort (sort_at text s) (items_in params)) (λ tys.
    unless_repeated (repeated [] params)
    (and_then (sort_at text s x) (λ ty.
    and_then (elaborated (context_at text s at (Some n.bytes) true (names_of params) tys) body) (defined s n tys ty body)))))

-- the formula that a term means, where nothing is bound around it
abbrev pub formula_of : Term → Formula
formula_of t = formula_in (t.meaning no_names 0)

-- of a Bool, and not too large
abbrev pub asserted : State → Place → Sexp → Read → Next
asserted s at x r =
    refused_where (not (is_bool r.term.ty)) Reason.SortMismatch (place_of_item x)
    (refused_where (is_large (signature s) (formula_of r.term)) Reason.TooLarge at
    (Ok (with_assertion s (given_in r) (formula_of r.term))))

abbrev pub assert_term : List ℕ → State → Place → Sexp → Next
assert_term text s at x = and_then (elaborated (context_at text s at None true [] []) x) (asserted s at x)

-- Levels: at most 65,536 above the first, which is never closed.

abbrev pub count_of : Option Numeral → ℕ
count_of None = 1
count_of (Some n) = n.value

abbrev pub push : State → Place → ℕ → Next
push s at count = refused_where (nat_lt 65537 (level_count s + count)) Reason.TooLarge at (Ok (opened s count))

abbrev pub pop : State → Place → ℕ → Next
pop s at count = refused_where (nat_le (level_count s) count) Reason.PopTooMany at (Ok (closed s count))

-- Logics and options.

abbrev pub is_logic : List ℕ → Bool
is_logic name = bytes_eq name (codes "UF") || (bytes_eq name (codes "QF_UF") || bytes_eq name (codes "ALL"))

abbrev pub set_logic : State → Name → Next
set_logic s n = refused_where (not (is_logic n.bytes)) Reason.LogicRefused n.at (Ok s)

abbrev pub is_true_name : Option Name → Bool
is_true_name None = false
is_true_name (Some n) = bytes_eq n.bytes (codes "true")

-- where declarations stand can be set only at the start
abbrev pub set_option : List ℕ → State → Name → Sexp → State
set_option text s keyword item =
    cond (bytes_eq keyword.bytes (codes ":global-declarations") && not s.begun) (record s { global = is_true_name (name_of text item) }) s

abbrev pub step_of : List ℕ → State → Shown → Next
step_of text s (Shown.SetLogic at name) = set_logic s name
step_of text s (Shown.SetOption at keyword item) = Ok (set_option text s keyword item)
step_of text s (Shown.SetInfo at keyword item) = Ok s
step_of text s (Shown.GetInfo at keyword) = Ok s
step_of text s (Shown.DeclareSort at name arity) = declare_sort s name arity
step_of text s (Shown.DefineSort at name params sort) = define_sort text s name params sort
step_of text s (Shown.DeclareConst at name sort) = declare_function text s name [] sort
step_of text s (Shown.DeclareFun at name args sort) = declare_function text s name args sort
step_of text s (Shown.DefineFun at name params sort body) = define_function text s at name params sort body
step_of text s (Shown.Assert at term) = assert_term text s at term
step_of text s (Shown.Push at levels) = push s at (count_of levels)
step_of text s (Shown.Pop at levels) = pop s at (count_of levels)
step_of text s (Shown.CheckSat at) = Ok s
step_of text s (Shown.GetModel at) = Ok s
step_of text s (Shown.Exit at) = Ok s
step_of text s (Shown.GetValue at terms) = Ok s
step_of text s (Shown.Echo at literal) = Ok s

-- what a call that carries out a command answers and leaves; a refusal and want of memory leave all as it was
abbrev pub Applies : Result Unit Fail → State → Next → State → Type 0
Applies (Ok done) old next new = next ≡ Ok new
Applies (Err (Fail.Refused refusal)) old next new = (next ≡ Err refusal) × (new ≡ old)
Applies (Err Fail.Memory) old next new = new ≡ old

-- a logic is taken, or refused
abbrev pub IsLogic : Name → Result Unit Fail → Type 0
IsLogic n (Ok done) = is_logic n.bytes ≡ true
IsLogic n (Err fail) = (is_logic n.bytes ≡ false) × (fail ≡ Fail.Refused (refused Reason.LogicRefused n.at))
