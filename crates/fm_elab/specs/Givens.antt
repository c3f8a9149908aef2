-- Definitions that a command adds to the functions in force.
use Rattle.std.specs.Prelude.{◌≡◌, ℕ, Bool, true, false, not, cond, List, [], ◌∷◌, ◌++◌, map, Ok}
use Rattle.fm_base.specs.Truth.{is_bool}
use Rattle.fm_base.specs.declared.formula.Formula.{Formula}
use Rattle.fm_base.specs.declared.refusal.Place.{Place}
use Rattle.fm_base.specs.declared.refusal.Reason.{Reason}
use Rattle.fm_base.specs.declared.signature.Ty.{Ty}
use Rattle.fm_sexp.specs.declared.items.Sexp.{Sexp}
use Rattle.fm_script.specs.Commands.{place_of_item}
use Rattle.fm_script.specs.Shown.{Name}
use Rattle.fm_arena.specs.Meanings.{terms_of}
use Rattle.fm_arena.specs.declared.node.Entry.{Entry}
use Rattle.fm_levels.specs.Levels.{in_newest, joined, put}
use Rattle.fm_apply.specs.Applied.{Function as TheFunction, function_by, same_type}
use Rattle.fm_apply.specs.Scoped.{Numbered, named_in, number_term}
use Rattle.fm_apply.specs.declared.entry.Function.{Function}
use Rattle.fm_terms.specs.Elaborate.{Read, read_of}
use Rattle.fm_terms.specs.declared.elaboration.Elaborated.{Elaborated}
use Rattle.fm_elab.specs.Held.{functions_at}
use Rattle.fm_elab.specs.Sizes.{is_large}
use Rattle.fm_elab.specs.Stacks.{State, is_named, put_all, signature}
use Rattle.fm_elab.specs.Steps.{Next, definition, formula_of, given_in, refused_where}

-- one more function, unless its name is there
abbrev pub put_function : Bool → List (List TheFunction) → TheFunction → List (List TheFunction)
put_function first ls f = cond (is_named f.name (joined ls)) ls (put first ls f)

abbrev pub put_functions : Bool → List (List TheFunction) → List TheFunction → List (List TheFunction)
put_functions first ls [] = ls
put_functions first ls (f ∷ fs) = put_functions first (put_function first ls f) fs

abbrev pub Extends : {A : Type 0} → Bool → List (List A) → List (List A) → Type 0
Extends {A} first old new = (xs : List A) × (new ≡ put_all first old xs)

abbrev pub Levels : Type 0
Levels = List (List (List ℕ × Function))

-- one definition more
abbrev pub Defines : Bool → List Entry → Levels → List Entry → Levels → TheFunction → Type 0
Defines first old was new now f = functions_at new now ≡ put_function first (functions_at old was) f

-- definitions one after the other
abbrev pub DefinesAll : Bool → List Entry → Levels → List Entry → Levels → List TheFunction → Type 0
DefinesAll first old was new now fs = functions_at new now ≡ put_functions first (functions_at old was) fs

-- the names that were given, as definitions
abbrev pub given_at : List Entry → Numbered → List TheFunction
given_at es given = map function_by (named_in (terms_of es) given)

-- a definition by the number of its body
abbrev pub definition_at : List Entry → List ℕ → List Ty → ℕ → TheFunction
definition_at es name args body = definition name args (number_term es body)

-- a definition and the names that were given in it
abbrev pub definitions_at : List Entry → Numbered → List ℕ → List Ty → ℕ → List TheFunction
definitions_at es given name args body = given_at es given ++ definition_at es name args body ∷ []

-- an elaborated term, with the least place of a bound name in it
abbrev pub read_in : List Entry → ℕ → Elaborated → Read
read_in es low e = read_of (named_in (terms_of es) e.given) low (number_term es e.number)

-- What commands do where functions whose names are there are left out. The names that a command gives are new, so it is
-- what the definition says.

abbrev pub with_new_definitions : State → List TheFunction → State
with_new_definitions s fs = record s { functions = put_functions s.global s.functions fs; begun = true }

abbrev pub with_new_assertion : State → List TheFunction → Formula → State
with_new_assertion s fs f =
    record s {
      functions = put_functions false s.functions fs;
      assertions = in_newest s.assertions f;
      begun = true;
    }

abbrev pub new_defined : State → Name → List Ty → Ty → Sexp → Read → Next
new_defined s n args ty body r =
    refused_where (not (same_type r.term.ty ty)) Reason.SortMismatch (place_of_item body)
    (Ok (with_new_definitions s (given_in r ++ definition n.bytes args r.term ∷ [])))

abbrev pub new_asserted : State → Place → Sexp → Read → Next
new_asserted s at x r =
    refused_where (not (is_bool r.term.ty)) Reason.SortMismatch (place_of_item x)
    (refused_where (is_large (signature s) (formula_of r.term)) Reason.TooLarge at
    (Ok (with_new_assertion s (given_in r) (formula_of r.term))))
