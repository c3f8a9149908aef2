-- The closed term of an item.
use Rattle.std.specs.Prelude.{ℕ, false, List, [], None, Result, Ok}
use Rattle.fm_base.specs.declared.refusal.Refusal.{Refusal}
use Rattle.fm_base.specs.declared.signature.Ty.{Ty}
use Rattle.fm_sexp.specs.declared.items.Sexp.{Sexp}
use Rattle.fm_script.specs.Commands.{place_of_item}
use Rattle.fm_arena.specs.Meanings.{Meaning, Term, no_names}
use Rattle.fm_arena.specs.Trees.{formula_in, thing_in}
use Rattle.fm_apply.specs.Applied.{and_then}
use Rattle.fm_terms.specs.Elaborate.{Read, elaborated}
use Rattle.fm_elab.specs.Stacks.{State}
use Rattle.fm_elab.specs.Steps.{context_at}
use Rattle.fm_elab.specs.declared.problem.Closed.{Closed}

-- a formula, or a term of a sort
abbrev pub closed_as : Ty → Meaning → Closed
closed_as Ty.Bool m = Closed.Truth (formula_in (m no_names 0))
closed_as (Ty.Of s) m = Closed.Thing (thing_in (m no_names 0)) s

abbrev pub closed_of : Term → Closed
closed_of t = closed_as t.ty t.meaning

abbrev pub closed_read : Read → Result Closed Refusal
closed_read r = Ok (closed_of r.term)

-- the term in the context of the stack, in which `:named` may give no name; it is its own command
abbrev pub closed_by : List ℕ → State → Sexp → Result Closed Refusal
closed_by text s x = and_then (elaborated (context_at text s (place_of_item x) None false [] []) x) closed_read
