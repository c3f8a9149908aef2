-- What the fields of a state say of the search machine's state.
use Rattle.std.specs.Prelude.{ℕ, Bool, List, [], ◌∷◌, ◌++◌, map, Option, Some, None}
use Rattle.fm_base.specs.declared.ids.TermId.{TermId}
use Rattle.fm_bank.specs.Interning.{Held, after_instance, lit_in, with_atoms}
use Rattle.fm_bank.specs.Terms.{numbers}
use Rattle.fm_bank.specs.declared.clause.Clause.{Clause as FirstOrderClause}
use Rattle.fm_bank.specs.declared.literal.Literal.{Literal}
use Rattle.fm_region.specs.declared.picking.Pick.{Pick as SortPick}
use Rattle.fm_rounds.specs.Failing.{numbered}
use Rattle.fm_steps.specs.Rows.{instance_literals}
use Rattle.fm_steps.specs.State.{Clause, Pick, State, Trail}

abbrev pub pair_in : Option (TermId × TermId) → Option (ℕ × ℕ)
pair_in None = None
pair_in (Some p) = Some (p.0.0, p.1.0)

-- the test of a sort, by the numbers of its terms
abbrev pub pick_in : Option SortPick → Option Pick
pick_in None = None
pick_in (Some p) = Some (record { terms = numbers p.terms.items; pair = pair_in p.pair })

abbrev pub state_of : ℕ → Bool → Held → List Clause → Trail → List (ℕ × List TermId) → ℕ → ℕ → List (Option SortPick) → State
state_of bound free held clauses trail added instances decisions picks = record {
  bound = bound;
  free = free;
  held = held;
  clauses = clauses;
  trail = trail;
  added = numbered added;
  instances = instances;
  decisions = decisions;
  picks = map pick_in picks;
}

-- the atoms of some literals are known
abbrev pub with_known : Held → List Literal → Held
with_known held ls = record held { atoms = with_atoms held.atoms ls }

-- the clause of an instance is added, with its terms and atoms
abbrev pub with_instance_clause : FirstOrderClause → List ℕ → State → State
with_instance_clause c subst s = record s {
  held = after_instance s.held c.lits subst;
  clauses = s.clauses ++ map (lit_in (after_instance s.held c.lits subst).atoms) (instance_literals s.held c subst) ∷ [];
}
