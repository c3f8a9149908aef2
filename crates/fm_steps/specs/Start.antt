-- The start: the ground terms of the clauses and the fresh constants are registered; the clauses without variables, the
-- lemmas that no sort is empty and the first sum lemma stand in order; and the first bound is known.
use Rattle.std.specs.Prelude.{ℕ, zero, suc, ◌==◌, true, false, if◌then◌else◌, List, [], ◌∷◌, ◌++◌, length, map}
use Rattle.std.specs.List.{range_with_len}
use Rattle.fm_bank.specs.declared.atom.Atom.{Atom}
use Rattle.fm_bank.specs.declared.clause.Clause.{Clause as FirstOrderClause}
use Rattle.fm_bank.specs.Interning.{nothing_over, with_term}
use Rattle.fm_bank.specs.Terms.{Term}
use Rattle.fm_rounds.specs.InstanceTerms.{clauses_ground_grown, fresh_symbols}
use Rattle.fm_trail.specs.Trail.{heads_at}
use Rattle.fm_steps.specs.Rows.{instance_literals}
use Rattle.fm_steps.specs.Sizes.{card, lit}
use Rattle.fm_steps.specs.State.{Problem, State, know, with_literals}

abbrev pub constants_grown : List ℕ → List Term → List Term
constants_grown [] terms = terms
constants_grown (f ∷ fs) terms = constants_grown fs (with_term terms (record { symbol = f; args = [] }))

-- the ground terms of the clauses, also of those with variables, and then the fresh constants
abbrev pub first_terms : Problem → List Term
first_terms p = constants_grown (fresh_symbols p) (clauses_ground_grown p.clauses [])

abbrev pub empty_state : Problem → State
empty_state p = record {
  bound = p.sig.sorts;
  free = false;
  held = record (nothing_over p.sig) { terms = first_terms p };
  clauses = [];
  trail = record { entries = []; heads = heads_at 0 };
  added = [];
  instances = 0;
  decisions = 0;
  picks = [];
}

-- the clauses without variables, each literal once
abbrev pub with_ground_clauses : List FirstOrderClause → State → State
with_ground_clauses [] s = s
with_ground_clauses (c ∷ cs) s = with_ground_clauses cs (if length c.vars == 0 then with_literals (instance_literals s.held c []) s else s)

-- no sort is empty
abbrev pub with_elements : List ℕ → State → State
with_elements [] s = s
with_elements (u ∷ us) s = with_elements us (with_literals (lit false (card u 0) ∷ []) s)

-- the sum of all sizes isn't below the number of sorts
abbrev pub with_first_sum : ℕ → State → State
with_first_sum zero s = s
with_first_sum (suc m) s = with_literals (map (λ u. lit true (card u 0)) (range_with_len 0 (suc m)) ++ lit false (Atom.Bound m) ∷ []) s

abbrev pub first_state : Problem → State
first_state p = know (Atom.Bound p.sig.sorts) (with_first_sum p.sig.sorts (with_elements (range_with_len 0 p.sig.sorts) (with_ground_clauses p.clauses (empty_state p))))
