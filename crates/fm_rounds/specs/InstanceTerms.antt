-- The terms of an instance of a clause, by their numbers in a list of terms that has them; and the terms with which a search
-- for a model of clauses begins.
use Rattle.std.specs.Prelude.{ℕ, ◌-◌, Bool, not, List, [], ◌∷◌, ◌++◌, drop, length, map, slice_get, Option, Some, None}
use Rattle.std.specs.List.{filter, flat_map, list_any, range_with_len}
use Rattle.fm_base.specs.declared.signature.Sig.{Sig}
use Rattle.fm_base.specs.declared.signature.Ty.{Ty}
use Rattle.fm_base.specs.declared.formula.Patom.{Patom}
use Rattle.fm_base.specs.declared.formula.Pterm.{Pterm}
use Rattle.fm_base.specs.declared.formula.Pterm.TheOpen.{Pterm-F}
use Rattle.fm_base.specs.declared.formula.Pterm.TheFolds.{fold-Pterm}
use Rattle.fm_bank.specs.GroundTerms.{ground_literals_grown}
use Rattle.fm_bank.specs.Instances.{all_there, find_applied}
use Rattle.fm_bank.specs.Terms.{Term, find, is_type, type_in}
use Rattle.fm_bank.specs.declared.clause.Clause.{Clause}
use Rattle.fm_bank.specs.declared.clause.ClauseSet.{ClauseSet}
use Rattle.fm_bank.specs.declared.clause.Plit.{Plit}

abbrev pub as_list : {X : Type 0} → Option X → List X
as_list None = []
as_list (Some x) = x ∷ []

-- the number of a term whose variables are replaced, where it is there, and behind those of its subterms its own
abbrev pub Subterms : Type 0
Subterms = List Term → List ℕ → Option ℕ × List ℕ

abbrev pub with_itself : List ℕ → Option ℕ → Option ℕ × List ℕ
with_itself below n = (n, below ++ as_list n)

abbrev pub numbers_in : List Subterms → List Term → List ℕ → Option (List ℕ)
numbers_in ts terms subst = all_there (map (λ (t : Subterms). (t terms subst).0) ts)

abbrev pub subterms_step : Pterm-F Subterms → Subterms
subterms_step (Pterm-F.Var v) terms subst = with_itself [] (slice_get subst v)
subterms_step (Pterm-F.App f ts) terms subst = with_itself (flat_map (λ (t : Subterms). (t terms subst).1) ts) (find_applied terms f.0 (numbers_in ts terms subst))

abbrev pub subterms : Pterm → Subterms
subterms = fold-Pterm Subterms subterms_step

abbrev pub atom_terms : List Term → List ℕ → Patom → List ℕ
atom_terms terms subst (Patom.Pred p ts) = (subterms_step (Pterm-F.App p (map subterms ts)) terms subst).1
atom_terms terms subst (Patom.Equal a b) = (subterms a terms subst).1 ++ (subterms b terms subst).1

-- the subterms and the predicate terms of an instance. Where nothing stands for a variable they are the ground terms of the
-- clause.
abbrev pub clause_terms : List Term → List ℕ → List Plit → List ℕ
clause_terms terms subst lits = flat_map (λ (l : Plit). atom_terms terms subst l.atom) lits

abbrev pub ground_terms : List Clause → List Term → List ℕ
ground_terms clauses terms = flat_map (λ (k : Clause). clause_terms terms [] k.lits) clauses

-- the ground terms of clauses, in the order in which a bank gets them
abbrev pub clauses_ground_grown : List Clause → List Term → List Term
clauses_ground_grown [] terms = terms
clauses_ground_grown (c ∷ cs) terms = clauses_ground_grown cs (ground_literals_grown c.lits terms)

abbrev pub is_term_of : Sig → ℕ → Term → Bool
is_term_of sig s t = is_type (type_in sig (Some t)) (Ty.Of (record { 0 = s }))

-- the clauses have no ground term of the sort
abbrev pub is_bare : ClauseSet → ℕ → Bool
is_bare set s = not (list_any (is_term_of set.sig s) (clauses_ground_grown set.clauses []))

-- the last symbols are constants, one for each such sort
abbrev pub fresh_symbols : ClauseSet → List ℕ
fresh_symbols set =
    let all = length set.sig.ranks in
    drop (all - length (filter (is_bare set) (range_with_len 0 set.sig.sorts))) (range_with_len 0 all)

abbrev pub fresh_terms : ClauseSet → List Term → List ℕ
fresh_terms set terms = flat_map (λ f. as_list (find terms (record { symbol = f; args = [] }))) (fresh_symbols set)

-- the ground terms of the clauses and the fresh constants
abbrev pub start_terms : ClauseSet → List Term → List ℕ
start_terms set terms = ground_terms set.clauses terms ++ fresh_terms set terms
