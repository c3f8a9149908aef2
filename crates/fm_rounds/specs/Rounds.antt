-- The candidate: the interpretation that a congruence gives on the terms that are reached, by rounds, from the ground terms
-- of the clauses.
use Rattle.std.specs.Prelude.{ℕ, zero, suc, ◌==◌, Bool, false, ◌&&◌, not, cond, List, [], ◌++◌, map, length, slice_get, Option, Some, None}
use Rattle.std.specs.List.{filter, find, flat_map, list_all, list_any, position_or_len, range_with_len}
use Rattle.std.specs.Str.{bytes_eq}
use Rattle.fm_base.specs.Interpretations.{Reading}
use Rattle.fm_base.specs.declared.signature.Sig.{Sig}
use Rattle.fm_base.specs.declared.signature.Ty.{Ty}
use Rattle.fm_base.specs.declared.interp.Interp.{Interp}
use Rattle.fm_bank.specs.Closure.{object, yes}
use Rattle.fm_bank.specs.Subterms.{is_found as has}
use Rattle.fm_bank.specs.Terms.{Term, is_type, type_of}
use Rattle.fm_bank.specs.declared.clause.Clause.{Clause}
use Rattle.fm_bank.specs.declared.clause.ClauseSet.{ClauseSet}
use Rattle.fm_bank.specs.declared.clause.Plit.{Plit}
use Rattle.fm_rounds.specs.InstanceTerms.{as_list, clause_terms, start_terms}
use Rattle.fm_rounds.specs.Tuples.{tabled}

-- what a candidate is made of: the terms by number, the test of a congruence on objects, the terms reached at the start, and
-- for each instance that was added its substitution and its terms
pub record Content : Type 0 where
  pub sig : Sig
  pub terms : List Term
  pub same : ℕ → ℕ → Bool
  pub start : List ℕ
  pub added : List (List ℕ × List ℕ)

abbrev pub literals_at : List Clause → ℕ → List Plit
literals_at clauses place = flat_map (λ (k : Clause). k.lits) (as_list (slice_get clauses place))

-- the instances are given by the place of their clause and their substitution
abbrev pub content_of : ClauseSet → List Term → (ℕ → ℕ → Bool) → List (ℕ × List ℕ) → Content
content_of set terms same added = record {
  sig = set.sig;
  terms = terms;
  same = same;
  start = start_terms set terms;
  added = map (λ (i : ℕ × List ℕ). (i.1, clause_terms terms i.1 (literals_at set.clauses i.0))) added;
}

-- a round: the terms that are reached, and the representatives in the order of rounds, then of age
pub record Round : Type 0 where
  pub terms : List ℕ
  pub reps : List ℕ

-- one of these is in the class of n
abbrev pub joins : Content → List ℕ → ℕ → Bool
joins c ns n = list_any (λ m. c.same (object m) (object n)) ns

-- the oldest term of a class that is reached now
abbrev pub is_new : Content → List ℕ → List ℕ → ℕ → Bool
is_new c reps reached n = has reached n && (not (joins c reps n) && not (joins c (filter (has reached) (range_with_len 0 n)) n))

abbrev pub grown : Content → List ℕ → List ℕ → Round
grown c reps reached = record { terms = reached; reps = reps ++ filter (is_new c reps reached) (range_with_len 0 (length c.terms)) }

-- the terms of an added instance, where its substitution has representatives alone
abbrev pub reached_by : List ℕ → (List ℕ × List ℕ) → List ℕ
reached_by reps i = cond (list_all (has reps) i.0) i.1 []

unfoldable pub round : Content → ℕ → Round
round c zero = grown c [] c.start
round c (suc i) = let r = round c i in grown c r.reps (r.terms ++ flat_map (reached_by r.reps) c.added)

-- each round but the last reaches the terms of one more instance
abbrev pub reached : Content → Round
reached c = round c (length c.added)

-- the elements of a sort are the places of its representatives
abbrev pub reps_of : Content → ℕ → List ℕ
reps_of c s = filter (λ n. is_type (type_of c.sig c.terms n) (Ty.Of (record { 0 = s }))) (reached c).reps

abbrev pub element_in : Content → Option Ty → ℕ → ℕ
element_in c None n = 0
element_in c (Some Ty.Bool) n = cond (c.same (object n) yes) 1 0
element_in c (Some (Ty.Of s)) n = position_or_len (λ r. c.same (object r) (object n)) (reps_of c s.0)

-- the element of a term's class; a predicate term has 1 where it is joined with yes
abbrev pub element_of : Content → ℕ → ℕ
element_of c n = element_in c (type_of c.sig c.terms n) n

abbrev pub is_application_at : Content → ℕ → List ℕ → Option Term → Bool
is_application_at c f xs None = false
is_application_at c f xs (Some t) = t.symbol == f && bytes_eq (map (element_of c) t.args) xs

abbrev pub element_of_first : Content → Option ℕ → ℕ
element_of_first c None = 0
element_of_first c (Some n) = element_of c n

-- the value of a reached term with these arguments, else 0
abbrev pub value_at : Content → ℕ → List ℕ → ℕ
value_at c f xs = element_of_first c (find (λ n. is_application_at c f xs (slice_get c.terms n)) (reached c).terms)

abbrev pub candidate_reading : Content → Reading
candidate_reading c = record { size = λ s. length (reps_of c s); at = value_at c }

abbrev pub candidate : Content → Interp
candidate c = tabled c.sig (candidate_reading c)

-- for each sort the representative of each element
abbrev pub representatives : Content → List (List ℕ)
representatives c = map (reps_of c) (range_with_len 0 c.sig.sorts)
