-- What tables, the candidate and the first failing instance are good for, as laws.
use Rattle.std.specs.Prelude.{◌≡◌, ℕ, ◌<◌, Bool, true, List, [], ◌∷◌, get_or, length, map, slice_get, Some}
use Rattle.std.specs.List.{list_all, list_any}
use Rattle.fm_base.specs.Interpretations.{IsInterpretation, Reading, ascends, entry_in, is_fit, is_tuple, names_its_sorts, reading_of}
use Rattle.fm_base.specs.Models.{IsElements, sum_of_sizes}
use Rattle.fm_base.specs.Resolution.{Has}
use Rattle.fm_base.specs.declared.ids.SortId.{SortId}
use Rattle.fm_base.specs.declared.signature.Rank.{Rank}
use Rattle.fm_base.specs.declared.signature.Sig.{Sig}
use Rattle.fm_base.specs.declared.signature.Ty.{Ty}
use Rattle.fm_bank.specs.Clauses.{lits_true}
use Rattle.fm_bank.specs.Instances.{ground_literals, is_substitution}
use Rattle.fm_bank.specs.Interning.{is_atom}
use Rattle.fm_bank.specs.Sorted.{are_sorted_literals, is_sorted_clause}
use Rattle.fm_bank.specs.Terms.{Term, is_type, type_of, value_of}
use Rattle.fm_bank.specs.declared.atom.Atom.{Atom}
use Rattle.fm_bank.specs.declared.clause.Clause.{Clause}
use Rattle.fm_bank.specs.declared.clause.ClauseSet.{ClauseSet}
use Rattle.fm_bank.specs.declared.clause.Plit.{Plit}
use Rattle.fm_bank.specs.declared.literal.Literal.{Literal}
use Rattle.fm_rounds.specs.Failing.{AreTrueThere, FailsFirst, failing_instance, first_failing}
use Rattle.fm_rounds.specs.Fresh.{HasFreshConstants, HasStartTerms}
use Rattle.fm_rounds.specs.Grounds.{AreReached, AreTermsOf, ArgumentsIn, IsGrounded, IsReachedTerm, literal_by}
use Rattle.fm_rounds.specs.InstanceTerms.{clause_terms, start_terms}
use Rattle.fm_rounds.specs.Rounds.{Content, candidate, candidate_reading, content_of, element_of, reached, representatives, reps_of}
use Rattle.fm_rounds.specs.Tuples.{tabled}

-- the first failing clause and its tuple are what the textbook says of them
abbrev pub FirstFailingIsLeast : Type 0
FirstFailingIsLeast = (m : Reading) (clauses : List Clause) → FailsFirst m clauses (first_failing m clauses)

-- where the added instances are true, the first failing one is none of them
abbrev pub FailingIsNew : Type 0
FailingIsNew =
    (m : Reading) (reps : List (List ℕ)) (clauses : List Clause) (added : List (ℕ × List ℕ)) (f : ℕ × List ℕ) → AreTrueThere m reps clauses added
    → failing_instance m reps clauses ≡ Some f → Has added f → ⊥

-- one symbol gives the same in two readings, at each tuple of its arguments' values
abbrev pub AgreeAt : Reading → Reading → ℕ → Rank → Type 0
AgreeAt m w f rank = (xs : List ℕ) → is_tuple m rank.args xs ≡ true → w.at f xs ≡ m.at f xs

abbrev pub Agree : Sig → Reading → Reading → Type 0
Agree sig m w = (f : ℕ) (rank : Rank) → slice_get sig.ranks f ≡ Some rank → AgreeAt m w f rank

-- an interpretation written as tables fits the signature, and reads as itself
pub record IsWritten (sig : Sig) (m : Reading) : Type 0 where
  pub fits : is_fit sig (tabled sig m) ≡ true
  pub sizes : (s : ℕ) → s < sig.sorts → (reading_of (tabled sig m)).size s ≡ m.size s
  pub agrees : Agree sig m (reading_of (tabled sig m))

abbrev pub TablesAreWritten : Type 0
TablesAreWritten = (sig : Sig) (m : Reading) → IsInterpretation sig m → names_its_sorts sig ≡ true → IsWritten sig m

-- no exception has the default
abbrev pub NoneIs : ℕ → List (List ℕ × ℕ) → Type 0
NoneIs d es = (e : List ℕ × ℕ) → Has es e → e.1 ≡ d → ⊥

-- a list of exceptions in its one form
pub record IsProper (d : ℕ) (es : List (List ℕ × ℕ)) : Type 0 where
  pub order : ascends es ≡ true
  pub others : NoneIs d es

-- lists of exceptions in this form that give the same are the same
abbrev pub TablesHaveOneForm : Type 0
TablesHaveOneForm =
    (d : ℕ) (es fs : List (List ℕ × ℕ)) → IsProper d es → IsProper d fs → ((xs : List ℕ) → entry_in d es xs ≡ entry_in d fs xs) → es ≡ fs

-- readings that agree at tuples of elements agree on well sorted clauses
abbrev pub ClausesAgree : Type 0
ClausesAgree =
    (sig : Sig) (m w : Reading) (vars : List SortId) (xs : List ℕ) (lits : List Plit) → IsInterpretation sig m → Agree sig m w
    → IsElements m vars xs → are_sorted_literals sig vars lits ≡ true → lits_true w xs lits ≡ lits_true m xs lits

-- an instance over reached terms, and its literals
pub record IsReachedInstance (c : Content) (vars : List SortId) (lits : List Plit) (subst : List ℕ) (ls : List Literal) : Type 0 where
  pub sorted : are_sorted_literals c.sig vars lits ≡ true
  pub typed : is_substitution c.sig c.terms vars subst ≡ true
  pub reached : (n : ℕ) → Has subst n → IsReachedTerm c n
  pub grounded : ground_literals c.terms subst lits ≡ Some ls
  pub atoms : AreReached c ls

-- The tables fit the signature, and there are as many elements as representatives; the element of a representative is its
-- place, and each reached term has its class's element as value. The tuple of an instance over reached terms is one of
-- elements, at which the clause is true exactly where the test makes a literal of the instance true.
pub record CandidateHolds (c : Content) : Type 0 where
  pub fits : is_fit c.sig (candidate c) ≡ true
  pub sizes : (s : ℕ) → s < c.sig.sorts → (reading_of (candidate c)).size s ≡ length (reps_of c s)
  pub places : (s x : ℕ) → x < length (reps_of c s) → element_of c (get_or (reps_of c s) x 0) ≡ x
  pub values : (n : ℕ) → IsReachedTerm c n → value_of (reading_of (candidate c)) c.terms n ≡ element_of c n
  pub elements : (vars : List SortId) (lits : List Plit) (subst : List ℕ) (ls : List Literal) → IsReachedInstance c vars lits subst ls
      → IsElements (reading_of (candidate c)) vars (map (element_of c) subst)
  pub instances : (vars : List SortId) (lits : List Plit) (subst : List ℕ) (ls : List Literal) → IsReachedInstance c vars lits subst ls
      → lits_true (reading_of (candidate c)) (map (element_of c) subst) lits ≡ list_any (literal_by c) ls

abbrev pub CandidatesHold : Type 0
CandidatesHold = (c : Content) → IsGrounded c → names_its_sorts c.sig ≡ true → CandidateHolds c

-- the terms of atoms are among these
abbrev pub HasTerms : List ℕ → Atom → Type 0
HasTerms over (Atom.Equal a b) = Has over a.0 × Has over b.0
HasTerms over (Atom.Pred t) = Has over t.0
HasTerms over (Atom.Card s k) = Unit {0}
HasTerms over (Atom.Bound n) = Unit {0}

abbrev pub AllHaveTerms : List ℕ → List Literal → Type 0
AllHaveTerms over [] = Unit {0}
AllHaveTerms over (l ∷ ls) = HasTerms over l.atom × AllHaveTerms over ls

-- the terms of an instance are terms where the substitution's are, have their arguments among them, but for the
-- substitution's own, and have the terms of its literals among them
pub record AreInstanceTerms (terms : List Term) (subst : List ℕ) (lits : List Plit) : Type 0 where
  pub there : AreTermsOf terms subst → AreTermsOf terms (clause_terms terms subst lits)
  pub closed : ArgumentsIn terms (clause_terms terms subst lits) subst
  pub atoms : (ls : List Literal) → ground_literals terms subst lits ≡ Some ls → AllHaveTerms (clause_terms terms subst lits) ls

abbrev pub InstanceTermsHold : Type 0
InstanceTermsHold = (terms : List Term) (subst : List ℕ) (lits : List Plit) → AreInstanceTerms terms subst lits

-- those at the start are terms with their arguments
pub record AreStartTerms (set : ClauseSet) (terms : List Term) : Type 0 where
  pub there : AreTermsOf terms (start_terms set terms)
  pub closed : ArgumentsIn terms (start_terms set terms) []

abbrev pub StartTermsHold : Type 0
StartTermsHold = (set : ClauseSet) (terms : List Term) → AreStartTerms set terms

-- with the fresh constants each sort has a term at the start
abbrev pub StartsAreInhabited : Type 0
StartsAreInhabited =
    (set : ClauseSet) (terms : List Term) → HasFreshConstants set → HasStartTerms set terms → (s : ℕ) → s < set.sig.sorts
    → (n : ℕ) × Has (start_terms set terms) n × (is_type (type_of set.sig terms n) (Ty.Of (record { 0 = s })) ≡ true)

-- rounds come to an end: the terms of an added instance over representatives are reached
abbrev pub InstancesAreReached : Type 0
InstancesAreReached =
    (c : Content) → IsGrounded c → (i : List ℕ × List ℕ) (n : ℕ) → Has c.added i → ((k : ℕ) → Has i.0 k → Has (reached c).reps k)
    → Has i.1 n → IsReachedTerm c n

-- the test makes a literal of the instance true
pub record IsTrueBy (c : Content) (lits : List Plit) (subst : List ℕ) : Type 0 where
  pub literals : List Literal
  pub grounded : ground_literals c.terms subst lits ≡ Some literals
  pub atoms : list_all (λ (l : Literal). is_atom c.sig c.terms l.atom) literals ≡ true
  pub some : list_any (literal_by c) literals ≡ true

abbrev pub AreTrueBy : Content → List Clause → List (ℕ × List ℕ) → Type 0
AreTrueBy c clauses added = (i : ℕ × List ℕ) (clause : Clause) → Has added i → slice_get clauses i.0 ≡ Some clause → IsTrueBy c clause.lits i.1

-- well sorted clauses of a grounded content's signature
pub record IsSearched (set : ClauseSet) (c : Content) : Type 0 where
  pub grounded : IsGrounded c
  pub named : names_its_sorts set.sig ≡ true
  pub sorted : list_all (is_sorted_clause set.sig) set.clauses ≡ true

-- then the added instances over representatives are true in the candidate
abbrev pub AddedAreTrue : Type 0
AddedAreTrue =
    (set : ClauseSet) (terms : List Term) (same : ℕ → ℕ → Bool) (added : List (ℕ × List ℕ)) → IsSearched set (content_of set terms same added)
    → AreTrueBy (content_of set terms same added) set.clauses added
    → AreTrueThere (candidate_reading (content_of set terms same added)) (representatives (content_of set terms same added)) set.clauses added

-- the candidate and its tables have one sum, and are alike in what fails and in which added instances are true
pub record TablesAreAlike (c : Content) (clauses : List Clause) : Type 0 where
  pub sum : sum_of_sizes c.sig (reading_of (candidate c)) ≡ sum_of_sizes c.sig (candidate_reading c)
  pub failing : failing_instance (reading_of (candidate c)) (representatives c) clauses ≡ failing_instance (candidate_reading c) (representatives c) clauses
  pub added : (added : List (ℕ × List ℕ)) → AreTrueThere (candidate_reading c) (representatives c) clauses added → AreTrueThere (reading_of (candidate c)) (representatives c) clauses added

abbrev pub TablesReadAlike : Type 0
TablesReadAlike =
    (c : Content) (clauses : List Clause) → IsGrounded c → names_its_sorts c.sig ≡ true → list_all (is_sorted_clause c.sig) clauses ≡ true
    → TablesAreAlike c clauses
